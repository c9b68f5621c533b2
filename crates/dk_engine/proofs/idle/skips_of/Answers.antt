use Rattle.std.specs.Prelude.{◌≡◌}
use Rattle.std.proofs.Common.{rules, subst, sym}
use Rattle.dk_engine.proofs.Passing.{no_notes}
use Rattle.dk_engine.specs.Idle.{AreNotes}
use Rattle.dk_engine.proofs.idle.skips_of.Goals as goal

pub loop-behind-init : goal.loop-behind-init
loop-behind-init c = subst (AreNotes c.args.watch.now c.args.slots.now) (sym c.in_ok-skips.ensures) (no_notes c.args.watch.now c.args.slots.now)

pub note_idle-requires-clause-notes : goal.note_idle-requires-clause-notes
note_idle-requires-clause-notes c =
    let same : c.as_mut_slice.result.now ≡ c.loop-behind.skips.items = search rules in
    subst (AreNotes c.args.watch.now c.args.slots.now) (sym same) c.loop-behind.invariant

pub returns : goal.returns
returns c = c.loop-behind.invariant.1
