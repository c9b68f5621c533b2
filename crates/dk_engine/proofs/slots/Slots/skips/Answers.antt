use Rattle.std.specs.Prelude.{◌≡◌, List, true}
use Rattle.std.proofs.Common.{◌∙◌, rules, subst, sym}
use Rattle.dk_base.specs.Values.{values_of}
use Rattle.dk_engine.proofs.Passing.{none_passes, passes_still}
use Rattle.dk_engine.specs.Idle.{PassesStill, meets}
use Rattle.dk_engine.specs.declared.slots.slot.Slot.{Slot}
use Rattle.dk_engine.proofs.slots.Slots.skips.Goals as goal

pub returns-then-meets : goal.returns-then-meets
returns-then-meets c =
    let s = c.self.inside in
    let sample = values_of c.args.sample.now in
    let skips : c.as_slice.result.now ≡ s.notes.skips.items = search rules in
    let meeting : meets s.notes.watch sample ≡ true = sym c.meets.ensures ∙ c.if-meets.true in
    subst (λ (ss : List Slot). PassesStill sample ss c.as_slice.result.now) c.self.view_is
    (subst (PassesStill sample s.all.items) (sym skips) (passes_still s.notes.watch s.all.items s.notes.skips.items c.self.invariant sample meeting))

pub returns-else-meets : goal.returns-else-meets
returns-else-meets c = none_passes (values_of c.args.sample.now) c.args.self.now
