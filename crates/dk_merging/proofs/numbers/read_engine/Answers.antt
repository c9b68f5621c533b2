use Rattle.std.specs.Prelude.{All}
use Rattle.std.proofs.Common.{subst}
use Rattle.dk_engine.specs.declared.slots.slot.Slot.{Slot}
use Rattle.dk_merging.specs.Numbers.{AreNumbersWithin}
use Rattle.dk_merging.proofs.SlotsFit.{slots_fit}
use Rattle.dk_merging.proofs.numbers.read_engine.Goals as goal

pub returns : goal.returns
returns c =
    let engine = c.args.engine.now in
    let within = subst (All (λ (slot : Slot). AreNumbersWithin slot.state)) c.slots.ensures c.read_states.ensures in
    slots_fit engine.grammar engine.infos engine.kept c.kept.ensures.point c.kept.ensures.fed within
