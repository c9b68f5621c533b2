use Rattle.std.specs.Prelude.{◌≡◌, ◌<◌, List, length}
use Rattle.std.proofs.Common.{◌∙◌, ap, arith, get_or, inl, inr, subst}
use Rattle.std.proofs.lemmas.Bool.{cases_lt}
use Rattle.std.proofs.lemmas.List.{get_or_default}
use Rattle.dk_engine.specs.Saved.Restored.{IsOpenSlot}
use Rattle.dk_engine.specs.declared.slots.slot.Slot.{Slot}
use Rattle.dk_engine.proofs.saved.conditions.are_open_slots.Goals as goal

pub loop-slot-preserved : goal.loop-slot-preserved
loop-slot-preserved c =
    let slots = c.args.kept.now.slots in
    let i = c.loop-slot.slot-index in
    let slot = c.slot-item.result in
    let all = c.as_slice-slot-items.ensures in
    let within : i < length slots = subst (λ (ss : List Slot). i < length ss) all c.loop-slot-test.true in
    λ k d l. elim (cases_lt k i) as (λ _. IsOpenSlot c.args.grammar c.args.infos.now c.args.kept.now (get_or slots k d)) [
      | inl below ↦ c.loop-slot.invariant k d below
      | inr up ↦
          let same : i ≡ k = omega (arith, l, up) in
          let is : slot ≡ get_or slots i d = c.slot-item.is ∙ (ap (λ (ss : List Slot). get_or ss i slot) all ∙ get_or_default slots i slot d within) in
          subst (λ n. IsOpenSlot c.args.grammar c.args.infos.now c.args.kept.now (get_or slots n d)) same (subst (IsOpenSlot c.args.grammar c.args.infos.now c.args.kept.now) is (c.is_open_slot.ensures.0 c.if-not-is_open_slot.false))
    ]
