use Rattle.std.specs.Prelude.{◌≡◌, ◌-◌}
use Rattle.std.proofs.Common.{◌∙◌, ap, arith, get_or, subst, sym}
use Rattle.std.proofs.lemmas.Bool.{false≢true}
use Rattle.std.proofs.lemmas.List.{get_or_default}
use Rattle.dk_engine.proofs.Ordered.{before_test, order_more, test_before}
use Rattle.dk_engine.specs.Exact.{SlotBefore}
use Rattle.dk_engine.specs.Sweeps.Ordering.{is_slot_before}
use Rattle.dk_engine.specs.declared.slots.slot.Slot.{Slot}
use Rattle.dk_engine.proofs.saved.conditions.are_in_order.Goals as goal

pub returns-then-not-is_before : goal.returns-then-not-is_before
returns-then-not-is_before c =
    let slots = c.args.slots.now in
    let i = c.loop-i.i in
    let first : Slot = c.index-slots-i-in-loop-i.result in
    let next : Slot = c.index-slots-i.result in
    let some = c.loop-i.auto.i in
    let within = c.loop-i-test.true in
    let told : c.is_before.result ≡ is_slot_before next.row next.leaders first = c.is_before.ensures ∙ ap (λ vars. is_slot_before next.row vars first) c.as_slice.ensures.items in
    let at : get_or slots (i - 1) next ≡ first = sym (c.index-slots-i-in-loop-i.is ∙ get_or_default slots (i - 1) first next (omega (arith, some, within))) in (
      λ f. absurd (false≢true f),
      λ all. absurd (false≢true (sym c.if-not-is_before.true ∙ (told ∙ before_test first next (subst (λ s. SlotBefore s next) at
          (subst (SlotBefore (get_or slots (i - 1) next)) (sym c.index-slots-i.is) (all (i - 1) i next (omega (arith, some)) within)))))),
    )

pub loop-i-preserved : goal.loop-i-preserved
loop-i-preserved c =
    let slots = c.args.slots.now in
    let i = c.loop-i.i in
    let first : Slot = c.index-slots-i-in-loop-i.result in
    let next : Slot = c.index-slots-i.result in
    let some = c.loop-i.auto.i in
    let within = c.loop-i-test.true in
    let told : c.is_before.result ≡ is_slot_before next.row next.leaders first = c.is_before.ensures ∙ ap (λ vars. is_slot_before next.row vars first) c.as_slice.ensures.items in
    let last = test_before first next (sym told ∙ c.if-not-is_before.false) in
    order_more slots i some c.loop-i.invariant (λ d.
    subst (λ s. SlotBefore s (get_or slots i d)) (c.index-slots-i-in-loop-i.is ∙ get_or_default slots (i - 1) first d (omega (arith, some, within)))
    (subst (SlotBefore first) (c.index-slots-i.is ∙ get_or_default slots i next d within) last))
