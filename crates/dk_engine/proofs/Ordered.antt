-- Slots of which each comes before the next are in order.
use Rattle.std.specs.Prelude.{◌≡◌, ◌<◌, ◌≤◌, ◌+◌, ◌-◌, ℕ, true, List}
use Rattle.std.proofs.Common.{arith, get_or, inl, inr, subst}
use Rattle.std.proofs.lemmas.Bool.{cases_lt}
use Rattle.dk_engine.proofs.SlotPlaces.{before_true, earlier, true_before}
use Rattle.dk_engine.specs.Exact.{SlotBefore}
use Rattle.dk_engine.specs.Sweeps.Ordering.{is_slot_before}
use Rattle.dk_engine.specs.declared.slots.slot.Slot.{Slot}

pub test_before : (a b : Slot) → is_slot_before b.row b.leaders a ≡ true → SlotBefore a b
test_before a b h = true_before b.row b.leaders a h

pub before_test : (a b : Slot) → SlotBefore a b → is_slot_before b.row b.leaders a ≡ true
before_test a b h = before_true b.row b.leaders a h

before_both : (a b c : Slot) → SlotBefore a b → SlotBefore b c → SlotBefore a c
before_both a b c ab bc = test_before a c (earlier c.row c.leaders a b ab (before_test b c bc))

-- the slots below a place are in order
abbrev OrderedBelow : List Slot → ℕ → Type 0
OrderedBelow slots n = (a b : ℕ) (d : Slot) → a < b → b < n → SlotBefore (get_or slots a d) (get_or slots b d)

pub order_more : (slots : List Slot) (i : ℕ) → 1 ≤ i → OrderedBelow slots i → ((d : Slot) → SlotBefore (get_or slots (i - 1) d) (get_or slots i d)) → OrderedBelow slots (i + 1)
order_more slots i some below last a b d l m = elim (cases_lt b i) as (λ _. SlotBefore (get_or slots a d) (get_or slots b d)) [
  | inl before ↦ below a b d l before
  | inr up ↦
      let same : i ≡ b = omega (arith, m, up) in
      subst (λ n. SlotBefore (get_or slots a d) (get_or slots n d)) same (elim (cases_lt a (i - 1)) as (λ _. SlotBefore (get_or slots a d) (get_or slots i d)) [
        | inl far ↦ before_both (get_or slots a d) (get_or slots (i - 1) d) (get_or slots i d) (below a (i - 1) d far (omega (arith, some))) (last d)
        | inr near ↦ let at : i - 1 ≡ a = omega (arith, l, same, near) in subst (λ n. SlotBefore (get_or slots n d) (get_or slots i d)) at (last d)
      ])
]
