-- Slots ascend by their numbers.
use Rattle.std.specs.Prelude.{◌≡◌, ◌<◌, ◌≤◌, ◌⊎◌, ◌+◌, ◌*◌, ◌==◌, ◌++◌, ℕ, Bool, false, All, Contains, List, [], ◌∷◌, cond, length, refl}
use Rattle.std.specs.List.{AllPairs, dedup, dedup_from}
use Rattle.std.specs.List.Sorted.{IsNonDecreasingBy, IsPermutation}
use Rattle.std.proofs.Common.{ap, ◌∙◌, arith, get_or, inl, inr, subst, sym}
use Rattle.std.proofs.lemmas.Bool.{cases_Bool, cases_eq, cases_lt, eq-eqb, eqb-true, true≢false}
use Rattle.std.proofs.lemmas.List.{append-nil, get_or_past}
use Rattle.std.proofs.lemmas.List.Elements.{All-contains, Contains-get_or}
use Rattle.std.proofs.lemmas.List.Sorted.{All-permutation, Contains-permutation, IsPermutation-sym}
use Rattle.dk_base.specs.declared.kinds.VarId.{VarId}
use Rattle.dk_classes.specs.Leaders.{var}
use Rattle.dk_forms.specs.Laws.{IsIn}
use Rattle.dk_instances.proofs.Ascending.{Ascend, ascend_from_pairs, pairs}
use Rattle.dk_instances.proofs.Members.{contained, is_in}
use Rattle.dk_instances.specs.Instances.{Precedes}
use Rattle.dk_template.specs.Templates.{arity_of}
use Rattle.dk_engine.specs.Exact.{SlotBefore}
use Rattle.dk_engine.specs.Feeding.Merged.{AreTogether, HasNumber, slot_number, var_bound, var_in}
use Rattle.dk_engine.specs.declared.slots.slot.Slot.{Slot}

-- ---- numbers of two digits
digit_below : (a b x y : ℕ) → x < var_bound → y < var_bound → a * var_bound + x < b * var_bound + y → (a < b) ⊎ ((a ≡ b) × (x < y))
digit_below a b x y l m h = elim (cases_lt a b) as (λ _. (a < b) ⊎ ((a ≡ b) × (x < y))) [
  | inl lt ↦ inl lt
  | inr ge ↦
      let same : a ≡ b = omega (arith, l, m, h, ge) in
      inr (same, omega (arith, h, same))
]

digit_same : (a b x y : ℕ) → x < var_bound → y < var_bound → a * var_bound + x ≡ b * var_bound + y → (a ≡ b) × (x ≡ y)
digit_same a b x y l m h =
    let same : a ≡ b = omega (arith, l, m, h) in
    (same, omega (arith, h, same))

-- ---- tuples
in_below : (vars : List VarId) → All (λ (v : VarId). v.0 < var_bound) vars → (k : ℕ) → var_in vars k < var_bound
in_below vars below k = elim (cases_lt k (length vars)) [
  | inl l ↦ below k (var 0) l
  | inr past ↦ subst (λ (v : VarId). v.0 < var_bound) (sym (get_or_past vars k (var 0) past)) (omega arith)
]

-- three numbers in the order of the first at which they differ
abbrev AreBelow : (a b c x y z : ℕ) → Type 0
AreBelow a b c x y z = (a < x) ⊎ ((a ≡ x) × ((b < y) ⊎ ((b ≡ y) × (c < z))))

precede : (vs ws : List VarId) → length vs ≡ length ws → length vs ≤ 3 → AreBelow (var_in vs 0) (var_in vs 1) (var_in vs 2) (var_in ws 0) (var_in ws 1) (var_in ws 2) → Precedes vs ws
precede [] [] same few h = none h
  where
    none : AreBelow 0 0 0 0 0 0 → ⊥
    none (inl l) = omega (arith, l)
    none (inr (e, inl l)) = omega (arith, l)
    none (inr (e, inr (f, l))) = omega (arith, l)
precede [] (w ∷ ws) same few h = absurd (omega (arith, same))
precede (v ∷ vs) [] same few h = absurd (omega (arith, same))
precede (v ∷ []) (w ∷ []) same few (inl l) = inl l
precede (v ∷ []) (w ∷ []) same few (inr (e, inl l)) = absurd (omega (arith, l))
precede (v ∷ []) (w ∷ []) same few (inr (e, inr (f, l))) = absurd (omega (arith, l))
precede (v ∷ []) (w ∷ y ∷ ws) same few h = absurd (omega (arith, same))
precede (v ∷ x ∷ vs) (w ∷ []) same few h = absurd (omega (arith, same))
precede (v ∷ x ∷ []) (w ∷ y ∷ []) same few (inl l) = inl l
precede (v ∷ x ∷ []) (w ∷ y ∷ []) same few (inr (e, inl l)) = inr (e, inl l)
precede (v ∷ x ∷ []) (w ∷ y ∷ []) same few (inr (e, inr (f, l))) = absurd (omega (arith, l))
precede (v ∷ x ∷ []) (w ∷ y ∷ z ∷ ws) same few h = absurd (omega (arith, same))
precede (v ∷ x ∷ u ∷ vs) (w ∷ y ∷ []) same few h = absurd (omega (arith, same))
precede (v ∷ x ∷ u ∷ []) (w ∷ y ∷ z ∷ []) same few (inl l) = inl l
precede (v ∷ x ∷ u ∷ []) (w ∷ y ∷ z ∷ []) same few (inr (e, inl l)) = inr (e, inl l)
precede (v ∷ x ∷ u ∷ []) (w ∷ y ∷ z ∷ []) same few (inr (e, inr (f, l))) = inr (e, inr (f, inl l))
precede (v ∷ x ∷ u ∷ []) (w ∷ y ∷ z ∷ t ∷ ws) same few h = absurd (omega (arith, same))
precede (v ∷ x ∷ u ∷ t ∷ vs) (w ∷ y ∷ z ∷ ws) same few h = absurd (omega (arith, few))

alike : (vs ws : List VarId) → length vs ≡ length ws → length vs ≤ 3 → var_in vs 0 ≡ var_in ws 0 → var_in vs 1 ≡ var_in ws 1 → var_in vs 2 ≡ var_in ws 2 → vs ≡ ws
alike [] [] same few a b c = refl
alike [] (w ∷ ws) same few a b c = absurd (omega (arith, same))
alike (v ∷ vs) [] same few a b c = absurd (omega (arith, same))
alike (v ∷ []) (w ∷ []) same few a b c = ap (λ (n : ℕ). record { 0 = n } ∷ []) a
alike (v ∷ []) (w ∷ y ∷ ws) same few a b c = absurd (omega (arith, same))
alike (v ∷ x ∷ vs) (w ∷ []) same few a b c = absurd (omega (arith, same))
alike (v ∷ x ∷ []) (w ∷ y ∷ []) same few a b c = ap (λ (n : ℕ). record { 0 = n } ∷ x ∷ []) a ∙ ap (λ (n : ℕ). w ∷ record { 0 = n } ∷ []) b
alike (v ∷ x ∷ []) (w ∷ y ∷ z ∷ ws) same few a b c = absurd (omega (arith, same))
alike (v ∷ x ∷ u ∷ vs) (w ∷ y ∷ []) same few a b c = absurd (omega (arith, same))
alike (v ∷ x ∷ u ∷ []) (w ∷ y ∷ z ∷ []) same few a b c =
    ap (λ (n : ℕ). record { 0 = n } ∷ x ∷ u ∷ []) a ∙ (ap (λ (n : ℕ). w ∷ record { 0 = n } ∷ u ∷ []) b ∙ ap (λ (n : ℕ). w ∷ y ∷ record { 0 = n } ∷ []) c)
alike (v ∷ x ∷ u ∷ []) (w ∷ y ∷ z ∷ t ∷ ws) same few a b c = absurd (omega (arith, same))
alike (v ∷ x ∷ u ∷ t ∷ vs) (w ∷ y ∷ z ∷ ws) same few a b c = absurd (omega (arith, few))

-- ---- slots
abbrev first_of : Slot → ℕ
first_of s = s.row.0 * var_bound + var_in s.leaders 0

abbrev second_of : Slot → ℕ
second_of s = first_of s * var_bound + var_in s.leaders 1

arities : (a b : Slot) → HasNumber a → HasNumber b → a.row ≡ b.row → length a.leaders ≡ length b.leaders
arities a b ha hb same = ha.long ∙ (ap arity_of same ∙ sym hb.long)

pub number_before : (a b : Slot) → HasNumber a → HasNumber b → slot_number a < slot_number b → SlotBefore a b
unfolding slot_number
number_before a b ha hb h =
    let third = digit_below (second_of a) (second_of b) (var_in a.leaders 2) (var_in b.leaders 2) (in_below a.leaders ha.below 2) (in_below b.leaders hb.below 2) h in
    elim third as (λ _. SlotBefore a b) [
      | inl l ↦ by_second (inl l)
      | inr e ↦ by_second (inr e)
    ]
  where
    with_row : (a.row.0 < b.row.0) ⊎ ((a.row.0 ≡ b.row.0) × AreBelow (var_in a.leaders 0) (var_in a.leaders 1) (var_in a.leaders 2) (var_in b.leaders 0) (var_in b.leaders 1) (var_in b.leaders 2)) → SlotBefore a b
    with_row (inl l) = inl l
    with_row (inr (e, l)) =
        let same : a.row ≡ b.row = ap (λ (n : ℕ). record { 0 = n }) e in
        inr (same, precede a.leaders b.leaders (arities a b ha hb same) ha.few l)

    by_first : (first_of a < first_of b) ⊎ ((first_of a ≡ first_of b) × ((var_in a.leaders 1 < var_in b.leaders 1) ⊎ ((var_in a.leaders 1 ≡ var_in b.leaders 1) × (var_in a.leaders 2 < var_in b.leaders 2)))) → SlotBefore a b
    by_first (inl l) = elim (digit_below a.row.0 b.row.0 (var_in a.leaders 0) (var_in b.leaders 0) (in_below a.leaders ha.below 0) (in_below b.leaders hb.below 0) l) as (λ _. SlotBefore a b) [
      | inl m ↦ with_row (inl m)
      | inr e ↦ with_row (inr (e.0, inl e.1))
    ]
    by_first (inr (e, rest)) =
        let d = digit_same a.row.0 b.row.0 (var_in a.leaders 0) (var_in b.leaders 0) (in_below a.leaders ha.below 0) (in_below b.leaders hb.below 0) e in
        with_row (inr (d.0, inr (d.1, rest)))

    by_second : (second_of a < second_of b) ⊎ ((second_of a ≡ second_of b) × (var_in a.leaders 2 < var_in b.leaders 2)) → SlotBefore a b
    by_second (inl l) = elim (digit_below (first_of a) (first_of b) (var_in a.leaders 1) (var_in b.leaders 1) (in_below a.leaders ha.below 1) (in_below b.leaders hb.below 1) l) as (λ _. SlotBefore a b) [
      | inl m ↦ by_first (inl m)
      | inr e ↦ by_first (inr (e.0, inl e.1))
    ]
    by_second (inr (e, l)) =
        let d = digit_same (first_of a) (first_of b) (var_in a.leaders 1) (var_in b.leaders 1) (in_below a.leaders ha.below 1) (in_below b.leaders hb.below 1) e in
        by_first (inr (d.0, inr (d.1, l)))

pub number_same : (a b : Slot) → HasNumber a → HasNumber b → slot_number a ≡ slot_number b → (a.row ≡ b.row) × (a.leaders ≡ b.leaders)
unfolding slot_number
number_same a b ha hb h =
    let third = digit_same (second_of a) (second_of b) (var_in a.leaders 2) (var_in b.leaders 2) (in_below a.leaders ha.below 2) (in_below b.leaders hb.below 2) h in
    let second = digit_same (first_of a) (first_of b) (var_in a.leaders 1) (var_in b.leaders 1) (in_below a.leaders ha.below 1) (in_below b.leaders hb.below 1) third.0 in
    let first = digit_same a.row.0 b.row.0 (var_in a.leaders 0) (var_in b.leaders 0) (in_below a.leaders ha.below 0) (in_below b.leaders hb.below 0) second.0 in
    let same : a.row ≡ b.row = ap (λ (n : ℕ). record { 0 = n }) first.0 in
    (same, alike a.leaders b.leaders (arities a b ha hb same) ha.few first.1 second.1 third.1)

-- ---- lists that don't fall, without what has a number twice
abbrev pub same_number : Slot → Slot → Bool
same_number a b = slot_number a == slot_number b

abbrev Rises : List Slot → Type 0
Rises slots = Ascend (λ a b. slot_number a ≤ slot_number b) slots

from_dedup : (k : Slot) (slots : List Slot) (s : Slot) → IsIn s (dedup_from same_number k slots) → IsIn s (k ∷ slots)
from_dedup k [] s i = i
from_dedup k (x ∷ slots) s i = elim (cases_Bool (same_number x k)) [
  | inl e ↦
      let here : IsIn s (dedup_from same_number k slots) = subst (λ b. IsIn s (cond b (dedup_from same_number k slots) (k ∷ dedup_from same_number x slots))) e i in
      elim (from_dedup k slots s here) as (λ _. IsIn s (k ∷ x ∷ slots)) [ inl a ↦ inl a | inr a ↦ inr (inr a) ]
  | inr e ↦
      let here : IsIn s (k ∷ dedup_from same_number x slots) = subst (λ b. IsIn s (cond b (dedup_from same_number k slots) (k ∷ dedup_from same_number x slots))) e i in
      elim here as (λ _. IsIn s (k ∷ x ∷ slots)) [ inl a ↦ inl a | inr a ↦ inr (from_dedup x slots s a) ]
]

dedup_rises : (k : Slot) (slots : List Slot) → Rises (k ∷ slots) → Ascend (λ a b. slot_number a < slot_number b) (dedup_from same_number k slots)
dedup_rises k [] up = (λ y i. absurd i, tt)
dedup_rises k (x ∷ slots) up = elim (cases_Bool (same_number x k)) [
  | inl e ↦
      subst (λ b. Ascend (λ s t. slot_number s < slot_number t) (cond b (dedup_from same_number k slots) (k ∷ dedup_from same_number x slots))) (sym e) (dedup_rises k slots (λ y i. up.0 y (inr i), up.1.1))
  | inr e ↦
      subst (λ b. Ascend (λ s t. slot_number s < slot_number t) (cond b (dedup_from same_number k slots) (k ∷ dedup_from same_number x slots))) (sym e)
      (λ y i. above y (from_dedup x slots y i) (up.0 x (inl refl)) (apart e), dedup_rises x slots up.1)
]
  where
    apart : same_number x k ≡ false → slot_number k < slot_number x
    apart e = elim (cases_eq (slot_number x) (slot_number k)) [
      | inl same ↦ absurd (true≢false (sym (eq-eqb (slot_number x) (slot_number k) same) ∙ e))
      | inr not_same ↦ let low = up.0 x (inl refl) in omega (arith, low, λ (q : slot_number x ≡ slot_number k). not_same q)
    ]

    above : (y : Slot) → IsIn y (x ∷ slots) → slot_number k ≤ slot_number x → slot_number k < slot_number x → slot_number k < slot_number y
    above y (inl same) low lt = subst (λ s. slot_number k < slot_number s) (sym same) lt
    above y (inr later) low lt = let high = up.1.0 y later in omega (arith, lt, high)

dedup_has : (k : Slot) (slots : List Slot) (s : Slot) → IsIn s (k ∷ slots) → (t : Slot) × IsIn t (dedup_from same_number k slots) × (slot_number t ≡ slot_number s)
dedup_has k [] s (inl e) = (k, inl refl, ap slot_number (sym e))
dedup_has k [] s (inr i) = absurd i
dedup_has k (x ∷ slots) s i = elim (cases_Bool (same_number x k)) [
  | inl e ↦
      let found : (t : Slot) × IsIn t (dedup_from same_number k slots) × (slot_number t ≡ slot_number s) = elim i as (λ _. (t : Slot) × IsIn t (dedup_from same_number k slots) × (slot_number t ≡ slot_number s)) [
        | inl a ↦ dedup_has k slots s (inl a)
        | inr rest ↦ elim rest as (λ _. (t : Slot) × IsIn t (dedup_from same_number k slots) × (slot_number t ≡ slot_number s)) [
          | inl b ↦ let first = dedup_has k slots k (inl refl) in (first.0, first.1, first.2 ∙ (sym (eqb-true (slot_number x) (slot_number k) e) ∙ ap slot_number (sym b)))
          | inr c ↦ dedup_has k slots s (inr c)
        ]
      ] in
      (found.0, subst (λ b. IsIn found.0 (cond b (dedup_from same_number k slots) (k ∷ dedup_from same_number x slots))) (sym e) found.1, found.2)
  | inr e ↦
      let found : (t : Slot) × IsIn t (k ∷ dedup_from same_number x slots) × (slot_number t ≡ slot_number s) = elim i as (λ _. (t : Slot) × IsIn t (k ∷ dedup_from same_number x slots) × (slot_number t ≡ slot_number s)) [
        | inl a ↦ (k, inl refl, ap slot_number (sym a))
        | inr rest ↦ let later = dedup_has x slots s rest in (later.0, inr later.1, later.2)
      ] in
      (found.0, subst (λ b. IsIn found.0 (cond b (dedup_from same_number k slots) (k ∷ dedup_from same_number x slots))) (sym e) found.1, found.2)
]

rises : (slots : List Slot) → IsNonDecreasingBy slot_number slots → Rises slots
rises slots up = ascend_from_weak slots (λ i j d l m. up i j d (omega (arith, l)) m)
  where
    ascend_from_weak : (xs : List Slot) → AllPairs (λ a b. slot_number a ≤ slot_number b) xs → Rises xs
    ascend_from_weak xs h = ascend_from_pairs (λ a b. slot_number a ≤ slot_number b) xs h

pub deduped_together : (all sorted : List Slot) → All HasNumber all → IsPermutation all sorted → IsNonDecreasingBy slot_number sorted → AreTogether all (dedup same_number sorted)
deduped_together all sorted numbered permuted up = go sorted numbered_now (rises sorted up) (λ s c. Contains-permutation all sorted s permuted c) (λ s c. Contains-permutation sorted all s (IsPermutation-sym all sorted permuted) c)
  where
    numbered_now : All HasNumber sorted
    numbered_now = All-permutation HasNumber all sorted permuted numbered

    go : (xs : List Slot) → All HasNumber xs → Rises xs → ((s : Slot) → Contains all s → Contains xs s) → ((s : Slot) → Contains xs s → Contains all s) → AreTogether all (dedup same_number xs)
    go [] each low to from = record {
      ascend = λ i j d l m. absurd (omega (arith, m));
      from = λ s c. from s c;
      has = λ s c. let d = to s c in let l = d.1 in absurd (omega (arith, l));
    }
    go (x ∷ xs) each low to from =
        let made = dedup_from same_number x xs in
        let back : (s : Slot) → Contains made s → Contains (x ∷ xs) s = λ s c. contained s (x ∷ xs) (from_dedup x xs s (is_in s made c.0 c.1 c.2)) in
        record {
          ascend = λ i j d l m.
              let a = get_or made i d in
              let b = get_or made j d in
              number_before a b (All-contains HasNumber (x ∷ xs) a each (back a (Contains-get_or made i d (omega (arith, l, m))))) (All-contains HasNumber (x ∷ xs) b each (back b (Contains-get_or made j d m)))
              (pairs (λ s t. slot_number s < slot_number t) made (dedup_rises x xs low) i j d l m);
          from = λ s c. from s (back s c);
          has = λ s c.
              let there = to s c in
              let found = dedup_has x xs s (is_in s (x ∷ xs) there.0 there.1 there.2) in
              let kept = contained found.0 made found.1 in
              let same = number_same found.0 s (All-contains HasNumber (x ∷ xs) found.0 each (back found.0 kept)) (All-contains HasNumber (x ∷ xs) s each there) found.2 in
              (found.0, kept, same.0, same.1);
        }

-- with nothing more
pub alone_together : (slots : List Slot) → AllPairs SlotBefore slots → AreTogether (slots ++ []) slots
alone_together slots up = subst (λ all. AreTogether all slots) (sym (append-nil slots)) (record { ascend = up; from = λ s c. c; has = λ s c. (s, c, refl, refl) })
