-- What a sample tells of which the facts are true, and the bounds, comparisons and lines that it doesn't change then.
use Rattle.std.specs.Prelude.{◌≡◌, ◌≤◌, ◌^◌, ◌&&◌, ◌||◌, ◌==◌, ℕ, ℤ, neg_ℤ, Bool, true, false, List, [], ◌∷◌, None, int_le, nat_le, refl, unsigned_abs}
use Rattle.std.specs.List.{list_all}
use Rattle.std.proofs.Common.{◌∙◌, ap, arith, inl, inr, subst, sym}
use Rattle.std.specs.Ordering.{int_eq}
use Rattle.std.proofs.lemmas.Bool.{and_parts, cases_Bool, eqb-true, false≢true, or_cases}
use Rattle.std.proofs.lemmas.Bool.Decides.{Decides-int_eq}
use Rattle.std.proofs.lemmas.Int.{ints}
use Rattle.dk_base.specs.Values.Tuples.{int_of, value_at}
use Rattle.dk_base.specs.declared.kinds.VarId.{VarId}
use Rattle.dk_base.specs.declared.values.Value.{Value}
use Rattle.dk_base.specs.declared.values.Value.TheVariants as value
use Rattle.dk_instances.specs.Fits.{is_whole, tuple_in}
use Rattle.dk_forms.specs.declared.states.State.{State}
use Rattle.dk_forms.specs.Plane.Line.{line_join, line_of}
use Rattle.dk_forms.specs.declared.states.State.TheVariants.{Greatest, Holds, Least}
use Rattle.dk_meanings.specs.Meanings.{meanings, state_of}
use Rattle.dk_template.specs.Templates.{form_of, rows}
use Rattle.dk_template.specs.declared.templates.StateForm.TheVariants as form
use Rattle.dk_samples.specs.Samples.{is_present, value_in}
use Rattle.dk_engine.proofs.Bounding.{compared_slot, compared_so, greatest_kept, least_kept, lower_slot, of_missing, slot_of_missing}
use Rattle.dk_engine.proofs.Ascending.{ordered_so}
use Rattle.dk_engine.proofs.OneTuple.{row_by, with_tuple}
use Rattle.dk_engine.proofs.Raising.{upper_slot}
use Rattle.dk_engine.specs.Idle.Bounding.{compares, keeps_greatest, keeps_least}
use Rattle.dk_engine.specs.Feeding.{with_sample}
use Rattle.dk_engine.specs.Idle.{IsIdle, are_in_order, are_near, are_rising, are_so, are_within, compares_first, compares_values, is_between, is_compared, is_from, is_idle_greatest, is_idle_least, is_known, is_listed, is_near, is_near_number, is_numeric, is_one, is_own, is_so, is_to, is_told, is_within, meets}
use Rattle.dk_engine.specs.declared.idle.facts.Compared.{Compared}
use Rattle.dk_engine.specs.declared.idle.facts.Range.{Range}
use Rattle.dk_engine.specs.declared.idle.Watch.{Watch}
use Rattle.dk_engine.specs.declared.slots.slot.Slot.{Slot}

-- ---- a sample of which all facts are true
module _ (watch : Watch) (sample : List Value) (meeting : meets watch sample ≡ true) where
  rest : (are_rising sample None watch.rising.items && are_so sample watch.compared.items) ≡ true
  rest = (and_parts (are_within sample watch.ranges.items) (are_rising sample None watch.rising.items && are_so sample watch.compared.items) meeting).1

  pub all_within : are_within sample watch.ranges.items ≡ true
  all_within = (and_parts (are_within sample watch.ranges.items) (are_rising sample None watch.rising.items && are_so sample watch.compared.items) meeting).0

  all_rising : are_rising sample None watch.rising.items ≡ true
  all_rising = (and_parts (are_rising sample None watch.rising.items) (are_so sample watch.compared.items) rest).0

  all_so : are_so sample watch.compared.items ≡ true
  all_so = (and_parts (are_rising sample None watch.rising.items) (are_so sample watch.compared.items) rest).1

-- ---- bounds
-- a value between two numbers is a number or missing
pub by_value : (least greatest : ℤ) (P : Type 0) (i : Value) → is_between least greatest i ≡ true → (i ≡ value.Missing → P) → ((x : ℤ) → i ≡ value.Int x → P) → P
by_value least greatest P (value.Int x) h missing number = number x refl
by_value least greatest P value.Missing h missing number = missing refl
by_value least greatest P _ h missing number = absurd (false≢true h)

-- the bounds of the variable of which this holds
pub known : (ranges : List Range) (sample : List Value) → are_within sample ranges ≡ true → (v : VarId) (holds : Range → Bool) → is_known ranges v holds ≡ true
    → (r : Range) × (is_between r.least r.greatest (value_in sample v) ≡ true) × (holds r ≡ true)
known [] sample are v holds h = absurd (false≢true h)
known (r ∷ ranges) sample are v holds h =
    let told = and_parts (is_within sample r) (list_all (is_within sample) ranges) are in
    elim (cases_Bool (r.var.0 == v.0 && holds r)) as (λ _. (s : Range) × (is_between s.least s.greatest (value_in sample v) ≡ true) × (holds s ≡ true)) [
      | inl l ↦
          let p = and_parts (r.var.0 == v.0) (holds r) l in
          (r, subst (λ i. is_between r.least r.greatest (value_at sample i) ≡ true) (eqb-true r.var.0 v.0 p.0) told.0, p.1)
      | inr n ↦ known ranges sample told.1 v holds (sym (ap (λ t. t || is_known ranges v holds) n) ∙ h)
    ]

pub no_less : (least from to x : ℤ) → int_le least from ≡ true → (int_le from x && int_le x to) ≡ true → int_le least x ≡ true
no_less least from to x le h = let first = (and_parts (int_le from x) (int_le x to) h).0 in grind (arith, ints)

pub no_greater : (greatest from to x : ℤ) → int_le to greatest ≡ true → (int_le from x && int_le x to) ≡ true → int_le x greatest ≡ true
no_greater greatest from to x le h = let last = (and_parts (int_le from x) (int_le x to) h).1 in grind (arith, ints)

-- such bounds with the least value that they don't move
told_least : (ranges : List Range) (sample : List Value) → are_within sample ranges ≡ true → (v : VarId) (s : State) → is_idle_least ranges v s ≡ true
    → (r : Range) × (is_between r.least r.greatest (value_in sample v) ≡ true) × ((x : ℤ) → value_in sample v ≡ value.Int x → keeps_least s x ≡ true)
told_least ranges sample are v (Least least) h =
    let told = known ranges sample are v (is_from least) h in
    let r = told.0 in
    (r, told.1, λ x at. no_less least r.least r.greatest x told.2 (subst (λ i. is_between r.least r.greatest i ≡ true) at told.1))
told_least ranges sample are v _ h = absurd (false≢true h)

told_greatest : (ranges : List Range) (sample : List Value) → are_within sample ranges ≡ true → (v : VarId) (s : State) → is_idle_greatest ranges v s ≡ true
    → (r : Range) × (is_between r.least r.greatest (value_in sample v) ≡ true) × ((x : ℤ) → value_in sample v ≡ value.Int x → keeps_greatest s x ≡ true)
told_greatest ranges sample are v (Greatest greatest) h =
    let told = known ranges sample are v (is_to greatest) h in
    let r = told.0 in
    (r, told.1, λ x at. no_greater greatest r.least r.greatest x told.2 (subst (λ i. is_between r.least r.greatest i ≡ true) at told.1))
told_greatest ranges sample are v _ h = absurd (false≢true h)

pub idle_least : (watch : Watch) (slot : Slot) → slot.row.0 ≡ 2 → (v : VarId) → slot.leaders ≡ v ∷ [] → is_idle_least watch.ranges.items v slot.state ≡ true → IsIdle watch slot
idle_least watch slot row v over h sample meeting =
    let told = told_least watch.ranges.items sample (all_within watch sample meeting) v slot.state h in
    let r = told.0 in
    by_value r.least r.greatest (with_sample slot.row slot.leaders sample slot.state ≡ slot.state) (value_in sample v) told.1
    (λ at. slot_of_missing slot sample v [] over at)
    (λ x at. sym (lower_slot slot row v over sample x at) ∙ least_kept slot.state x (told.2 x at))

pub idle_greatest : (watch : Watch) (slot : Slot) → slot.row.0 ≡ 3 → (v : VarId) → slot.leaders ≡ v ∷ [] → is_idle_greatest watch.ranges.items v slot.state ≡ true → IsIdle watch slot
idle_greatest watch slot row v over h sample meeting =
    let told = told_greatest watch.ranges.items sample (all_within watch sample meeting) v slot.state h in
    let r = told.0 in
    by_value r.least r.greatest (with_sample slot.row slot.leaders sample slot.state ≡ slot.state) (value_in sample v) told.1
    (λ at. slot_of_missing slot sample v [] over at)
    (λ x at. sym (upper_slot slot row v over sample x at) ∙ greatest_kept slot.state x (told.2 x at))

-- ---- near numbers, and one alone
pub near_between : (least greatest x : ℤ) → nat_le (unsigned_abs least) (2 ^ 30) ≡ true → nat_le (unsigned_abs greatest) (2 ^ 30) ≡ true
    → (int_le least x && int_le x greatest) ≡ true → nat_le (unsigned_abs x) (2 ^ 30) ≡ true
near_between least greatest x low high h =
    let p = and_parts (int_le least x) (int_le x greatest) h in
    let from = p.0 in
    let to = p.1 in
    grind (arith, ints)

-- a variable whose numbers are known to be near has one, or is missing
by_near : (ranges : List Range) (sample : List Value) → are_within sample ranges ≡ true → (v : VarId) → is_near ranges v ≡ true
    → (P : Type 0) → (value_in sample v ≡ value.Missing → P) → ((x : ℤ) → value_in sample v ≡ value.Int x → nat_le (unsigned_abs x) (2 ^ 30) ≡ true → P) → P
by_near ranges sample within v near P missing number =
    let told = known ranges sample within v are_near near in
    let r = told.0 in
    let ends = and_parts (is_near_number r.least) (is_near_number r.greatest) told.2 in
    by_value r.least r.greatest P (value_in sample v) told.1 missing
    (λ x at. number x at (near_between r.least r.greatest x ends.0 ends.1 (subst (λ i. is_between r.least r.greatest i ≡ true) at told.1)))

-- its number, where it isn't missing
pub near_at : (ranges : List Range) (sample : List Value) → are_within sample ranges ≡ true → (v : VarId) → is_near ranges v ≡ true → is_present (value_in sample v) ≡ true
    → (z : ℤ) × (value_in sample v ≡ value.Int z) × (nat_le (unsigned_abs z) (2 ^ 30) ≡ true)
near_at ranges sample within v near there =
    by_near ranges sample within v near ((z : ℤ) × (value_in sample v ≡ value.Int z) × (nat_le (unsigned_abs z) (2 ^ 30) ≡ true))
    (λ at. absurd (false≢true (sym (ap is_present at) ∙ there)))
    (λ x at n. (x, at, n))

pub alone : (least greatest x : ℤ) → least ≡ greatest → (int_le least x && int_le x greatest) ≡ true → x ≡ least
alone least greatest x e h =
    let p = and_parts (int_le least x) (int_le x greatest) h in
    let from = p.0 in
    let to : int_le x least ≡ true = subst (λ i. int_le x i ≡ true) (sym e) p.1 in
    grind (arith, ints)

-- the number of a variable that has one alone
pub listed_number : (ranges : List Range) (sample : List Value) → are_within sample ranges ≡ true → (v : VarId) (d x : ℤ) → is_listed ranges v d ≡ true → value_in sample v ≡ value.Int x → d ≡ neg_ℤ x
listed_number ranges sample within v d x h at =
    let told = known ranges sample within v (is_one d) h in
    let r = told.0 in
    let p = and_parts (int_eq r.least r.greatest) (int_eq d (neg_ℤ r.least)) told.2 in
    let between : (int_le r.least x && int_le x r.greatest) ≡ true = subst (λ i. is_between r.least r.greatest i ≡ true) at told.1 in
    (Decides-int_eq d (neg_ℤ r.least)).0 p.1 ∙ ap neg_ℤ (sym (alone r.least r.greatest x ((Decides-int_eq r.least r.greatest).0 p.0) between))

-- ---- comparisons
-- two variables that are listed compare so
listed_so : (compared : List Compared) (sample : List Value) → are_so sample compared ≡ true → (n : ℕ) (u v : VarId) → is_compared compared n u v ≡ true
    → compares_values n (value_in sample u) (value_in sample v) ≡ true
listed_so [] sample are n u v h = absurd (false≢true h)
listed_so (c ∷ compared) sample are n u v h =
    let told = and_parts (is_so sample c) (list_all (is_so sample) compared) are in
    elim (cases_Bool (c.row.0 == n && (c.first.0 == u.0 && c.second.0 == v.0))) as (λ _. compares_values n (value_in sample u) (value_in sample v) ≡ true) [
      | inl l ↦
          let p = and_parts (c.row.0 == n) (c.first.0 == u.0 && c.second.0 == v.0) l in
          let q = and_parts (c.first.0 == u.0) (c.second.0 == v.0) p.1 in
          sym (ap (λ m. compares_values m (value_at sample c.first.0) (value_at sample c.second.0)) (eqb-true c.row.0 n p.0)
          ∙ (ap (λ i. compares_values n (value_at sample i) (value_at sample c.second.0)) (eqb-true c.first.0 u.0 q.0)
          ∙ ap (λ i. compares_values n (value_at sample u.0) (value_at sample i)) (eqb-true c.second.0 v.0 q.1))) ∙ told.0
      | inr other ↦ listed_so compared sample told.1 n u v (sym (ap (λ t. t || is_compared compared n u v) other) ∙ h)
    ]

-- a slot of a comparison with a sample in which its two values compare so
module _ (slot : Slot) (low : 11 ≤ slot.row.0) (high : slot.row.0 ≤ 14) (u v : VarId) (over : slot.leaders ≡ u ∷ v ∷ []) (holds : slot.state ≡ Holds) (sample : List Value) where
  second_missing : (x : ℤ) → value_in sample u ≡ value.Int x → value_in sample v ≡ value.Missing → is_whole (tuple_in (u ∷ v ∷ []) sample) ≡ false
  second_missing x at_u at_v = ap (λ j. is_present (value_in sample u) && (is_present j && true)) at_v ∙ ap (λ i. is_present i && false) at_u

  kept_first : (x : ℤ) → value_in sample u ≡ value.Int x → (j : Value) → value_in sample v ≡ j → compares_first slot.row.0 x j ≡ true
      → with_sample slot.row slot.leaders sample slot.state ≡ slot.state
  kept_first x at_u (value.Int y) at_v h = compared_slot slot low high u v over holds sample x y at_u at_v (compared_so slot.row x y low high h)
  kept_first x at_u value.Missing at_v h =
      ap (λ vs. with_sample slot.row vs sample slot.state) over ∙ of_missing slot.row (u ∷ v ∷ []) sample slot.state (second_missing x at_u at_v)
  kept_first x at_u _ at_v h = absurd (false≢true h)

  kept_values : (i : Value) → value_in sample u ≡ i → compares_values slot.row.0 i (value_in sample v) ≡ true
      → with_sample slot.row slot.leaders sample slot.state ≡ slot.state
  kept_values (value.Int x) at_u h = kept_first x at_u (value_in sample v) refl h
  kept_values value.Missing at_u h = slot_of_missing slot sample u (v ∷ []) over at_u
  kept_values _ at_u h = absurd (false≢true h)

pub idle_comparison : (watch : Watch) (slot : Slot) → 11 ≤ slot.row.0 → slot.row.0 ≤ 14 → (u v : VarId) → slot.leaders ≡ u ∷ v ∷ [] → slot.state ≡ Holds
    → is_compared watch.compared.items slot.row.0 u v ≡ true → IsIdle watch slot
idle_comparison watch slot low high u v over holds h sample meeting =
    let so = listed_so watch.compared.items sample (all_so watch sample meeting) slot.row.0 u v h in
    kept_values slot low high u v over holds sample (value_in sample u) refl so

-- ---- a variable with itself
pub same_value : (sample : List Value) (u v : VarId) → (u.0 == v.0) ≡ true → (x : ℤ) → value_in sample u ≡ value.Int x → value_in sample v ≡ value.Int x
same_value sample u v e x at = sym (ap (value_at sample) (eqb-true u.0 v.0 e)) ∙ at

-- a number is equal to itself, and at most itself
with_itself : (n : ℕ) (x : ℤ) → (n == 11 || n == 14) ≡ true → compares n x x ≡ true
with_itself n x h = elim (or_cases (n == 11) (n == 14) h) as (λ _. compares n x x ≡ true) [
  | inl e ↦ subst (λ m. compares m x x ≡ true) (sym (eqb-true n 11 e)) ((Decides-int_eq x x).1 refl)
  | inr e ↦ subst (λ m. compares m x x ≡ true) (sym (eqb-true n 14 e)) at_most
]
  where
    at_most : int_le x x ≡ true
    at_most = grind (arith, ints)

own_so : (ranges : List Range) (sample : List Value) → are_within sample ranges ≡ true → (n : ℕ) (u v : VarId) → (is_own n u v && is_numeric ranges u) ≡ true
    → compares_values n (value_in sample u) (value_in sample v) ≡ true
own_so ranges sample within n u v h =
    let p = and_parts (is_own n u v) (is_numeric ranges u) h in
    let q = and_parts (u.0 == v.0) (n == 11 || n == 14) p.0 in
    let told = known ranges sample within u (λ r. true) p.1 in
    let r = told.0 in
    by_value r.least r.greatest (compares_values n (value_in sample u) (value_in sample v) ≡ true) (value_in sample u) told.1
    (λ at. ap (λ i. compares_values n i (value_in sample v)) at)
    (λ x at. ap (λ i. compares_values n i (value_in sample v)) at ∙ (ap (compares_first n x) (same_value sample u v q.0 x at) ∙ with_itself n x q.1))

-- comparisons that other facts tell
pub idle_told : (watch : Watch) (slot : Slot) → 11 ≤ slot.row.0 → slot.row.0 ≤ 14 → (u v : VarId) → slot.leaders ≡ u ∷ v ∷ [] → slot.state ≡ Holds
    → is_told watch.ranges.items watch.rising.items slot.row.0 u v ≡ true → IsIdle watch slot
idle_told watch slot low high u v over holds h sample meeting =
    let n = slot.row.0 in
    kept_values slot low high u v over holds sample (value_in sample u) refl
    (elim (or_cases (is_own n u v && is_numeric watch.ranges.items u) (n == 13 && are_in_order watch.rising.items u v) h)
    as (λ _. compares_values n (value_in sample u) (value_in sample v) ≡ true) [
      | inl own ↦ own_so watch.ranges.items sample (all_within watch sample meeting) n u v own
      | inr chain ↦
          let p = and_parts (n == 13) (are_in_order watch.rising.items u v) chain in
          subst (λ m. compares_values m (value_in sample u) (value_in sample v) ≡ true) (sym (eqb-true n 13 p.0))
          (ordered_so watch.rising.items sample None (all_rising watch sample meeting) u v p.1)
    ])

-- ---- lines
line_form : form_of (row_by 15) ≡ form.Line
unfolding rows
line_form = refl

line_point : (t : List Value) → state_of (row_by 15) (t ∷ []) ≡ line_of ((int_of (value_at t 0), int_of (value_at t 1)) ∷ [])
unfolding state_of meanings
line_point t = refl

pub line_sample : (u v : VarId) (sample : List Value) (x y : ℤ) → value_in sample u ≡ value.Int x → value_in sample v ≡ value.Int y
    → (s : State) → line_join s (line_of ((x, y) ∷ [])) ≡ with_sample (row_by 15) (u ∷ v ∷ []) sample s
line_sample u v sample x y at_u at_v s =
    let ints : List Value = value.Int x ∷ value.Int y ∷ [] in
    let tuple : tuple_in (u ∷ v ∷ []) sample ≡ ints = two (value_in sample u) (value_in sample v) at_u at_v in
    sym (with_tuple (row_by 15) form.Line (u ∷ v ∷ []) sample ints (line_of ((x, y) ∷ [])) line_form tuple refl (line_point ints) s)
  where
    two : (i j : Value) → i ≡ value.Int x → j ≡ value.Int y → (let l : List Value = i ∷ j ∷ [] in l) ≡ value.Int x ∷ value.Int y ∷ []
    two i j p q = cc
