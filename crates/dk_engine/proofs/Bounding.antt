-- Bounds of numbers and comparisons of two that a sample leaves as they are.
use Rattle.std.specs.Prelude.{◌≡◌, ◌≤◌, ◌&&◌, ◌==◌, ℕ, ℤ, Bool, true, false, ◌∷◌, [], List, cond, if◌then◌else◌, int_le, int_lt, nat_le, not, refl}
use Rattle.std.specs.List.{list_all}
use Rattle.std.specs.Ordering.{int_eq}
use Rattle.std.proofs.Common.{◌∙◌, ap, arith, inl, inr, sym}
use Rattle.std.proofs.lemmas.Bool.{and_from, cases_Bool, cases_eq, eq-eqb, false≢true, le-leb, ne_eqb}
use Rattle.std.proofs.lemmas.Int.{ints}
use Rattle.dk_base.specs.Values.Tuples.{int_of, value_at}
use Rattle.dk_base.specs.declared.kinds.VarId.{VarId}
use Rattle.dk_base.specs.declared.values.Value.{Value}
use Rattle.dk_base.specs.declared.values.Value.TheVariants as value
use Rattle.dk_forms.specs.Greatest.{greatest_join, greatest_of}
use Rattle.dk_forms.specs.Least.{least_join, least_of}
use Rattle.dk_forms.specs.declared.states.State.{State}
use Rattle.dk_forms.specs.declared.states.State.TheVariants.{Greatest, Holds, Least}
use Rattle.dk_instances.specs.Fits.{is_whole, tuple_in}
use Rattle.dk_meanings.proofs.RowLaws.{plain_row_of_one}
use Rattle.dk_meanings.specs.Laws.{is_row}
use Rattle.dk_meanings.specs.Meanings.{meanings, relation_of, state_of}
use Rattle.dk_samples.specs.Samples.{is_present, value_in}
use Rattle.dk_template.specs.Joins.{joined}
use Rattle.dk_template.specs.Templates.{form_of, rows}
use Rattle.dk_template.specs.declared.grammar.RowId.{RowId}
use Rattle.dk_template.specs.declared.templates.StateForm.TheVariants as form
use Rattle.dk_engine.proofs.OneTuple.{row_by, slot_by, with_tuple}
use Rattle.dk_engine.specs.Feeding.{with_sample}
use Rattle.dk_engine.specs.Idle.Bounding.{compares, is_holds, keeps_greatest, keeps_least}
use Rattle.dk_engine.specs.declared.slots.slot.Slot.{Slot}

-- ---- samples in which a variable is missing
pub of_missing : (row : RowId) (vars : List VarId) (sample : List Value) (s : State) → is_whole (tuple_in vars sample) ≡ false → with_sample row vars sample s ≡ s
of_missing row vars sample s f =
    let t = tuple_in vars sample in
    ap (λ b. if b then joined (form_of row) s (state_of row (t ∷ [])) else s) f

first_missing : (v : VarId) (vars : List VarId) (sample : List Value) → value_in sample v ≡ value.Missing → is_whole (tuple_in (v ∷ vars) sample) ≡ false
first_missing v vars sample at = ap (λ i. is_present i && list_all is_present (tuple_in vars sample)) at

-- the same of a slot
module _ (slot : Slot) (sample : List Value) where
  pub slot_of_missing : (v : VarId) (vars : List VarId) → slot.leaders ≡ v ∷ vars → value_in sample v ≡ value.Missing → with_sample slot.row slot.leaders sample slot.state ≡ slot.state
  slot_of_missing v vars over at = ap (λ vs. with_sample slot.row vs sample slot.state) over ∙ of_missing slot.row (v ∷ vars) sample slot.state (first_missing v vars sample at)

-- ---- bounds
least_keeps : (l x : ℤ) → int_le l x ≡ true → least_join (Least l) (least_of (x ∷ [])) ≡ Least l
least_keeps l x le = let no : int_lt x l ≡ false = grind (arith, ints) in ap (λ b. Least (cond b x l)) no

greatest_keeps : (g x : ℤ) → int_le x g ≡ true → greatest_join (Greatest g) (greatest_of (x ∷ [])) ≡ Greatest g
greatest_keeps g x le = elim (cases_Bool (int_lt x g)) as (λ _. greatest_join (Greatest g) (greatest_of (x ∷ [])) ≡ Greatest g) [
  | inl lt ↦ ap (λ b. Greatest (cond b g x)) lt
  | inr ge ↦ let same : x ≡ g = grind (arith, ints) in ap (λ b. Greatest (cond b g x)) ge ∙ ap Greatest same
]

pub least_kept : (s : State) (x : ℤ) → keeps_least s x ≡ true → least_join s (least_of (x ∷ [])) ≡ s
least_kept (Least l) x h = least_keeps l x h
least_kept _ x h = absurd (false≢true h)

pub greatest_kept : (s : State) (x : ℤ) → keeps_greatest s x ≡ true → greatest_join s (greatest_of (x ∷ [])) ≡ s
greatest_kept (Greatest g) x h = greatest_keeps g x h
greatest_kept _ x h = absurd (false≢true h)

abbrev lower_row : RowId
lower_row = record { 0 = 2 }

lower_form : form_of lower_row ≡ form.Least
unfolding rows
lower_form = refl

lower_point : (t : List Value) → state_of lower_row (t ∷ []) ≡ least_of (int_of (value_at t 0) ∷ [])
unfolding state_of meanings
lower_point t = refl

lower_sample : (v : VarId) (sample : List Value) (x : ℤ) → value_in sample v ≡ value.Int x
    → (s : State) → least_join s (least_of (x ∷ [])) ≡ with_sample lower_row (v ∷ []) sample s
lower_sample v sample x at s =
    let numbers : List Value = value.Int x ∷ [] in
    let tuple : tuple_in (v ∷ []) sample ≡ numbers = ap (λ (i : Value). (let l : List Value = i ∷ [] in l)) at in
    sym (with_tuple lower_row form.Least (v ∷ []) sample numbers (least_of (x ∷ [])) lower_form tuple refl (lower_point numbers) s)

-- a slot of a least value with a number more
pub lower_slot : (slot : Slot) → slot.row.0 ≡ 2 → (v : VarId) → slot.leaders ≡ v ∷ [] → (sample : List Value) (x : ℤ) → value_in sample v ≡ value.Int x
    → least_join slot.state (least_of (x ∷ [])) ≡ with_sample slot.row slot.leaders sample slot.state
lower_slot slot e v over sample x at = lower_sample v sample x at slot.state ∙ sym (slot_by slot 2 e (v ∷ []) over sample)

-- ---- comparisons
equal_says : (x y : ℤ) → relation_of (row_by 11) (value.Int x ∷ value.Int y ∷ []) ≡ int_eq x y
unfolding relation_of meanings
equal_says x y = refl

different_says : (x y : ℤ) → relation_of (row_by 12) (value.Int x ∷ value.Int y ∷ []) ≡ not (int_eq x y)
unfolding relation_of meanings
different_says x y = refl

less_says : (x y : ℤ) → relation_of (row_by 13) (value.Int x ∷ value.Int y ∷ []) ≡ int_lt x y
unfolding relation_of meanings
less_says x y = refl

at_most_says : (x y : ℤ) → relation_of (row_by 14) (value.Int x ∷ value.Int y ∷ []) ≡ int_le x y
unfolding relation_of meanings
at_most_says x y = refl

-- what one of these rows says of two numbers
module _ (row : RowId) (x y : ℤ) where
  pub equal_so : row.0 ≡ 11 → int_eq x y ≡ true → relation_of row (value.Int x ∷ value.Int y ∷ []) ≡ true
  equal_so e h = ap (λ n. relation_of (row_by n) (value.Int x ∷ value.Int y ∷ [])) e ∙ (equal_says x y ∙ h)

  pub differ_so : row.0 ≡ 12 → not (int_eq x y) ≡ true → relation_of row (value.Int x ∷ value.Int y ∷ []) ≡ true
  differ_so e h = ap (λ n. relation_of (row_by n) (value.Int x ∷ value.Int y ∷ [])) e ∙ (different_says x y ∙ h)

  pub less_so : row.0 ≡ 13 → int_lt x y ≡ true → relation_of row (value.Int x ∷ value.Int y ∷ []) ≡ true
  less_so e h = ap (λ n. relation_of (row_by n) (value.Int x ∷ value.Int y ∷ [])) e ∙ (less_says x y ∙ h)

  pub at_most_so : row.0 ≡ 14 → int_le x y ≡ true → relation_of row (value.Int x ∷ value.Int y ∷ []) ≡ true
  at_most_so e h = ap (λ n. relation_of (row_by n) (value.Int x ∷ value.Int y ∷ [])) e ∙ (at_most_says x y ∙ h)

-- what is so of two numbers
pub compared_so : (row : RowId) (x y : ℤ) → 11 ≤ row.0 → row.0 ≤ 14 → compares row.0 x y ≡ true → relation_of row (value.Int x ∷ value.Int y ∷ []) ≡ true
compared_so row x y low high h =
    let by_11 : Bool = if row.0 == 11 then int_eq x y else int_le x y in
    let by_12 : Bool = if row.0 == 12 then not (int_eq x y) else by_11 in
    elim (cases_eq row.0 13) as (λ _. relation_of row (value.Int x ∷ value.Int y ∷ []) ≡ true) [
      | inl e13 ↦ less_so row x y e13 (sym (ap (λ b. if b then int_lt x y else by_12) (eq-eqb row.0 13 e13)) ∙ h)
      | inr n13 ↦
          let h12 : by_12 ≡ true = sym (ap (λ b. if b then int_lt x y else by_12) (ne_eqb row.0 13 n13)) ∙ h in
          elim (cases_eq row.0 12) as (λ _. relation_of row (value.Int x ∷ value.Int y ∷ []) ≡ true) [
            | inl e12 ↦ differ_so row x y e12 (sym (ap (λ b. if b then not (int_eq x y) else by_11) (eq-eqb row.0 12 e12)) ∙ h12)
            | inr n12 ↦
                let h11 : by_11 ≡ true = sym (ap (λ b. if b then not (int_eq x y) else by_11) (ne_eqb row.0 12 n12)) ∙ h12 in
                elim (cases_eq row.0 11) as (λ _. relation_of row (value.Int x ∷ value.Int y ∷ []) ≡ true) [
                  | inl e11 ↦ equal_so row x y e11 (sym (ap (λ b. if b then int_eq x y else int_le x y) (eq-eqb row.0 11 e11)) ∙ h11)
                  | inr n11 ↦
                      at_most_so row x y (omega (arith, low, high, n13, n12, n11))
                      (sym (ap (λ b. if b then int_eq x y else int_le x y) (ne_eqb row.0 11 n11)) ∙ h11)
                ]
          ]
    ]

pub holds_of : (s : State) → is_holds s ≡ true → s ≡ Holds
holds_of Holds h = refl
holds_of _ h = absurd (false≢true h)

-- each of them has a relation
plain_11 : form_of (row_by 11) ≡ form.Plain
unfolding rows
plain_11 = refl

plain_12 : form_of (row_by 12) ≡ form.Plain
unfolding rows
plain_12 = refl

plain_13 : form_of (row_by 13) ≡ form.Plain
unfolding rows
plain_13 = refl

plain_14 : form_of (row_by 14) ≡ form.Plain
unfolding rows
plain_14 = refl

plain_comparison : (n : ℕ) → 11 ≤ n → n ≤ 14 → form_of (row_by n) ≡ form.Plain
plain_comparison n low high = elim (cases_eq n 11) as (λ _. form_of (row_by n) ≡ form.Plain) [
  | inl e ↦ ap (λ m. form_of (row_by m)) e ∙ plain_11
  | inr n11 ↦ elim (cases_eq n 12) as (λ _. form_of (row_by n) ≡ form.Plain) [
    | inl e ↦ ap (λ m. form_of (row_by m)) e ∙ plain_12
    | inr n12 ↦ elim (cases_eq n 13) as (λ _. form_of (row_by n) ≡ form.Plain) [
      | inl e ↦ ap (λ m. form_of (row_by m)) e ∙ plain_13
      | inr n13 ↦ let e : n ≡ 14 = omega (arith, low, high, n11, n12, n13) in ap (λ m. form_of (row_by m)) e ∙ plain_14
    ]
  ]
]

row_comparison : (n : ℕ) → 11 ≤ n → n ≤ 14 → is_row (row_by n) ≡ true
row_comparison n low high = and_from (nat_le 1 n) (nat_le n 68) (le-leb 1 n (omega (arith, low))) (le-leb n 68 (omega (arith, high)))

compared_sample : (row : RowId) → 11 ≤ row.0 → row.0 ≤ 14 → (u v : VarId) (sample : List Value) (x y : ℤ) → value_in sample u ≡ value.Int x → value_in sample v ≡ value.Int y
    → relation_of row (value.Int x ∷ value.Int y ∷ []) ≡ true → with_sample row (u ∷ v ∷ []) sample Holds ≡ Holds
compared_sample row low high u v sample x y at_u at_v h =
    let numbers : List Value = value.Int x ∷ value.Int y ∷ [] in
    let tuple : tuple_in (u ∷ v ∷ []) sample ≡ numbers = two (value_in sample u) (value_in sample v) at_u at_v in
    let plain : form_of row ≡ form.Plain = plain_comparison row.0 low high in
    let point : state_of row (numbers ∷ []) ≡ Holds = sym (plain_row_of_one row (row_comparison row.0 low high) plain numbers (sym h)) in
    with_tuple row form.Plain (u ∷ v ∷ []) sample numbers Holds plain tuple refl point Holds
  where
    two : (i j : Value) → i ≡ value.Int x → j ≡ value.Int y → (let l : List Value = i ∷ j ∷ [] in l) ≡ value.Int x ∷ value.Int y ∷ []
    two i j p q = cc

-- a slot of a comparison with two numbers more of which it is so
pub compared_slot : (slot : Slot) → 11 ≤ slot.row.0 → slot.row.0 ≤ 14 → (u v : VarId) → slot.leaders ≡ u ∷ v ∷ [] → slot.state ≡ Holds
    → (sample : List Value) (x y : ℤ) → value_in sample u ≡ value.Int x → value_in sample v ≡ value.Int y
    → relation_of slot.row (value.Int x ∷ value.Int y ∷ []) ≡ true → with_sample slot.row slot.leaders sample slot.state ≡ slot.state
compared_slot slot low high u v over holds sample x y at_u at_v h =
    ap (λ vs. with_sample slot.row vs sample slot.state) over
    ∙ (ap (λ s. with_sample slot.row (u ∷ v ∷ []) sample s) holds ∙ (compared_sample slot.row low high u v sample x y at_u at_v h ∙ sym holds))
