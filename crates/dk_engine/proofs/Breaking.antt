-- A tuple that a row's relation doesn't hold for breaks the row, whatever its state was.
use Rattle.std.specs.Prelude.{◌≡◌, ℤ, true, false, List, [], ◌∷◌, cond, if◌then◌else◌, refl}
use Rattle.std.proofs.Common.{ap, ◌∙◌, sym}
use Rattle.std.proofs.lemmas.Bool.{false≢true}
use Rattle.dk_base.specs.Values.Tuples.{int_of, value_at}
use Rattle.dk_base.specs.declared.kinds.VarId.{VarId}
use Rattle.dk_base.specs.declared.values.Value.{Value}
use Rattle.dk_base.specs.declared.values.Value.TheVariants as value
use Rattle.dk_forms.specs.Known.{Known, both, broken, fact, nothing}
use Rattle.dk_forms.specs.Plain.{plain_known, plain_state}
use Rattle.dk_forms.specs.declared.states.State.{State}
use Rattle.dk_forms.specs.declared.states.State.TheVariants.{Broken, Holds}
use Rattle.dk_instances.specs.Fits.{is_whole, tuple_in}
use Rattle.dk_meanings.proofs.RowLaws.{plain_row_of_one}
use Rattle.dk_meanings.specs.Meanings.{meanings, relation_of, state_of}
use Rattle.dk_samples.specs.Samples.{value_in}
use Rattle.dk_template.specs.Joins.{joined}
use Rattle.dk_template.specs.Proper.{IsProper}
use Rattle.dk_template.specs.Templates.{form_of, is_plain, rows}
use Rattle.dk_template.specs.declared.grammar.RowId.{RowId}
use Rattle.dk_template.specs.declared.templates.StateForm.{StateForm}
use Rattle.dk_template.specs.declared.templates.StateForm.TheVariants as form
use Rattle.dk_ternary.specs.Rows.{is_result, operation_is_row, operation_row}
use Rattle.dk_ternary.specs.declared.operation.Operation.{Operation}
use Rattle.dk_ternary.specs.declared.operation.Operation.TheVariants.{Sum, Difference, Product, Minimum, Maximum, Quotient, Remainder, And, Or, Xor, Gcd}
use Rattle.dk_engine.specs.Feeding.{with_sample}

clash_absorbs : (a : Known (Unit {0})) → plain_state (both (λ _ _. fact tt) a broken) ≡ Broken
clash_absorbs nothing = refl
clash_absorbs broken = refl
clash_absorbs (fact u) = refl

unheld_absorbs : (a b : Known (Unit {0})) → (plain_state (both (λ _ _. fact tt) (fact tt) b) ≡ Holds → ⊥) → plain_state (both (λ _ _. fact tt) a b) ≡ Broken
unheld_absorbs a nothing h = absurd (h refl)
unheld_absorbs a broken h = clash_absorbs a
unheld_absorbs a (fact u) h = absurd (h refl)

joined_unheld : (f : StateForm) → is_plain f ≡ true → (s t : State) → (joined f Holds t ≡ Holds → ⊥) → joined f s t ≡ Broken
joined_unheld form.Plain is s t h = unheld_absorbs (plain_known s) (plain_known t) h
joined_unheld _ is s t h = absurd (false≢true is)

-- a tuple that doesn't leave Holds as it is
pub unheld_breaks : (row : RowId) → is_plain (form_of row) ≡ true → (vars : List VarId) (sample : List Value) → (with_sample row vars sample Holds ≡ Holds → ⊥) → (s : State) → with_sample row vars sample s ≡ Broken
unheld_breaks row plain vars sample h s =
    let t = tuple_in vars sample in
    let one = state_of row (t ∷ []) in
    elim (is_whole t) as (λ b. (cond b (joined (form_of row) Holds one) Holds ≡ Holds → ⊥) → cond b (joined (form_of row) s one) s ≡ Broken) [
      | true ↦ λ e. joined_unheld (form_of row) plain s one e
      | false ↦ λ e. absurd (e refl)
    ] h

pub holds_is_proper : (f : StateForm) → is_plain f ≡ true → IsProper f Holds
holds_is_proper form.Plain is = tt
holds_is_proper _ is = absurd (false≢true is)

-- ---- three numbers of which one isn't the result of an operation on the others
operation_relation : (r : Operation) (t : List Value) → relation_of (operation_row r) t ≡ is_result r (int_of (value_at t 0)) (int_of (value_at t 1)) (int_of (value_at t 2))
unfolding relation_of meanings
operation_relation Sum t = refl
operation_relation Difference t = refl
operation_relation Product t = refl
operation_relation Minimum t = refl
operation_relation Maximum t = refl
operation_relation Quotient t = refl
operation_relation Remainder t = refl
operation_relation And t = refl
operation_relation Or t = refl
operation_relation Xor t = refl
operation_relation Gcd t = refl

operation_form : (r : Operation) → form_of (operation_row r) ≡ form.Plain
unfolding rows
operation_form Sum = refl
operation_form Difference = refl
operation_form Product = refl
operation_form Minimum = refl
operation_form Maximum = refl
operation_form Quotient = refl
operation_form Remainder = refl
operation_form And = refl
operation_form Or = refl
operation_form Xor = refl
operation_form Gcd = refl

joined_with_broken : (f : StateForm) → f ≡ form.Plain → (s : State) → joined f s Broken ≡ Broken
joined_with_broken f plain s = ap (λ g. joined g s Broken) plain ∙ clash_absorbs (plain_known s)

pub operation_breaks : (o : Operation) (v w x : VarId) (sample : List Value) (a b c : ℤ) → value_in sample v ≡ value.Int a → value_in sample w ≡ value.Int b → value_in sample x ≡ value.Int c
    → is_result o a b c ≡ false → (s : State) → with_sample (operation_row o) (v ∷ w ∷ x ∷ []) sample s ≡ Broken
operation_breaks o v w x sample a b c at_v at_w at_x isnt s =
    let row = operation_row o in
    let joining : List Value → State = λ t. if is_whole t then joined (form_of row) s (state_of row (t ∷ [])) else s in
    let ints : List Value = value.Int a ∷ value.Int b ∷ value.Int c ∷ [] in
    let tuple : tuple_in (v ∷ w ∷ x ∷ []) sample ≡ ints = three (value_in sample v) (value_in sample w) (value_in sample x) at_v at_w at_x in
    let point : state_of row (ints ∷ []) ≡ Broken = sym (plain_row_of_one row (operation_is_row o) (operation_form o) ints (sym (operation_relation o ints ∙ isnt))) in
    ap joining tuple ∙ (ap (joined (form_of row) s) point ∙ joined_with_broken (form_of row) (operation_form o) s)
  where
    three : (i j k : Value) → i ≡ value.Int a → j ≡ value.Int b → k ≡ value.Int c → (let l : List Value = i ∷ j ∷ k ∷ [] in l) ≡ value.Int a ∷ value.Int b ∷ value.Int c ∷ []
    three i j k p q r = cc
