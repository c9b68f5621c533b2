-- A row with a relation is Broken where three leaders are constant and their numbers break the relation.
use Rattle.std.specs.Prelude.{◌≡◌, ◌<◌, ◌+◌, ◌==◌, ◌||◌, ◌&&◌, ℕ, zero, suc, ℤ, Bool, true, false, not, All, IsTrue, List, [], ◌∷◌, Option, None, Some, if◌then◌else◌, is_some, length, map, refl, slice_get, slice_index_or, unwrap_or}
use Rattle.std.specs.List.{list_all, range_with_len}
use Rattle.std.proofs.Common.{◌∙◌, ap, arith, subst, sym}
use Rattle.std.proofs.lemmas.Bool.{and_parts, false≢true, not-true}
use Rattle.std.proofs.lemmas.List.Elements.{All-cons, All-head, All-nil, All-tail}
use Rattle.std.proofs.lemmas.List.FromFn.{get_or-map-range_with_len}
use Rattle.dk_base.specs.Numbers.{fits_i64}
use Rattle.dk_base.specs.Values.{kind_of as kind_in}
use Rattle.dk_base.specs.Values.Spelling.{IsWritten}
use Rattle.dk_base.specs.Values.Tuples.{value_at}
use Rattle.dk_base.specs.declared.kinds.Kind.{Kind}
use Rattle.dk_base.specs.declared.kinds.Kind.TheVariants as kind
use Rattle.dk_base.specs.declared.kinds.VarId.{VarId}
use Rattle.dk_base.specs.declared.values.Value.{Value}
use Rattle.dk_base.specs.declared.values.Value.TheVariants as value
use Rattle.dk_classes.specs.Leaders.{var}
use Rattle.dk_constants.specs.Known.{known_at}
use Rattle.dk_engine.proofs.LevelFacts.{read_some}
use Rattle.dk_engine.specs.Reading.{read_leaders, read_slot, state_of_one, state_read}
use Rattle.dk_engine.specs.Reading.Parts.{all_known, known_tuple, leader_of, slot_at}
use Rattle.dk_engine.specs.declared.kept.Kept.{Kept}
use Rattle.dk_forms.specs.Plain.{plain_of}
use Rattle.dk_forms.specs.declared.states.State.TheVariants.{Broken}
use Rattle.dk_instances.proofs.Pushing.{fit_of_one}
use Rattle.dk_instances.proofs.Turning.{fits_turn}
use Rattle.dk_instances.specs.Fits.{fit, tuple_in}
use Rattle.dk_meanings.proofs.RowLaws.{plain_rows}
use Rattle.dk_meanings.specs.Meanings.{meanings, relation_of, state_of}
use Rattle.dk_presence.specs.Patterns.{counted_by}
use Rattle.dk_samples.specs.Samples.{value_in}
use Rattle.dk_suppress.specs.Rules.{is_suppressed}
use Rattle.dk_template.proofs.WrittenTuples.{written_all}
use Rattle.dk_template.specs.Exchange.{turned_state, written_order}
use Rattle.dk_template.specs.Rows.{IsTuple}
use Rattle.dk_template.specs.Templates.{IsRow, arity_of, form_of, kind_of, role_kinds, roles_of, rows, template_of}
use Rattle.dk_template.specs.declared.grammar.RowId.{RowId}
use Rattle.dk_template.specs.declared.templates.Role.{Role}
use Rattle.dk_template.specs.declared.templates.StateForm.TheVariants as form
use Rattle.dk_template.specs.declared.templates.Takes.{Takes}
use Rattle.dk_template.specs.declared.templates.Takes.TheVariants.{One, Two, Three}
use Rattle.dk_template.specs.declared.templates.Template.{Template}
use Rattle.dk_ternary.specs.Rows.{is_result, operation_row}
use Rattle.dk_ternary.specs.declared.operation.Operation.{Operation}
use Rattle.dk_ternary.specs.declared.operation.Operation.TheVariants.{Sum, Difference, Product, Minimum, Maximum, Quotient, Remainder, And, Or, Xor, Gcd}
use Rattle.dk_join.specs.Numbers.{break_operation, int_in, number_of}

-- ---- rows of three
abbrev is_int : Kind → Bool
is_int kind.Int = true
is_int _ = false

abbrev takes_int : Role → Bool
takes_int role = is_int (kind_of role)

-- a row of three takes numbers
abbrev three_ints : Template → Bool
three_ints t = not (length (roles_of t.takes) == 3) || list_all takes_int (roles_of t.takes)

all_three_ints : list_all three_ints rows ≡ true
unfolding rows
all_three_ints = refl

at_any : {X : Type 0} (test : X → Bool) (xs : List X) (k : ℕ) (d : X) → list_all test xs ≡ true → test d ≡ true → test (slice_index_or xs k d) ≡ true
at_any test [] k d h e = e
at_any test (x ∷ xs) zero d h e = (and_parts (test x) (list_all test xs) h).0
at_any test (x ∷ xs) (suc k) d h e = at_any test xs k d (and_parts (test x) (list_all test xs) h).1 e

int_is : (k : Kind) → is_int k ≡ true → k ≡ kind.Int
int_is kind.Int h = refl
int_is _ h = absurd (false≢true h)

kinds_are : (t : Takes) → length (roles_of t) ≡ 3 → (not (length (roles_of t) == 3) || list_all takes_int (roles_of t)) ≡ true → map kind_of (roles_of t) ≡ kind.Int ∷ kind.Int ∷ kind.Int ∷ []
kinds_are (One a) long h = absurd (omega (arith, long))
kinds_are (Two a b) long h = absurd (omega (arith, long))
kinds_are (Three a b c) long h =
    let first = and_parts (takes_int a) (takes_int b && (takes_int c && true)) h in
    let second = and_parts (takes_int b) (takes_int c && true) first.1 in
    let third = and_parts (takes_int c) true second.1 in
    let x = int_is (kind_of a) first.0 in
    let y = int_is (kind_of b) second.0 in
    let z = int_is (kind_of c) third.0 in
    λ i. x i ∷ y i ∷ z i ∷ []

pub three_kinds : (row : RowId) → arity_of row ≡ 3 → role_kinds row ≡ kind.Int ∷ kind.Int ∷ kind.Int ∷ []
three_kinds row three = kinds_are (template_of row).takes three (at_any three_ints rows _ _ all_three_ints refl)

int_each : (a b c : ℤ) (role : ℕ) → kind_in (value_at (value.Int a ∷ value.Int b ∷ value.Int c ∷ []) role) ≡ slice_get (kind.Int ∷ kind.Int ∷ kind.Int ∷ []) role
int_each a b c zero = refl
int_each a b c (suc zero) = refl
int_each a b c (suc (suc zero)) = refl
int_each a b c (suc (suc (suc n))) = refl

-- three numbers are a tuple of it
pub ints_tuple : (row : RowId) → arity_of row ≡ 3 → (a b c : ℤ) → IsTrue (fits_i64 a) → IsTrue (fits_i64 b) → IsTrue (fits_i64 c) → IsTuple (role_kinds row) (value.Int a ∷ value.Int b ∷ value.Int c ∷ [])
ints_tuple row three a b c f g h =
    let tuple = value.Int a ∷ value.Int b ∷ value.Int c ∷ [] in
    subst (λ kinds. IsTuple kinds tuple) (sym (three_kinds row three)) (record {
      arity = refl;
      each = int_each a b c;
      written = All-cons IsWritten (value.Int a) (value.Int b ∷ value.Int c ∷ []) f (All-cons IsWritten (value.Int b) (value.Int c ∷ []) g (All-cons IsWritten (value.Int c) [] h (All-nil IsWritten)));
    })

-- ---- constant leaders
module _ (kept : Kept) (bound : ℕ) where
  value_at_place : ℕ → Value
  value_at_place k = unwrap_or (known_at kept.known (var k)) value.Missing

  -- a sample in which each has its value
  known_sample : List Value
  known_sample = map value_at_place (range_with_len 0 bound)

  value_known : (v : VarId) → v.0 < bound → value_in known_sample v ≡ unwrap_or (known_at kept.known v) value.Missing
  unfolding known_sample value_at_place
  value_known v below = get_or-map-range_with_len value_at_place 0 bound v.0 v.0 value.Missing below (omega arith)

  tuple_known : (vars : List VarId) → All (λ (v : VarId). v.0 < bound) vars → tuple_in vars known_sample ≡ known_tuple kept.known vars
  tuple_known [] all = refl
  tuple_known (v ∷ vars) all =
      let first = value_known v (All-head (λ (w : VarId). w.0 < bound) v vars all) in
      let rest = tuple_known vars (All-tail (λ (w : VarId). w.0 < bound) v vars all) in
      λ i. first i ∷ rest i

  fit_known : (row : RowId) → IsRow row → (vars : List VarId) → All (λ (v : VarId). v.0 < bound) vars → fit row vars (known_sample ∷ []) ≡ state_of_one row (known_tuple kept.known vars)
  fit_known row is vars below =
      fit_of_one row is vars (tuple_in vars known_sample) (known_sample ∷ []) (omega arith)
      (All-cons (λ (s : List Value). tuple_in vars s ≡ tuple_in vars known_sample) known_sample [] refl (All-nil (λ (s : List Value). tuple_in vars s ≡ tuple_in vars known_sample)))
      ∙ ap (state_of_one row) (tuple_known vars below)

all_true : (kept : Kept) (vars : List VarId) → All (λ v. is_some (known_at kept.known v) ≡ true) vars → all_known kept.known vars ≡ true
all_true kept [] all = refl
all_true kept (v ∷ vars) all =
    ap (λ b. b && all_known kept.known vars) (All-head (λ w. is_some (known_at kept.known w) ≡ true) v vars all) ∙ all_true kept vars (All-tail (λ w. is_some (known_at kept.known w) ≡ true) v vars all)

-- they have one tuple
known_read : (kept : Kept) (row : RowId) → IsRow row → (vars : List VarId) → length vars ≡ arity_of row → (bound : ℕ) → All (λ (v : VarId). v.0 < bound) vars
    → All (λ v. is_some (known_at kept.known v) ≡ true) vars → (n : ℕ) → read_leaders (suc n) kept row vars ≡ state_of_one row (known_tuple kept.known vars)
unfolding read_leaders
known_read kept row is vars long bound below known n =
    let own = written_order row vars in
    let all : all_known kept.known own ≡ true = all_true kept own (written_all (λ v. is_some (known_at kept.known v) ≡ true) row vars known) in
    let sample = known_sample kept bound in
    ap (λ b. turned_state row vars (if b then state_of_one row (known_tuple kept.known own) else read_slot (slot_at kept.slots row own) (is_suppressed (read_leaders n kept) row own) (counted_by kept.held own))) all
    ∙ (ap (turned_state row vars) (sym (fit_known kept bound row is own (written_all (λ (v : VarId). v.0 < bound) row vars below)))
    ∙ (sym (fits_turn row is vars long (sample ∷ [])) ∙ fit_known kept bound row is vars below))

-- ---- their numbers
told : (o : Option Value) (z : ℤ) → int_in o ≡ Some z → o ≡ Some (value.Int z)
told None z e = absurd (cc e)
told (Some (value.Int y)) z e = let same : y ≡ z = cc e in ap (λ k. Some (value.Int k)) same
told (Some value.Missing) z e = absurd (cc e)
told (Some (value.Bool b)) z e = absurd (cc e)
told (Some (value.Hash n)) z e = absurd (cc e)
told (Some (value.Str s)) z e = absurd (cc e)
told (Some (value.BoolSeq s)) z e = absurd (cc e)
told (Some (value.IntSeq s)) z e = absurd (cc e)
told (Some (value.HashSeq s)) z e = absurd (cc e)
told (Some (value.StrSeq s)) z e = absurd (cc e)

-- ---- operations
operation_plain : (operation : Operation) → form_of (operation_row operation) ≡ form.Plain
unfolding rows
operation_plain Sum = refl
operation_plain Difference = refl
operation_plain Product = refl
operation_plain Minimum = refl
operation_plain Maximum = refl
operation_plain Quotient = refl
operation_plain Remainder = refl
operation_plain And = refl
operation_plain Or = refl
operation_plain Xor = refl
operation_plain Gcd = refl

relation_is : (operation : Operation) (a b c : ℤ) → relation_of (operation_row operation) (value.Int a ∷ value.Int b ∷ value.Int c ∷ []) ≡ is_result operation a b c
unfolding relation_of meanings
relation_is Sum a b c = refl
relation_is Difference a b c = refl
relation_is Product a b c = refl
relation_is Minimum a b c = refl
relation_is Maximum a b c = refl
relation_is Quotient a b c = refl
relation_is Remainder a b c = refl
relation_is And a b c = refl
relation_is Or a b c = refl
relation_is Xor a b c = refl
relation_is Gcd a b c = refl

-- a row that says the results of an operation is Broken where a number isn't the result
result_breaks : (operation : Operation) → IsRow (operation_row operation) → (a b c : ℤ) → not (is_result operation a b c) ≡ true
    → state_of (operation_row operation) ((value.Int a ∷ value.Int b ∷ value.Int c ∷ []) ∷ []) ≡ Broken
result_breaks operation is a b c broken =
    plain_rows (operation_row operation) is (operation_plain operation) ((value.Int a ∷ value.Int b ∷ value.Int c ∷ []) ∷ [])
    ∙ ap (λ t. plain_of (t ∷ [])) (relation_is operation a b c ∙ not-true (is_result operation a b c) broken)

module _ (kept : Kept) (row : RowId) (is : IsRow row) (three : arity_of row ≡ 3) (some : 0 < kept.samples) (v w x : VarId) where
  abbrev a : VarId
  a = leader_of kept.leaders v

  abbrev b : VarId
  b = leader_of kept.leaders w

  abbrev c : VarId
  c = leader_of kept.leaders x

  -- of three leaders that are constant the state is that of their numbers
  pub read_numbers : (p q r : ℤ) → number_of kept v ≡ Some p → number_of kept w ≡ Some q → number_of kept x ≡ Some r
      → state_read kept row (v ∷ w ∷ x ∷ []) ≡ state_of row ((value.Int p ∷ value.Int q ∷ value.Int r ∷ []) ∷ [])
  read_numbers p q r e f g =
      let tuple = value.Int p ∷ value.Int q ∷ value.Int r ∷ [] in
      let one = told (known_at kept.known a) p e in
      let two = told (known_at kept.known b) q f in
      let last = told (known_at kept.known c) r g in
      let bound = a.0 + b.0 + c.0 + 1 in
      let Below : VarId → Type 0 = λ u. u.0 < bound in
      let below : All Below (a ∷ b ∷ c ∷ []) =
      All-cons Below a (b ∷ c ∷ []) (omega arith) (All-cons Below b (c ∷ []) (omega arith) (All-cons Below c [] (omega arith) (All-nil Below))) in
      let Known : VarId → Type 0 = λ u. is_some (known_at kept.known u) ≡ true in
      let known : All Known (a ∷ b ∷ c ∷ []) =
      All-cons Known a (b ∷ c ∷ []) (ap is_some one) (All-cons Known b (c ∷ []) (ap is_some two) (All-cons Known c [] (ap is_some last) (All-nil Known))) in
      let values : known_tuple kept.known (a ∷ b ∷ c ∷ []) ≡ tuple = λ i. unwrap_or (one i) value.Missing ∷ unwrap_or (two i) value.Missing ∷ unwrap_or (last i) value.Missing ∷ [] in
      sym (read_some kept row (v ∷ w ∷ x ∷ []) (λ z. omega (arith, some, z)))
      ∙ (known_read kept row is (a ∷ b ∷ c ∷ []) (sym three) bound below known 3 ∙ ap (state_of_one row) values)

  pub broken_by_numbers : (operation : Operation) → operation_row operation ≡ row → break_operation operation (number_of kept v) (number_of kept w) (number_of kept x) ≡ true
      → state_read kept row (v ∷ w ∷ x ∷ []) ≡ Broken
  broken_by_numbers operation of = by (number_of kept v) (number_of kept w) (number_of kept x) refl refl refl
    where
      by : (o p q : Option ℤ) → number_of kept v ≡ o → number_of kept w ≡ p → number_of kept x ≡ q → break_operation operation o p q ≡ true → state_read kept row (v ∷ w ∷ x ∷ []) ≡ Broken
      by (Some y) (Some z) (Some u) e f g h =
          read_numbers y z u e f g
          ∙ (ap (λ r. state_of r ((value.Int y ∷ value.Int z ∷ value.Int u ∷ []) ∷ [])) (sym of) ∙ result_breaks operation (subst IsRow (sym of) is) y z u h)
      by (Some y) (Some z) None e f g h = absurd (false≢true h)
      by (Some y) None o e f g h = absurd (false≢true h)
      by None o p e f g h = absurd (false≢true h)
