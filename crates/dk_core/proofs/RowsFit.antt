-- What each row says of values is within the types of its states' numbers.
use Rattle.std.proofs.Common.{◌≡◌, ◌∙◌, ◌-◌, ◌<◌, ℕ, zero, suc, false, List, [], ◌∷◌, All, length, map, refl, sym, ap, arith}
use Rattle.std.specs.Prelude.{slice_index_or}
use Rattle.std.proofs.lemmas.List.Elements.{All-cons, All-nil}
use Rattle.dk_base.specs.Values.Spelling.{IsWritten}
use Rattle.dk_base.specs.Values.Tuples.{hash_of, hashes_of, int_of, ints_of, value_at}
use Rattle.dk_base.specs.declared.kinds.Kind.{Kind}
use Rattle.dk_base.specs.declared.values.Value.{Value}
use Rattle.dk_base.specs.declared.values.Value.TheVariants as value
use Rattle.dk_base.specs.declared.kinds.Kind.TheVariants as kind
use Rattle.dk_meanings.specs.Meaning.{Meaning, form_by, relation}
use Rattle.dk_meanings.specs.Meanings.{elements, itself, meaning_of, meanings, of_one}
use Rattle.dk_template.specs.Rows.{IsTuple}
use Rattle.dk_template.specs.Templates.{form_of, row, rows}
use Rattle.dk_template.specs.declared.grammar.RowId.{RowId}
use Rattle.dk_template.specs.declared.templates.Role.TheVariants.{Any}
use Rattle.dk_template.specs.declared.templates.StateForm.{StateForm}
use Rattle.dk_template.specs.declared.templates.StateForm.TheVariants as form
use Rattle.dk_template.specs.declared.templates.Symmetry.TheVariants as exchange
use Rattle.dk_template.specs.declared.templates.Takes.TheVariants.{One}
use Rattle.dk_template.specs.declared.templates.Template.{Template}
use Rattle.dk_core.proofs.StatesFit.{FitsCode, FitsInt, IsWithin}

int_within : (v : Value) → IsWritten v → FitsInt (int_of v)
int_within (value.Int z) w = w
int_within _ w = refl

code_within : (v : Value) → IsWritten v → FitsCode (hash_of v)
code_within (value.Hash n) w = w
code_within _ w = omega arith

ints_within : (v : Value) → IsWritten v → All FitsInt (ints_of v)
ints_within (value.IntSeq zs) w = w
ints_within _ w = All-nil FitsInt

codes_within : (v : Value) → IsWritten v → All FitsCode (hashes_of v)
codes_within (value.HashSeq ns) w = w
codes_within _ w = All-nil FitsCode

-- the value at a role, which may be missing
written : (t : List Value) → All IsWritten t → IsWritten (value_at t 0)
written [] all = tt
written (v ∷ t) all = all 0 value.Missing (omega arith)

the_int : (kinds : List Kind) (t : List Value) → IsTuple kinds t → FitsInt (of_one int_of (λ x. x) t)
the_int kinds t is = int_within (value_at t 0) (written t is.written)

one_int : (kinds : List Kind) (t : List Value) → IsTuple kinds t → All FitsInt (of_one int_of itself t)
one_int kinds t is = All-cons FitsInt (int_of (value_at t 0)) [] (the_int kinds t is) (All-nil FitsInt)

some_ints : (kinds : List Kind) (t : List Value) → IsTuple kinds t → All FitsInt (of_one ints_of elements t)
some_ints kinds t is = ints_within (value_at t 0) (written t is.written)

one_code : (kinds : List Kind) (t : List Value) → IsTuple kinds t → All FitsCode (of_one hash_of itself t)
one_code kinds t is = All-cons FitsCode (hash_of (value_at t 0)) [] (code_within (value_at t 0) (written t is.written)) (All-nil FitsCode)

some_codes : (kinds : List Kind) (t : List Value) → IsTuple kinds t → All FitsCode (of_one hashes_of elements t)
some_codes kinds t is = codes_within (value_at t 0) (written t is.written)

-- whatever the kinds are
abbrev AllWithin : List Meaning → Type 0
AllWithin [] = Unit {0}
AllWithin (m ∷ ms) = ((kinds : List Kind) → IsWithin kinds m) × AllWithin ms

tables_within : AllWithin meanings
unfolding meanings
tables_within = (one_int, (one_int, (one_int, (λ _. tt, (the_int, (λ _. tt, (one_code, (λ _. tt, (λ _. tt, (λ _. tt, (λ _. tt, (λ _. tt, (λ _. tt, (λ _. tt, (λ _. tt, (λ _. tt, (λ _. tt, (λ _. tt, (λ _. tt, (λ _. tt, (λ _. tt, (λ _. tt, (λ _. tt, (λ _. tt, (λ _. tt, (λ _. tt, (λ _. tt, (λ _. tt, (λ _. tt, (λ _. tt, (λ _. tt, (λ _. tt, (λ _. tt, (λ _. tt, (some_ints, (some_ints, (some_ints, (λ _. tt, (λ _. tt, (λ _. tt, (λ _. tt, (λ _. tt, (λ _. tt, (λ _. tt, (some_codes, (λ _. tt, (λ _. tt, (λ _. tt, (λ _. tt, (λ _. tt, (λ _. tt, (λ _. tt, (λ _. tt, (λ _. tt, (λ _. tt, (λ _. tt, (λ _. tt, (λ _. tt, (λ _. tt, (λ _. tt, (λ _. tt, (λ _. tt, (λ _. tt, (λ _. tt, (λ _. tt, (λ _. tt, (λ _. tt, (λ _. tt, tt))))))))))))))))))))))))))))))))))))))))))))))))))))))))))))))))))))

within_at : (ms : List Meaning) → AllWithin ms → (i : ℕ) → i < length ms → (d : Meaning) (kinds : List Kind) → IsWithin kinds (slice_index_or ms i d)
within_at [] all i there d kinds = absurd (omega (arith, there))
within_at (m ∷ ms) all zero there d kinds = all.0 kinds
within_at (m ∷ ms) all (suc i) there d kinds = within_at ms all.1 i (omega (arith, there)) d kinds

length-meanings : length meanings ≡ 68
unfolding meanings
length-meanings = refl

pub row_within : (i : ℕ) → i < 68 → (d : Meaning) (kinds : List Kind) → IsWithin kinds (slice_index_or meanings i d)
row_within i there d kinds =
    let long = length-meanings in
    within_at meanings tables_within i (omega (arith, there, long)) d kinds

-- ---- the form of what a row says
index_map : {X Y : Type 0} (f : X → Y) (xs : List X) (i : ℕ) (d : X) → slice_index_or (map f xs) i (f d) ≡ f (slice_index_or xs i d)
index_map f [] i d = refl
index_map f (x ∷ xs) zero d = refl
index_map f (x ∷ xs) (suc i) d = index_map f xs i d

same_forms : map form_by meanings ≡ map (λ (t : Template). t.form) rows
unfolding rows meanings
same_forms = refl

-- it is that of the row's states
pub row_form : (r : RowId) → form_by (meaning_of r) ≡ form_of r
row_form r =
    sym (index_map form_by meanings (r.0 - 1) (relation (λ tuple. false)))
    ∙ ap (λ (fs : List StateForm). slice_index_or fs (r.0 - 1) form.Plain) same_forms
    ∙ index_map (λ (t : Template). t.form) rows (r.0 - 1) (row (One (Any kind.Int)) exchange.Fixed form.Plain 0)
