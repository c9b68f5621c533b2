-- The laws of a row, from those of its form.
use Rattle.std.specs.Prelude.{◌≡◌, ◌<◌, ◌^◌, ◌-ℤ◌, ◌<ℤ◌, ◌≤ℤ◌, neg_ℤ, ◌==◌, ℕ, zero, suc, ℤ, pos, negsuc, true, false, List, [], ◌∷◌, length, zip, map, nat_lt, unsigned_abs, All, IsTrue, Option, Some, None, IfSome, flat_map, if◌then◌else◌}
use Rattle.std.proofs.Common.{arith, sym, subst}
use Rattle.std.proofs.lemmas.Int.{ints}
use Rattle.std.proofs.lemmas.List.Elements.{All-append, All-cons, All-head, All-tail}
use Rattle.dk_base.specs.Numbers.{fits_i64}
use Rattle.dk_base.specs.Values.{kind_of}
use Rattle.dk_base.specs.Values.Items.{is_text}
use Rattle.dk_base.specs.Values.Spelling.{IsWritten}
use Rattle.dk_base.specs.Values.Tuples.{ints_of, text_of, texts_of as strings_of, value_at}
use Rattle.dk_base.specs.declared.kinds.Kind.{Kind}
use Rattle.dk_base.specs.declared.kinds.Kind.TheVariants as kind
use Rattle.dk_base.specs.declared.values.Value.{Value}
use Rattle.dk_base.specs.declared.values.Value.TheVariants as value
use Rattle.dk_forms.proofs.OffsetLaws.{offset_summary}
use Rattle.dk_forms.proofs.Summaries.{along}
use Rattle.dk_forms.proofs.TextsLaws.{texts_summary}
use Rattle.dk_forms.specs.Laws.{SummaryLaws}
use Rattle.dk_forms.specs.Offset.{differences, offset_of}
use Rattle.dk_forms.specs.Texts.{texts_of}
use Rattle.dk_forms.specs.declared.states.State.{State}
use Rattle.dk_forms.specs.declared.states.State.TheVariants.{Empty}
use Rattle.dk_template.proofs.ProperStates.{offset_of_differences, proper_laws, texts_of_strings}
use Rattle.dk_template.specs.Joins.{joined}
use Rattle.dk_template.specs.Proper.{IsProper}
use Rattle.dk_template.specs.Rows.{IsTuple, RowLaws}
use Rattle.dk_template.specs.declared.templates.StateForm.{StateForm}
use Rattle.dk_template.specs.declared.templates.StateForm.TheVariants as form

-- a row whose form says by itself which states are proper
pub row_laws : {kinds : List Kind} (form : StateForm) {state_of : List (List Value) → State} → SummaryLaws (IsProper form) Empty (joined form) state_of → RowLaws kinds form state_of
row_laws form s = record { joins = proper_laws form; none = s.none; both = s.both; same = s.same; proper = λ tuples p. s.proper tuples }

-- what holds of all values that each of the tuples gives
module _ {T V : Type 0} (P : V → Type 0) (Q : T → Type 0) (values : T → List V) (each : (t : T) → Q t → All P (values t)) where
  all_given : (ts : List T) → All Q ts → All P (flat_map values ts)
  all_given [] h = λ i d inside. absurd (omega (arith, inside))
  all_given (t ∷ ts) h = All-append P (values t) (flat_map values ts) (each t (All-head Q t ts h)) (all_given ts (All-tail Q t ts h))

-- ---- texts
abbrev IsString : List ℕ → Type 0
IsString t = IsTrue (is_text t)

-- a row whose tuples give strings
pub texts_row_laws : {kinds : List Kind} (values : List Value → List (List ℕ)) → ((tuple : List Value) → IsTuple kinds tuple → All (λ t. IsTrue (is_text t)) (values tuple))
    → RowLaws kinds form.Texts (λ tuples. texts_of (flat_map values tuples))
texts_row_laws {kinds} values strings =
    let s = along values texts_summary in
    record {
      joins = proper_laws form.Texts;
      none = s.none;
      both = s.both;
      same = s.same;
      proper = λ tuples p. (s.proper tuples, texts_of_strings (flat_map values tuples) (all_given IsString (IsTuple kinds) values strings tuples p));
    }

-- ---- values of tuples
written_at : (tuple : List Value) → All IsWritten tuple → (role : ℕ) → IsWritten (value_at tuple role)
written_at [] h role = tt
written_at (v ∷ vs) h zero = All-head IsWritten v vs h
written_at (v ∷ vs) h (suc role) = written_at vs (All-tail IsWritten v vs h) role

abbrev IsStr : Option Kind → Type 0
IsStr (Some kind.Str) = Unit {0}
IsStr _ = ⊥

string_of : (v : Value) → IsWritten v → kind_of v ≡ Some kind.Str → IsString (text_of v)
string_of (value.Str s) w k = w
string_of _ w k = absurd (subst IsStr (sym k) tt)

-- the string at a role is one, and so are those of a sequence
pub string_at : {kinds : List Kind} (tuple : List Value) → IsTuple kinds tuple → (role : ℕ) → kind_of (value_at tuple role) ≡ Some kind.Str → IsTrue (is_text (text_of (value_at tuple role)))
string_at tuple p role k = string_of (value_at tuple role) (written_at tuple p.written role) k

pub strings_at : {kinds : List Kind} (tuple : List Value) → IsTuple kinds tuple → (role : ℕ) → All (λ t. IsTrue (is_text t)) (strings_of (value_at tuple role))
strings_at tuple p role = strings (value_at tuple role) (written_at tuple p.written role)
  where
    strings : (v : Value) → IsWritten v → All IsString (strings_of v)
    strings (value.StrSeq ss) w = w
    strings _ w = λ i d h. absurd (omega (arith, h))

-- ---- offsets
small : (k l : ℤ) → IsTrue (fits_i64 k) → IsTrue (fits_i64 l) → unsigned_abs (l -ℤ k) < 2 ^ 64
small k l p q = let a = range k p in let b = range l q in let a0 = a.0 in let a1 = a.1 in let b0 = b.0 in let b1 = b.1 in omega (arith, ints)
  where
    below : (n : ℕ) → IsTrue (nat_lt n (2 ^ 63)) → n < 2 ^ 63
    below n h = grind arith

    range : (z : ℤ) → IsTrue (fits_i64 z) → (neg_ℤ (pos (2 ^ 63)) ≤ℤ z) × (z <ℤ pos (2 ^ 63))
    range (pos n) h = let b = below n h in (omega (arith, ints), omega (arith, ints))
    range (negsuc n) h = let b = below n h in (omega (arith, ints), omega (arith, ints))

abbrev IsSmall : Option ℤ → Type 0
IsSmall d = IfSome d (λ k. unsigned_abs k < 2 ^ 64)

all_small : (s t : List ℤ) → All (λ z. IsTrue (fits_i64 z)) s → All (λ z. IsTrue (fits_i64 z)) t → All IsSmall (map (λ (p : ℤ × ℤ). Some (p.1 -ℤ p.0)) (zip s t))
all_small [] t a b = λ i d h. absurd (omega (arith, h))
all_small (x ∷ s) [] a b = λ i d h. absurd (omega (arith, h))
all_small (x ∷ s) (y ∷ t) a b =
    All-cons IsSmall (Some (y -ℤ x)) _ (small x y (All-head (λ z. IsTrue (fits_i64 z)) x s a) (All-head (λ z. IsTrue (fits_i64 z)) y t b))
    (all_small s t (All-tail (λ z. IsTrue (fits_i64 z)) x s a) (All-tail (λ z. IsTrue (fits_i64 z)) y t b))

differences_small : (s t : List ℤ) → All (λ z. IsTrue (fits_i64 z)) s → All (λ z. IsTrue (fits_i64 z)) t → All IsSmall (differences s t)
differences_small s t a b =
    elim (length s == length t) as (λ e. All IsSmall (if e then map (λ (p : ℤ × ℤ). Some (p.1 -ℤ p.0)) (zip s t) else None ∷ [])) [
      | true ↦ all_small s t a b
      | false ↦ All-cons IsSmall None [] tt (λ i d h. absurd (omega (arith, h)))
    ]

ints_fit : (v : Value) → IsWritten v → All (λ z. IsTrue (fits_i64 z)) (ints_of v)
ints_fit (value.IntSeq zs) w = w
ints_fit _ w = λ i d h. absurd (omega (arith, h))

-- the differences of the sequences at two roles
abbrev pub differences_at : ℕ → ℕ → List Value → List (Option ℤ)
differences_at first second tuple = differences (ints_of (value_at tuple first)) (ints_of (value_at tuple second))

-- a row of the differences of two sequences
pub offset_row_laws : {kinds : List Kind} (first second : ℕ) → RowLaws kinds form.Offset (λ tuples. offset_of (flat_map (differences_at first second) tuples))
offset_row_laws {kinds} first second =
    let s = along (differences_at first second) offset_summary in
    record {
      joins = proper_laws form.Offset;
      none = s.none;
      both = s.both;
      same = s.same;
      proper = λ tuples p. (
        s.proper tuples,
        offset_of_differences (flat_map (differences_at first second) tuples) (all_given IsSmall (IsTuple kinds) (differences_at first second) (λ t q.
            differences_small _ _ (ints_fit _ (written_at t q.written first)) (ints_fit _ (written_at t q.written second))) tuples p),
      );
    }
