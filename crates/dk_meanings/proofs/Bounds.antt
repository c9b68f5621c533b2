-- Values that a row's tuples give lie within the bounds of proper states.
use Rattle.std.specs.Prelude.{◌≡◌, ◌<◌, ◌^◌, ◌==◌, ℕ, ℤ, pos, negsuc, ◌-ℤ◌, unsigned_abs, Bool, true, false, List, [], ◌∷◌, All, IsTrue, IfSome, Option, Some, None, flat_map, if◌then◌else◌, length, map, zip}
use Rattle.std.proofs.Common.{arith, ap}
use Rattle.std.proofs.lemmas.Bool.{false≢true, ltb-true}
use Rattle.std.proofs.lemmas.Int.{ints}
use Rattle.std.proofs.lemmas.List.Elements.{All-append, All-cons, All-head, All-nil, All-tail}
use Rattle.dk_base.specs.Numbers.{fits_i64}
use Rattle.dk_base.specs.Values.{kind_of}
use Rattle.dk_base.specs.Values.Items.{is_text}
use Rattle.dk_base.specs.Values.Spelling.{IsWritten}
use Rattle.dk_base.specs.Values.Tuples.{ints_of, text_of, texts_of}
use Rattle.dk_base.specs.declared.kinds.Kind.{Kind}
use Rattle.dk_base.specs.declared.kinds.Kind.TheVariants as kind
use Rattle.dk_base.specs.declared.values.Value.{Value}
use Rattle.dk_base.specs.declared.values.Value.TheVariants as value
use Rattle.dk_forms.specs.Offset.{differences}

abbrev pub IsString : List ℕ → Type 0
IsString t = IsTrue (is_text t)

-- a difference of two numbers of 64 bits, where there is one
abbrev pub IsSmall : Option ℤ → Type 0
IsSmall d = IfSome d (λ k. unsigned_abs k < 2 ^ 64)

pub All-flat_map : {T V : Type 0} (P : V → Type 0) (Q : T → Type 0) (values : T → List V) → ((t : T) → Q t → All P (values t)) → (ts : List T) → All Q ts → All P (flat_map values ts)
All-flat_map P Q values each [] all = All-nil P
All-flat_map P Q values each (t ∷ ts) all =
    All-append P (values t) (flat_map values ts) (each t (All-head Q t ts all)) (All-flat_map P Q values each ts (All-tail Q t ts all))

-- ---- strings
abbrev is_str : Option Kind → Bool
is_str (Some kind.Str) = true
is_str _ = false

pub string_of : (v : Value) → kind_of v ≡ Some kind.Str → IsWritten v → IsString (text_of v)
string_of (value.Str s) e w = w
string_of value.Missing e w = absurd (false≢true (ap is_str e))
string_of (value.Bool b) e w = absurd (false≢true (ap is_str e))
string_of (value.Int z) e w = absurd (false≢true (ap is_str e))
string_of (value.Hash n) e w = absurd (false≢true (ap is_str e))
string_of (value.BoolSeq bs) e w = absurd (false≢true (ap is_str e))
string_of (value.IntSeq zs) e w = absurd (false≢true (ap is_str e))
string_of (value.HashSeq ns) e w = absurd (false≢true (ap is_str e))
string_of (value.StrSeq ss) e w = absurd (false≢true (ap is_str e))

pub strings_of : (v : Value) → IsWritten v → All IsString (texts_of v)
strings_of (value.StrSeq ss) w = w
strings_of _ w = All-nil IsString

-- ---- differences
abbrev Fits : ℤ → Type 0
Fits z = IsTrue (fits_i64 z)

pub numbers_of : (v : Value) → IsWritten v → All Fits (ints_of v)
numbers_of (value.IntSeq zs) w = w
numbers_of _ w = All-nil Fits

small : (x y : ℤ) → Fits x → Fits y → unsigned_abs (y -ℤ x) < 2 ^ 64
small (pos a) (pos b) f g =
    let u : a < 2 ^ 63 = ltb-true a (2 ^ 63) f in
    let v : b < 2 ^ 63 = ltb-true b (2 ^ 63) g in
    omega (arith, ints)
small (pos a) (negsuc b) f g =
    let u : a < 2 ^ 63 = ltb-true a (2 ^ 63) f in
    let v : b < 2 ^ 63 = ltb-true b (2 ^ 63) g in
    omega (arith, ints)
small (negsuc a) (pos b) f g =
    let u : a < 2 ^ 63 = ltb-true a (2 ^ 63) f in
    let v : b < 2 ^ 63 = ltb-true b (2 ^ 63) g in
    omega (arith, ints)
small (negsuc a) (negsuc b) f g =
    let u : a < 2 ^ 63 = ltb-true a (2 ^ 63) f in
    let v : b < 2 ^ 63 = ltb-true b (2 ^ 63) g in
    omega (arith, ints)

all_small : (s t : List ℤ) → All Fits s → All Fits t → All IsSmall (map (λ (p : ℤ × ℤ). Some (p.1 -ℤ p.0)) (zip s t))
all_small [] t f g = All-nil IsSmall
all_small (x ∷ s) [] f g = All-nil IsSmall
all_small (x ∷ s) (y ∷ t) f g =
    All-cons IsSmall (Some (y -ℤ x)) (map (λ (p : ℤ × ℤ). Some (p.1 -ℤ p.0)) (zip s t))
    (small x y (All-head Fits x s f) (All-head Fits y t g))
    (all_small s t (All-tail Fits x s f) (All-tail Fits y t g))

pub small_differences : (s t : List ℤ) → All Fits s → All Fits t → All IsSmall (differences s t)
small_differences s t f g =
    elim (length s == length t) as (λ b. All IsSmall (if b then map (λ (p : ℤ × ℤ). Some (p.1 -ℤ p.0)) (zip s t) else None ∷ [])) [
      | true ↦ all_small s t f g
      | false ↦ All-cons IsSmall None [] tt (All-nil IsSmall)
    ]
