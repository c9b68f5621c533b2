-- The states of values of samples are within the types of their numbers.
use Rattle.std.proofs.Common.{◌≡◌, ◌<◌, ◌≤◌, ◌^◌, ◌==◌, ℕ, ℤ, pos, negsuc, Bool, true, false, List, [], ◌∷◌, All, cond, fold, flat_map, length, map, nat_eq, nat_le, refl, arith, if◌then◌else◌}
use Rattle.std.specs.Prelude.{IsTrue, int_lt, unsigned_abs}
use Rattle.std.specs.Int.{int_max, int_min, int_rem_euclid}
use Rattle.std.specs.List.{list_all}
use Rattle.std.specs.Ordering.{int_cmp}
use Rattle.std.specs.declared.cmp.Ordering.{Ordering}
use Rattle.std.specs.declared.cmp.Ordering.TheVariants.{Less, Equal, Greater}
use Rattle.std.proofs.lemmas.Bool.{ltb-true}
use Rattle.std.proofs.lemmas.Int.{ints}
use Rattle.std.proofs.lemmas.List.Elements.{All-append, All-cons, All-head, All-nil, All-tail}
use Rattle.dk_arith.proofs.GcdLaws.{gcd_small}
use Rattle.dk_base.specs.Numbers.{fits_i64}
use Rattle.dk_base.specs.declared.kinds.Kind.{Kind}
use Rattle.dk_base.specs.declared.values.Value.{Value}
use Rattle.dk_forms.specs.Code.{code_of, code_state}
use Rattle.dk_forms.specs.Known.Distinct.{by_order, distinct, put, put_all}
use Rattle.dk_forms.specs.Greatest.{greatest_of}
use Rattle.dk_forms.specs.Ints.{IsIntsState, ints_of as ints_state_of, ints_state}
use Rattle.dk_forms.specs.Known.{broken, fact}
use Rattle.dk_forms.specs.Least.{least_of}
use Rattle.dk_forms.specs.Plane.Line.{IsLineState}
use Rattle.dk_forms.specs.Modulus.{IsModulusState, apart, class, gcd_of_all, modulus_of, modulus_state, remainder}
use Rattle.dk_forms.specs.Offset.{IsOffsetState}
use Rattle.dk_forms.specs.Plain.{IsPlainState}
use Rattle.dk_forms.specs.Plane.{IsPlaneState}
use Rattle.dk_forms.specs.Texts.{IsTextsState}
use Rattle.dk_forms.specs.Truth.{IsTruthState}
use Rattle.dk_forms.specs.declared.states.State.{State}
use Rattle.dk_forms.specs.declared.states.State.TheVariants as state
use Rattle.dk_meanings.specs.Meaning.{Meaning, relation, least, greatest, ints as ints_meant, truth, code, texts, modulus, line, plane, offset, form_by, state_by}
use Rattle.dk_template.specs.Proper.{AreStrings, IsDifference, IsProper}
use Rattle.dk_template.specs.Rows.{IsTuple}
use Rattle.dk_state.specs.Fitting.{FitsState}

abbrev pub FitsInt : ℤ → Type 0
FitsInt z = IsTrue (fits_i64 z)

abbrev pub FitsCode : ℕ → Type 0
FitsCode n = n < 2 ^ 64

-- where it isn't broken
abbrev pub Fitted : State → Type 0
Fitted s = (s ≡ state.Broken → ⊥) → FitsState s

-- ---- numbers
chosen : (b : Bool) (x y : ℤ) → FitsInt x → FitsInt y → FitsInt (cond b x y)
chosen true x y f g = f
chosen false x y f g = g

fold_fits : (f : ℤ → ℤ → ℤ) → ((x y : ℤ) → FitsInt x → FitsInt y → FitsInt (f x y)) → (x : ℤ) (xs : List ℤ) → FitsInt x → All FitsInt xs → FitsInt (fold f x xs)
fold_fits f keeps x [] own all = own
fold_fits f keeps x (y ∷ ys) own all = fold_fits f keeps (f x y) ys (keeps x y own (All-head FitsInt y ys all)) (All-tail FitsInt y ys all)

least_fits : (xs : List ℤ) → All FitsInt xs → FitsState (least_of xs)
least_fits [] all = tt
least_fits (x ∷ xs) all = fold_fits int_min (λ a b f g. chosen (int_lt b a) b a g f) x xs (All-head FitsInt x xs all) (All-tail FitsInt x xs all)

greatest_fits : (xs : List ℤ) → All FitsInt xs → FitsState (greatest_of xs)
greatest_fits [] all = tt
greatest_fits (x ∷ xs) all = fold_fits int_max (λ a b f g. grind (arith, f, g)) x xs (All-head FitsInt x xs all) (All-tail FitsInt x xs all)

-- ---- a few numbers
put_fits : (x : ℤ) (ys : List ℤ) → FitsInt x → All FitsInt ys → All FitsInt (put int_cmp x ys)
unfolding put
put_fits x [] own all = All-cons FitsInt x [] own all
put_fits x (y ∷ ys) own all = by (int_cmp x y) (put_fits x ys own (All-tail FitsInt y ys all))
  where
    by : (r : Ordering) → All FitsInt (put int_cmp x ys) → All FitsInt (by_order r (x ∷ y ∷ ys) (y ∷ ys) (y ∷ put int_cmp x ys))
    by Less rest = All-cons FitsInt x (y ∷ ys) own all
    by Equal rest = all
    by Greater rest = All-cons FitsInt y (put int_cmp x ys) (All-head FitsInt y ys all) rest

all_put_fit : (xs ys : List ℤ) → All FitsInt xs → All FitsInt ys → All FitsInt (put_all int_cmp xs ys)
all_put_fit [] ys all others = others
all_put_fit (x ∷ xs) ys all others = put_fits x (put_all int_cmp xs ys) (All-head FitsInt x xs all) (all_put_fit xs ys (All-tail FitsInt x xs all) others)

few_fit : (xs : List ℤ) → All FitsInt xs → IsIntsState (ints_state_of xs) → Fitted (ints_state_of xs)
few_fit [] all p n = tt
few_fit (x ∷ xs) all p n = by (nat_le (length (distinct int_cmp (x ∷ xs))) 3) p n
  where
    by : (b : Bool) → IsIntsState (ints_state (if b then fact (distinct int_cmp (x ∷ xs)) else broken)) → (ints_state (if b then fact (distinct int_cmp (x ∷ xs)) else broken) ≡ state.Broken → ⊥)
        → FitsState (ints_state (if b then fact (distinct int_cmp (x ∷ xs)) else broken))
    by true p n = (p.some, p.few, all_put_fit (x ∷ xs) [] all (All-nil FitsInt))
    by false p n = absurd (n refl)

-- ---- a code
code_fits : (ns : List ℕ) → All FitsCode ns → Fitted (code_of ns)
code_fits [] all n = tt
code_fits (x ∷ xs) all n = by (list_all (nat_eq x) xs) n
  where
    by : (b : Bool) → (code_state (if b then fact x else broken) ≡ state.Broken → ⊥) → FitsState (code_state (if b then fact x else broken))
    by true n = All-head FitsCode x xs all
    by false n = absurd (n refl)

-- ---- a modulus
apart_small : (x y : ℤ) → FitsInt x → FitsInt y → apart x y < 2 ^ 64
apart_small (pos a) (pos b) f g =
    let u : a < 2 ^ 63 = ltb-true a (2 ^ 63) f in
    let v : b < 2 ^ 63 = ltb-true b (2 ^ 63) g in
    omega (arith, ints)
apart_small (pos a) (negsuc b) f g =
    let u : a < 2 ^ 63 = ltb-true a (2 ^ 63) f in
    let v : b < 2 ^ 63 = ltb-true b (2 ^ 63) g in
    omega (arith, ints)
apart_small (negsuc a) (pos b) f g =
    let u : a < 2 ^ 63 = ltb-true a (2 ^ 63) f in
    let v : b < 2 ^ 63 = ltb-true b (2 ^ 63) g in
    omega (arith, ints)
apart_small (negsuc a) (negsuc b) f g =
    let u : a < 2 ^ 63 = ltb-true a (2 ^ 63) f in
    let v : b < 2 ^ 63 = ltb-true b (2 ^ 63) g in
    omega (arith, ints)

divisor_small : (x : ℤ) (xs : List ℤ) → FitsInt x → All FitsInt xs → gcd_of_all (map (apart x) xs) < 2 ^ 64
divisor_small x [] own all = omega arith
divisor_small x (y ∷ ys) own all =
    gcd_small (apart x y) (gcd_of_all (map (apart x) ys)) (2 ^ 64) (omega arith) (apart_small x y own (All-head FitsInt y ys all))
    (λ _. divisor_small x ys own (All-tail FitsInt y ys all))

remainder_fits : (b : Bool) (x y : ℤ) → FitsInt x → b ≡ true → FitsInt (if b then x else y)
remainder_fits true x y own is = own
remainder_fits false x y own is = absurd (cc is)

class_fits : (m : ℕ) (r : ℤ) → m < 2 ^ 64 → ((m == 0) ≡ true → FitsInt r) → IsModulusState (modulus_state (fact (m, r))) → FitsState (modulus_state (fact (m, r)))
class_fits m r small own p = by (m == 0) own p
  where
    by : (b : Bool) → (b ≡ true → FitsInt r) → IsModulusState (if b then state.One r else state.Modulus m (unsigned_abs r)) → FitsState (if b then state.One r else state.Modulus m (unsigned_abs r))
    by true own p = own refl
    by false own p = (small, omega (arith, p.1, small))

modulus_fits : (xs : List ℤ) → All FitsInt xs → IsModulusState (modulus_of xs) → Fitted (modulus_of xs)
unfolding class remainder
modulus_fits [] all p n = tt
modulus_fits (x ∷ xs) all p n =
    by (gcd_of_all (map (apart x) xs)) (divisor_small x xs (All-head FitsInt x xs all) (All-tail FitsInt x xs all)) (gcd_of_all (map (apart x) xs) == 1) p n
  where
    by : (m : ℕ) → m < 2 ^ 64 → (b : Bool) → IsModulusState (modulus_state (if b then broken else fact (m, remainder m x))) → Fitted (modulus_state (if b then broken else fact (m, remainder m x)))
    by m small true p n = absurd (n refl)
    by m small false p n = class_fits m (remainder m x) small (remainder_fits (m == 0) x (int_rem_euclid x (pos m)) (All-head FitsInt x xs all)) p

-- ---- by the form alone
within : (z : ℤ) → unsigned_abs z ≤ 2 ^ 62 → FitsInt z
within (pos n) small = grind (arith, small)
within (negsuc n) small = grind (arith, small)

plain_fits : (s : State) → IsPlainState s → Fitted s
plain_fits state.Empty p n = tt
plain_fits state.Broken p n = absurd (n refl)
plain_fits state.Holds p n = tt
plain_fits _ p n = absurd p

truth_fits : (s : State) → IsTruthState s → Fitted s
truth_fits state.Empty p n = tt
truth_fits state.Broken p n = absurd (n refl)
truth_fits (state.Truth b) p n = tt
truth_fits _ p n = absurd p

texts_fit : (s : State) → IsTextsState s → AreStrings s → Fitted s
texts_fit state.Empty p q n = tt
texts_fit state.Broken p q n = absurd (n refl)
texts_fit (state.Texts ts) p q n = (p.some, q)
texts_fit _ p q n = absurd p

line_fits : (s : State) → IsLineState s → Fitted s
line_fits state.Empty p n = tt
line_fits state.Broken p n = absurd (n refl)
line_fits (state.Spot x y) p n = (within x p.x, within y p.y)
line_fits (state.Straight a b c) p n = (omega (arith, p.a), omega (arith, p.b), omega (arith, p.c))
line_fits _ p n = absurd p

plane_fits : (s : State) → IsPlaneState s → Fitted s
plane_fits state.Empty p n = tt
plane_fits state.Broken p n = absurd (n refl)
plane_fits (state.Span x1 y1 z1 x2 y2 z2) p n =
    let near : (z : ℤ) → unsigned_abs z ≤ 2 ^ 30 → FitsInt z = λ z small. within z (omega (arith, small)) in
    (near x1 p.first.x, near y1 p.first.y, near z1 p.first.z, near x2 p.last.x, near y2 p.last.y, near z2 p.last.z)
plane_fits (state.Plane a b c d) p n = (omega (arith, p.a), omega (arith, p.b), omega (arith, p.c), omega (arith, p.d))
plane_fits _ p n = absurd p

offset_fits : (s : State) → IsOffsetState s → IsDifference s → Fitted s
offset_fits state.Empty p q n = tt
offset_fits state.Broken p q n = absurd (n refl)
offset_fits (state.Offset k) p q n = omega (arith, q)
offset_fits _ p q n = absurd p

-- ---- by what a row says
-- the values that tuples of these kinds give are within their types
abbrev pub IsWithin : List Kind → Meaning → Type 0
IsWithin kinds (least values) = (t : List Value) → IsTuple kinds t → All FitsInt (values t)
IsWithin kinds (greatest values) = (t : List Value) → IsTuple kinds t → All FitsInt (values t)
IsWithin kinds (ints_meant values) = (t : List Value) → IsTuple kinds t → All FitsInt (values t)
IsWithin kinds (code values) = (t : List Value) → IsTuple kinds t → All FitsCode (values t)
IsWithin kinds (modulus value) = (t : List Value) → IsTuple kinds t → FitsInt (value t)
IsWithin kinds _ = Unit {0}

all_flat : {T V : Type 0} (P : V → Type 0) (Q : T → Type 0) (values : T → List V) → ((t : T) → Q t → All P (values t)) → (ts : List T) → All Q ts → All P (flat_map values ts)
all_flat P Q values each [] all = All-nil P
all_flat P Q values each (t ∷ ts) all = All-append P (values t) (flat_map values ts) (each t (All-head Q t ts all)) (all_flat P Q values each ts (All-tail Q t ts all))

all_mapped : {T V : Type 0} (P : V → Type 0) (Q : T → Type 0) (value : T → V) → ((t : T) → Q t → P (value t)) → (ts : List T) → All Q ts → All P (map value ts)
all_mapped P Q value each [] all = All-nil P
all_mapped P Q value each (t ∷ ts) all = All-cons P (value t) (map value ts) (each t (All-head Q t ts all)) (all_mapped P Q value each ts (All-tail Q t ts all))

pub meant_fits : (kinds : List Kind) (m : Meaning) → IsWithin kinds m → (ts : List (List Value)) → All (IsTuple kinds) ts → IsProper (form_by m) (state_by m ts) → Fitted (state_by m ts)
meant_fits kinds (relation r) w ts all p n = plain_fits (state_by (relation r) ts) p n
meant_fits kinds (least values) w ts all p n = least_fits (flat_map values ts) (all_flat FitsInt (IsTuple kinds) values w ts all)
meant_fits kinds (greatest values) w ts all p n = greatest_fits (flat_map values ts) (all_flat FitsInt (IsTuple kinds) values w ts all)
meant_fits kinds (ints_meant values) w ts all p n = few_fit (flat_map values ts) (all_flat FitsInt (IsTuple kinds) values w ts all) p n
meant_fits kinds (truth values) w ts all p n = truth_fits (state_by (truth values) ts) p n
meant_fits kinds (code values) w ts all p n = code_fits (flat_map values ts) (all_flat FitsCode (IsTuple kinds) values w ts all) n
meant_fits kinds (texts values) w ts all p n = texts_fit (state_by (texts values) ts) p.0 p.1 n
meant_fits kinds (modulus value) w ts all p n = modulus_fits (map value ts) (all_mapped FitsInt (IsTuple kinds) value w ts all) p n
meant_fits kinds (line point) w ts all p n = line_fits (state_by (line point) ts) p n
meant_fits kinds (plane point) w ts all p n = plane_fits (state_by (plane point) ts) p n
meant_fits kinds (offset values) w ts all p n = offset_fits (state_by (offset values) ts) p.0 p.1 n
