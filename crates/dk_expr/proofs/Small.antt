-- The numbers of a state that is proper and that a state can hold have at most 127 bits.
use Rattle.std.specs.Prelude.{◌<◌, ◌^◌, ℕ, ℤ, zero, suc, pos, negsuc, Bool, IsTrue, List, unsigned_abs}
use Rattle.std.proofs.Common.{arith}
use Rattle.std.proofs.lemmas.Bool.{false≢true, ltb-true}
use Rattle.dk_base.specs.Numbers.{fits_i64}
use Rattle.dk_forms.specs.Plane.{IsPlane}
use Rattle.dk_forms.specs.Plane.Line.{IsStraight}
use Rattle.dk_forms.specs.declared.states.State.{State}
use Rattle.dk_forms.specs.declared.states.State.TheVariants as state
use Rattle.dk_print.specs.Parts.{factor_at}
use Rattle.dk_template.specs.Fitting.{fits}
use Rattle.dk_template.specs.Proper.{IsProper}
use Rattle.dk_template.specs.declared.templates.StateForm.{StateForm}
use Rattle.dk_template.specs.declared.templates.StateForm.TheVariants as form
use Rattle.dk_expr.specs.Following.{IsSmall}
use Rattle.dk_expr.specs.Held.{is_held}

pub small_whole : (z : ℤ) → IsTrue (fits_i64 z) → unsigned_abs z < 2 ^ 127
small_whole (pos n) fits = omega (arith, ltb-true n (2 ^ 63) fits)
small_whole (negsuc n) fits = omega (arith, ltb-true n (2 ^ 63) fits)

nothing : unsigned_abs (pos 0) < 2 ^ 127
nothing = omega arith

zero_small : 0 < 2 ^ 127
zero_small = omega arith

two_factors : (a b : ℤ) → unsigned_abs a < 2 ^ 127 → unsigned_abs b < 2 ^ 127 → (c : ℤ) (role : ℕ) → unsigned_abs (factor_at (state.Straight a b c) role) < 2 ^ 127
two_factors a b p q c zero = p
two_factors a b p q c (suc zero) = q
two_factors a b p q c (suc (suc role)) = nothing

three_factors : (a b c d : ℤ) → unsigned_abs a < 2 ^ 127 → unsigned_abs b < 2 ^ 127 → unsigned_abs c < 2 ^ 127 → (role : ℕ) → unsigned_abs (factor_at (state.Plane a b c d) role) < 2 ^ 127
three_factors a b c d p q r zero = p
three_factors a b c d p q r (suc zero) = q
three_factors a b c d p q r (suc (suc zero)) = r
three_factors a b c d p q r (suc (suc (suc role))) = nothing

plain_small : IsSmall state.Holds
plain_small = record { bound = nothing; remainder = zero_small; modulus = zero_small; factor = λ role. nothing; constant = nothing; offset = nothing }

least_small : (k : ℤ) → IsTrue (fits_i64 k) → IsSmall (state.Least k)
least_small k h = record { bound = small_whole k h; remainder = zero_small; modulus = zero_small; factor = λ role. nothing; constant = nothing; offset = nothing }

greatest_small : (k : ℤ) → IsTrue (fits_i64 k) → IsSmall (state.Greatest k)
greatest_small k h = record { bound = small_whole k h; remainder = zero_small; modulus = zero_small; factor = λ role. nothing; constant = nothing; offset = nothing }

ints_small : (ks : List ℤ) → IsSmall (state.Ints ks)
ints_small ks = record { bound = nothing; remainder = zero_small; modulus = zero_small; factor = λ role. nothing; constant = nothing; offset = nothing }

truth_small : (b : Bool) → IsSmall (state.Truth b)
truth_small b = record { bound = nothing; remainder = zero_small; modulus = zero_small; factor = λ role. nothing; constant = nothing; offset = nothing }

code_small : (h : ℕ) → IsSmall (state.Code h)
code_small h = record { bound = nothing; remainder = zero_small; modulus = zero_small; factor = λ role. nothing; constant = nothing; offset = nothing }

texts_small : (ts : List (List ℕ)) → IsSmall (state.Texts ts)
texts_small ts = record { bound = nothing; remainder = zero_small; modulus = zero_small; factor = λ role. nothing; constant = nothing; offset = nothing }

modulus_small : (m r : ℕ) → m < 2 ^ 64 → r < m → IsSmall (state.Modulus m r)
modulus_small m r h k = record { bound = nothing; remainder = omega (arith, h, k); modulus = omega (arith, h); factor = λ role. nothing; constant = nothing; offset = nothing }

line_small : (a b c : ℤ) → IsStraight (a, b, c) → IsSmall (state.Straight a b c)
line_small a b c p =
    let x : unsigned_abs a < 2 ^ 127 = omega (arith, p.a) in
    let y : unsigned_abs b < 2 ^ 127 = omega (arith, p.b) in
    record { bound = nothing; remainder = zero_small; modulus = zero_small; factor = two_factors a b x y c; constant = omega (arith, p.c); offset = nothing }

plane_small : (a b c d : ℤ) → IsPlane (a, b, c, d) → IsSmall (state.Plane a b c d)
plane_small a b c d p =
    let x : unsigned_abs a < 2 ^ 127 = omega (arith, p.a) in
    let y : unsigned_abs b < 2 ^ 127 = omega (arith, p.b) in
    let z : unsigned_abs c < 2 ^ 127 = omega (arith, p.c) in
    record { bound = nothing; remainder = zero_small; modulus = zero_small; factor = three_factors a b c d x y z; constant = omega (arith, p.d); offset = nothing }

offset_small : (k : ℤ) → unsigned_abs k < 2 ^ 64 → IsSmall (state.Offset k)
offset_small k h = record { bound = nothing; remainder = zero_small; modulus = zero_small; factor = λ role. nothing; constant = nothing; offset = omega (arith, h) }

pub small_of : (form : StateForm) (s : State) → IsProper form s → IsTrue (fits s) → IsTrue (is_held s) → IsSmall s
small_of form.Plain state.Holds p f h = plain_small
small_of form.Plain state.Empty p f h = absurd (false≢true f)
small_of form.Plain state.Broken p f h = absurd (false≢true f)
small_of form.Plain _ p f h = absurd p
small_of form.Least (state.Least k) p f h = least_small k h
small_of form.Least state.Empty p f h = absurd (false≢true f)
small_of form.Least state.Broken p f h = absurd (false≢true f)
small_of form.Least _ p f h = absurd p
small_of form.Greatest (state.Greatest k) p f h = greatest_small k h
small_of form.Greatest state.Empty p f h = absurd (false≢true f)
small_of form.Greatest state.Broken p f h = absurd (false≢true f)
small_of form.Greatest _ p f h = absurd p
small_of form.Ints (state.Ints ks) p f h = ints_small ks
small_of form.Ints state.Empty p f h = absurd (false≢true f)
small_of form.Ints state.Broken p f h = absurd (false≢true f)
small_of form.Ints _ p f h = absurd p
small_of form.Truth (state.Truth b) p f h = truth_small b
small_of form.Truth state.Empty p f h = absurd (false≢true f)
small_of form.Truth state.Broken p f h = absurd (false≢true f)
small_of form.Truth _ p f h = absurd p
small_of form.Code (state.Code c) p f h = code_small c
small_of form.Code state.Empty p f h = absurd (false≢true f)
small_of form.Code state.Broken p f h = absurd (false≢true f)
small_of form.Code _ p f h = absurd p
small_of form.Texts (state.Texts ts) p f h = texts_small ts
small_of form.Texts state.Empty p f h = absurd (false≢true f)
small_of form.Texts state.Broken p f h = absurd (false≢true f)
small_of form.Texts _ p f h = absurd p.0
small_of form.Modulus (state.Modulus m r) p f h = modulus_small m r (ltb-true m (2 ^ 64) h) p.1
small_of form.Modulus (state.One v) p f h = absurd (false≢true f)
small_of form.Modulus state.Empty p f h = absurd (false≢true f)
small_of form.Modulus state.Broken p f h = absurd (false≢true f)
small_of form.Modulus _ p f h = absurd p
small_of form.Line (state.Straight a b c) p f h = line_small a b c p
small_of form.Line (state.Spot x y) p f h = absurd (false≢true f)
small_of form.Line state.Empty p f h = absurd (false≢true f)
small_of form.Line state.Broken p f h = absurd (false≢true f)
small_of form.Line _ p f h = absurd p
small_of form.Plane (state.Plane a b c d) p f h = plane_small a b c d p
small_of form.Plane (state.Span x1 y1 z1 x2 y2 z2) p f h = absurd (false≢true f)
small_of form.Plane state.Empty p f h = absurd (false≢true f)
small_of form.Plane state.Broken p f h = absurd (false≢true f)
small_of form.Plane _ p f h = absurd p
small_of form.Offset (state.Offset k) p f h = offset_small k p.1
small_of form.Offset state.Empty p f h = absurd (false≢true f)
small_of form.Offset state.Broken p f h = absurd (false≢true f)
small_of form.Offset _ p f h = absurd p.0
