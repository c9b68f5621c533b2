-- A proper state that fits is of its form.
use Rattle.std.specs.Prelude.{◌≡◌, ◌<◌, ◌≤◌, ℕ, ℤ, Bool, IsTrue, All, List, length, refl}
use Rattle.std.specs.List.{list_all}
use Rattle.std.proofs.lemmas.Bool.{false≢true}
use Rattle.dk_base.specs.Numbers.{fits_i64}
use Rattle.dk_base.specs.Values.Items.{is_text}
use Rattle.dk_forms.specs.declared.states.State.{State}
use Rattle.dk_forms.specs.declared.states.State.TheVariants as state
use Rattle.dk_template.specs.Fitting.{fits}
use Rattle.dk_template.specs.Proper.{IsProper}
use Rattle.dk_template.specs.declared.templates.StateForm.{StateForm}
use Rattle.dk_template.specs.declared.templates.StateForm.TheVariants as form
use Rattle.dk_expr.specs.Held.{is_held}

-- what is told by a state of the form
abbrev pub Shape : StateForm → State → Type 0
Shape form.Plain s = s ≡ state.Holds
Shape form.Least s = (k : ℤ) × (s ≡ state.Least k)
Shape form.Greatest s = (k : ℤ) × (s ≡ state.Greatest k)
Shape form.Ints s = (ks : List ℤ) × (s ≡ state.Ints ks) × IsTrue (list_all fits_i64 ks) × (0 < length ks) × (length ks ≤ 3)
Shape form.Truth s = (b : Bool) × (s ≡ state.Truth b)
Shape form.Code s = (h : ℕ) × (s ≡ state.Code h)
Shape form.Texts s = (ts : List (List ℕ)) × (s ≡ state.Texts ts) × All (λ t. IsTrue (is_text t)) ts × (0 < length ts) × (length ts ≤ 3)
Shape form.Modulus s = (m : ℕ) × (r : ℕ) × (s ≡ state.Modulus m r)
Shape form.Line s = (a : ℤ) × (b : ℤ) × (c : ℤ) × (s ≡ state.Straight a b c)
Shape form.Plane s = (a : ℤ) × (b : ℤ) × (c : ℤ) × (d : ℤ) × (s ≡ state.Plane a b c d)
Shape form.Offset s = (k : ℤ) × (s ≡ state.Offset k)

pub shape_of : (form : StateForm) (s : State) → IsProper form s → IsTrue (fits s) → IsTrue (is_held s) → Shape form s
shape_of form.Plain state.Holds p f h = refl
shape_of form.Plain state.Empty p f h = absurd (false≢true f)
shape_of form.Plain state.Broken p f h = absurd (false≢true f)
shape_of form.Plain _ p f h = absurd p
shape_of form.Least (state.Least k) p f h = (k, refl)
shape_of form.Least state.Empty p f h = absurd (false≢true f)
shape_of form.Least state.Broken p f h = absurd (false≢true f)
shape_of form.Least _ p f h = absurd p
shape_of form.Greatest (state.Greatest k) p f h = (k, refl)
shape_of form.Greatest state.Empty p f h = absurd (false≢true f)
shape_of form.Greatest state.Broken p f h = absurd (false≢true f)
shape_of form.Greatest _ p f h = absurd p
shape_of form.Ints (state.Ints ks) p f h = (ks, refl, h, p.some, p.few)
shape_of form.Ints state.Empty p f h = absurd (false≢true f)
shape_of form.Ints state.Broken p f h = absurd (false≢true f)
shape_of form.Ints _ p f h = absurd p
shape_of form.Truth (state.Truth b) p f h = (b, refl)
shape_of form.Truth state.Empty p f h = absurd (false≢true f)
shape_of form.Truth state.Broken p f h = absurd (false≢true f)
shape_of form.Truth _ p f h = absurd p
shape_of form.Code (state.Code c) p f h = (c, refl)
shape_of form.Code state.Empty p f h = absurd (false≢true f)
shape_of form.Code state.Broken p f h = absurd (false≢true f)
shape_of form.Code _ p f h = absurd p
shape_of form.Texts (state.Texts ts) p f h = (ts, refl, p.1, p.0.some, p.0.few)
shape_of form.Texts state.Empty p f h = absurd (false≢true f)
shape_of form.Texts state.Broken p f h = absurd (false≢true f)
shape_of form.Texts _ p f h = absurd p.0
shape_of form.Modulus (state.Modulus m r) p f h = (m, r, refl)
shape_of form.Modulus (state.One v) p f h = absurd (false≢true f)
shape_of form.Modulus state.Empty p f h = absurd (false≢true f)
shape_of form.Modulus state.Broken p f h = absurd (false≢true f)
shape_of form.Modulus _ p f h = absurd p
shape_of form.Line (state.Straight a b c) p f h = (a, b, c, refl)
shape_of form.Line (state.Spot x y) p f h = absurd (false≢true f)
shape_of form.Line state.Empty p f h = absurd (false≢true f)
shape_of form.Line state.Broken p f h = absurd (false≢true f)
shape_of form.Line _ p f h = absurd p
shape_of form.Plane (state.Plane a b c d) p f h = (a, b, c, d, refl)
shape_of form.Plane (state.Span x1 y1 z1 x2 y2 z2) p f h = absurd (false≢true f)
shape_of form.Plane state.Empty p f h = absurd (false≢true f)
shape_of form.Plane state.Broken p f h = absurd (false≢true f)
shape_of form.Plane _ p f h = absurd p
shape_of form.Offset (state.Offset k) p f h = (k, refl)
shape_of form.Offset state.Empty p f h = absurd (false≢true f)
shape_of form.Offset state.Broken p f h = absurd (false≢true f)
shape_of form.Offset _ p f h = absurd p.0
