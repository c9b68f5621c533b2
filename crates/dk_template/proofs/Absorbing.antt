-- Broken stays, whatever is joined to it.
use Rattle.std.specs.Prelude.{◌≡◌, refl}
use Rattle.dk_forms.specs.declared.states.State.{State}
use Rattle.dk_forms.specs.declared.states.State.TheVariants.{Broken}
use Rattle.dk_template.specs.Joins.{joined}
use Rattle.dk_template.specs.declared.templates.StateForm.{StateForm}
use Rattle.dk_template.specs.declared.templates.StateForm.TheVariants.{Plain, Least, Greatest, Ints, Truth, Code, Texts, Modulus, Line, Plane, Offset}

pub broken_absorbs : (form : StateForm) (s : State) → joined form Broken s ≡ Broken
broken_absorbs Plain s = refl
broken_absorbs Least s = refl
broken_absorbs Greatest s = refl
broken_absorbs Ints s = refl
broken_absorbs Truth s = refl
broken_absorbs Code s = refl
broken_absorbs Texts s = refl
broken_absorbs Modulus s = refl
broken_absorbs Line s = refl
broken_absorbs Plane s = refl
broken_absorbs Offset s = refl
