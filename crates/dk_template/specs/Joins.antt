-- What two states of a form say together.
use Rattle.dk_forms.specs.Code.{code_join}
use Rattle.dk_forms.specs.Greatest.{greatest_join}
use Rattle.dk_forms.specs.Ints.{ints_join}
use Rattle.dk_forms.specs.Least.{least_join}
use Rattle.dk_forms.specs.Modulus.{modulus_join}
use Rattle.dk_forms.specs.Offset.{offset_join}
use Rattle.dk_forms.specs.Plain.{plain_join}
use Rattle.dk_forms.specs.Plane.{plane_join}
use Rattle.dk_forms.specs.Plane.Line.{line_join}
use Rattle.dk_forms.specs.Texts.{texts_join}
use Rattle.dk_forms.specs.Truth.{truth_join}
use Rattle.dk_forms.specs.declared.states.State.{State}
use Rattle.dk_template.specs.declared.templates.StateForm.{StateForm}
use Rattle.dk_template.specs.declared.templates.StateForm.TheVariants.{Plain, Least, Greatest, Ints, Truth, Code, Texts, Modulus, Line, Plane, Offset}

-- the join of two states of the form
abbrev pub joined : StateForm → State → State → State
joined Plain a b = plain_join a b
joined Least a b = least_join a b
joined Greatest a b = greatest_join a b
joined Ints a b = ints_join a b
joined Truth a b = truth_join a b
joined Code a b = code_join a b
joined Texts a b = texts_join a b
joined Modulus a b = modulus_join a b
joined Line a b = line_join a b
joined Plane a b = plane_join a b
joined Offset a b = offset_join a b
