-- What a row can say of tuples.
use Rattle.std.specs.Prelude.{ℕ, ℤ, Bool, false, List, Option, flat_map, map}
use Rattle.dk_base.specs.declared.values.Value.{Value}
use Rattle.dk_forms.specs.Code.{code_of}
use Rattle.dk_forms.specs.Greatest.{greatest_of}
use Rattle.dk_forms.specs.Ints.{ints_of}
use Rattle.dk_forms.specs.Least.{least_of}
use Rattle.dk_forms.specs.Modulus.{modulus_of}
use Rattle.dk_forms.specs.Offset.{offset_of}
use Rattle.dk_forms.specs.Plain.{plain_of}
use Rattle.dk_forms.specs.Plane.{plane_of}
use Rattle.dk_forms.specs.Plane.Line.{line_of}
use Rattle.dk_forms.specs.Texts.{texts_of}
use Rattle.dk_forms.specs.Truth.{truth_of}
use Rattle.dk_forms.specs.declared.states.State.{State}
use Rattle.dk_template.specs.declared.templates.StateForm.{StateForm}
use Rattle.dk_template.specs.declared.templates.StateForm.TheVariants as form

-- a relation, which a tuple satisfies or not; else the values that a tuple gives, of all of which the state tells something
pub data Meaning : Type 0 where
  relation : (List Value → Bool) → Meaning
  least : (List Value → List ℤ) → Meaning
  greatest : (List Value → List ℤ) → Meaning
  ints : (List Value → List ℤ) → Meaning
  truth : (List Value → List Bool) → Meaning
  code : (List Value → List ℕ) → Meaning
  texts : (List Value → List (List ℕ)) → Meaning
  modulus : (List Value → ℤ) → Meaning
  line : (List Value → ℤ × ℤ) → Meaning
  plane : (List Value → ℤ × ℤ × ℤ) → Meaning
  offset : (List Value → List (Option ℤ)) → Meaning

-- the form of its states
abbrev pub form_by : Meaning → StateForm
form_by (relation r) = form.Plain
form_by (least values) = form.Least
form_by (greatest values) = form.Greatest
form_by (ints values) = form.Ints
form_by (truth values) = form.Truth
form_by (code values) = form.Code
form_by (texts values) = form.Texts
form_by (modulus value) = form.Modulus
form_by (line point) = form.Line
form_by (plane point) = form.Plane
form_by (offset values) = form.Offset

-- the relation, where it is one
abbrev pub relation_by : Meaning → List Value → Bool
relation_by (relation r) tuple = r tuple
relation_by _ tuple = false

-- the state of a list of tuples
abbrev pub state_by : Meaning → List (List Value) → State
state_by (relation r) tuples = plain_of (map r tuples)
state_by (least values) tuples = least_of (flat_map values tuples)
state_by (greatest values) tuples = greatest_of (flat_map values tuples)
state_by (ints values) tuples = ints_of (flat_map values tuples)
state_by (truth values) tuples = truth_of (flat_map values tuples)
state_by (code values) tuples = code_of (flat_map values tuples)
state_by (texts values) tuples = texts_of (flat_map values tuples)
state_by (modulus value) tuples = modulus_of (map value tuples)
state_by (line point) tuples = line_of (map point tuples)
state_by (plane point) tuples = plane_of (map point tuples)
state_by (offset values) tuples = offset_of (flat_map values tuples)
