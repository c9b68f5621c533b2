-- Which states are proper for a row: Empty, Broken, and those of the row's form within its bounds.
use Rattle.std.specs.Prelude.{◌<◌, ◌^◌, All, IsTrue, unsigned_abs}
use Rattle.dk_base.specs.Values.Items.{is_text}
use Rattle.dk_forms.specs.Code.{IsCodeState}
use Rattle.dk_forms.specs.Greatest.{IsGreatestState}
use Rattle.dk_forms.specs.Ints.{IsIntsState}
use Rattle.dk_forms.specs.Least.{IsLeastState}
use Rattle.dk_forms.specs.Modulus.{IsModulusState}
use Rattle.dk_forms.specs.Offset.{IsOffsetState}
use Rattle.dk_forms.specs.Plain.{IsPlainState}
use Rattle.dk_forms.specs.Plane.{IsPlaneState}
use Rattle.dk_forms.specs.Plane.Line.{IsLineState}
use Rattle.dk_forms.specs.Texts.{IsTextsState}
use Rattle.dk_forms.specs.Truth.{IsTruthState}
use Rattle.dk_forms.specs.declared.states.State.{State}
use Rattle.dk_forms.specs.declared.states.State.TheVariants as state
use Rattle.dk_template.specs.declared.templates.StateForm.{StateForm}
use Rattle.dk_template.specs.declared.templates.StateForm.TheVariants.{Plain, Least, Greatest, Ints, Truth, Code, Texts, Modulus, Line, Plane, Offset}

-- each text is one that a string is written by
abbrev pub AreStrings : State → Type 0
AreStrings (state.Texts texts) = All (λ t. IsTrue (is_text t)) texts
AreStrings _ = Unit {0}

-- the difference of two whole numbers of 64 bits
abbrev pub IsDifference : State → Type 0
IsDifference (state.Offset k) = unsigned_abs k < 2 ^ 64
IsDifference _ = Unit {0}

abbrev pub IsProper : StateForm → State → Type 0
IsProper Plain s = IsPlainState s
IsProper Least s = IsLeastState s
IsProper Greatest s = IsGreatestState s
IsProper Ints s = IsIntsState s
IsProper Truth s = IsTruthState s
IsProper Code s = IsCodeState s
IsProper Texts s = IsTextsState s × AreStrings s
IsProper Modulus s = IsModulusState s
IsProper Line s = IsLineState s
IsProper Plane s = IsPlaneState s
IsProper Offset s = IsOffsetState s × IsDifference s
