-- States that own memory.
use Rattle.dk_forms.specs.declared.states.State.{State}
use Rattle.dk_forms.specs.declared.states.State.TheVariants.{Texts}

abbrev pub IsTexts : State → Type 0
IsTexts (Texts s) = Unit {0}
IsTexts _ = ⊥
