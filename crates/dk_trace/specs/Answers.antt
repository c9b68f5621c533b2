-- What a call that reads a record answers, against what reading its lines gives.
use Rattle.std.specs.Prelude.{◌≡◌, List, [], ◌∷◌, Option, Some, None, Result, Ok, Err}
use Rattle.dk_base.specs.Reading.{LineFault}
use Rattle.dk_base.specs.Values.{value_of}
use Rattle.dk_base.specs.declared.faults.BlockFault.{BlockFault}
use Rattle.dk_base.specs.declared.values.Value.{Value}
use Rattle.dk_base.specs.declared.values.View.{View}
use Rattle.dk_decl.specs.Outcomes.{FaultAgrees}

-- the answer shows what reading gives, unless memory ran out
abbrev pub Shows : {A B : Type 0} → (B → A) → Result B BlockFault → Result A LineFault → Type 0
Shows view (Ok x) read = read ≡ Ok (view x)
Shows view (Err e) read = FaultAgrees e read

-- the value that a view shows, if there is one
abbrev pub shown_value : Option View → List Value
shown_value None = []
shown_value (Some view) = value_of view ∷ []
