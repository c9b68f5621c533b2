-- Values behind a text.
use Rattle.std.specs.Prelude.{◌≡◌, ◌++◌, ℕ, Bool, true, false, List, Option, Some, None, if◌then◌else◌}
use Rattle.dk_base.specs.declared.values.Value.{Value}
use Rattle.dk_decl.specs.Types.{is_missing}
use Rattle.dk_write.specs.Records.{value_text}
use Rattle.dk_table.specs.declared.writing.tails.Tail.{Tail}

-- a value's lines and what follows them
abbrev pub value_with : Tail → Value → List ℕ
value_with tail v = if is_missing v then tail.untold else value_text v ++ tail.told

-- The value of a cell was put behind the text, with what follows it; or the cell writes none, and the text stays.
abbrev pub Pushes : Option Value → Tail → List ℕ → List ℕ → Bool → Type 0
Pushes None tail old new fits = (fits ≡ false) × (new ≡ old)
Pushes (Some v) tail old new fits = (fits ≡ true) × (new ≡ old ++ value_with tail v)

-- The text of a row was put behind another, where its cells fit their columns; where they don't, something was.
abbrev pub AddsRow : Bool → List ℕ → List ℕ → List ℕ → Bool → Type 0
AddsRow true text old new fits = (fits ≡ true) × (new ≡ old ++ text)
AddsRow false text old new fits = (fits ≡ false) × ((more : List ℕ) × (new ≡ old ++ more))

-- where they don't, nothing was
abbrev pub GathersRow : Bool → List ℕ → List ℕ → List ℕ → Bool → Type 0
GathersRow true text old new fits = (fits ≡ true) × (new ≡ old ++ text)
GathersRow false text old new fits = (fits ≡ false) × (new ≡ old)
