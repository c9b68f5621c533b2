-- Texts with holes: a letter that some filling has stands for the filling's text.
use Rattle.std.specs.Prelude.{◌==◌, ℕ, List, [], ◌∷◌, flat_map, if◌then◌else◌}
use Rattle.dk_languages.specs.declared.fillings.Filling.{Filling}

-- the text of the first filling for this letter; a letter without one stands for itself
abbrev pub filled_letter : List Filling → ℕ → List ℕ
filled_letter [] b = b ∷ []
filled_letter (f ∷ fs) b = if f.letter == b then f.text else filled_letter fs b

abbrev pub filled : List Filling → List ℕ → List ℕ
filled fillings template = flat_map (filled_letter fillings) template
