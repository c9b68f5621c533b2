-- What is kept of the lines so far.
use Rattle.std.specs.Prelude.{◌≡◌, ◌++◌, ◌∷◌, ℕ, List}
use Rattle.dk_claims.specs.Claims.{written_lines}
use Rattle.dk_claims.specs.Sections.{sections_below, sections_of}
use Rattle.dk_claims.specs.declared.sections.Section.{Section}
use Rattle.dk_claims.specs.declared.sections.Sections.{Sections}

-- the sections of these lines, none of which is blank, behind those that are kept
abbrev pub sections_with : Sections → List (List ℕ) → List Section
sections_with kept lines = kept.closed ++ sections_below kept.behind_ruler kept.current lines

-- the lines so far have the sections that are kept, and any lines that follow will have theirs behind them
abbrev pub StandsFor : Sections → List (List ℕ) → Type 0
StandsFor kept lines = (rest : List (List ℕ)) → sections_of (lines ++ rest) ≡ sections_with kept (written_lines rest)

-- what is kept behind a line that isn't blank
abbrev pub IsBehind : Sections → List ℕ → Sections → Type 0
IsBehind old line new = (rest : List (List ℕ)) → sections_with old (line ∷ rest) ≡ sections_with new rest
