-- What is kept of the names of sections.
use Rattle.std.specs.Prelude.{◌≡◌, ◌++◌, ◌∷◌, ℕ, List, [], length}
use Rattle.dk_graph.specs.Notes.{noted_under}
use Rattle.dk_page.specs.Ids.{id_after, times}

-- under each name as many are noted as these names have of it
abbrev pub StandsFor : List (List ℕ × List ℕ) → List (List ℕ) → Type 0
StandsFor kept names = (name : List ℕ) → length (noted_under kept name) ≡ times name names

-- The id of a section of this name behind those of the names so far, and its name with them.
pub record IsNext (old : List (List ℕ × List ℕ)) (names : List (List ℕ)) (name id : List ℕ) (new : List (List ℕ × List ℕ)) : Type 0 where
  pub id_is : id ≡ id_after names name
  pub kept : StandsFor new (names ++ name ∷ [])
