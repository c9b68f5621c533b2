-- What is kept from block to block, as contracts see it, and what always holds of it.
use Rattle.std.specs.Prelude.{◌≡◌, ℕ, All, List, map}
use Rattle.dk_engine.specs.Reading.Levels.{Whole}
use Rattle.dk_hierarchy.specs.Standing.{AreEnginesOf}
use Rattle.dk_state.specs.Saved.{saved_text}
use Rattle.dk_template.specs.declared.grammar.Grammar.{Grammar}
use Rattle.dk_blocks.specs.Standing.{implicit_of as implicit_in, points_of as points_in}
use Rattle.dk_blocks.specs.declared.reader.Reader.{Reader}

pub record Keeping : Type 0 where
  pub reader : Reader
  pub grammar : Grammar
  pub engines : List Whole

-- The engines are those of the points, by one grammar.
pub record IsSound (kept : Keeping) : Type 0 where
  pub engines : AreEnginesOf (points_in kept.reader) kept.engines
  pub grammar : All (λ (engine : Whole). engine.grammar ≡ kept.grammar) kept.engines

-- what is saved of it: the table, the comparability word, and what each engine keeps
abbrev pub saved_by : Keeping → List ℕ
saved_by k = saved_text k.grammar (points_in k.reader) (implicit_in k.reader) (map (λ (e : Whole). e.kept) k.engines)
