-- The engines of a table that has grown.
use Rattle.std.specs.Prelude.{◌≡◌, ◌≤◌, ◌++◌, ℕ, List, [], Some, length, slice_get}
use Rattle.dk_engine.specs.Exact.{AreOfPoint, IsKeptOf}
use Rattle.dk_engine.specs.Reading.Levels.{Whole}
use Rattle.dk_hierarchy.specs.Samples.{all_vars_of}
use Rattle.dk_points.specs.Table.{Point}
use Rattle.dk_template.specs.declared.grammar.Grammar.{Grammar}

-- the engine of no samples of the point at a place
pub record IsNewAt (ps : List Point) (grammar : Grammar) (p : ℕ) (engine : Whole) : Type 0 where
  pub infos : engine.infos ≡ all_vars_of ps p
  pub point : AreOfPoint engine.infos
  pub by_grammar : engine.grammar ≡ grammar
  pub stands : IsKeptOf grammar engine.infos [] engine.kept

-- the engines of all points of the table, these first, and behind them those of no samples
pub record AreGrown (ps : List Point) (grammar : Grammar) (engines all : List Whole) : Type 0 where
  pub long : length all ≡ length ps
  pub more : List Whole
  pub split : all ≡ engines ++ more
  pub new : (i : ℕ) (engine : Whole) → length engines ≤ i → slice_get all i ≡ Some engine → IsNewAt ps grammar i engine
