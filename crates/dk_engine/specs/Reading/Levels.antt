-- What one level of reading is seen as.
use Rattle.std.specs.Prelude.{ℕ, List}
use Rattle.dk_base.specs.declared.kinds.VarInfo.{VarInfo}
use Rattle.dk_base.specs.declared.values.Value.{Value}
use Rattle.dk_template.specs.declared.grammar.Grammar.{Grammar}
use Rattle.dk_engine.specs.declared.kept.Kept.{Kept}

-- the kept parts, and how many ranks of rows are answered for, from the lowest
pub record Level : Type 0 where
  pub grammar : Grammar
  pub infos : List VarInfo
  pub kept : Kept
  pub ranks : ℕ

-- what an engine is seen as
pub record Whole : Type 0 where
  pub grammar : Grammar
  pub infos : List VarInfo
  pub kept : Kept

-- what an engine with one sample more is seen as
pub record OneMore : Type 0 where
  pub whole : Whole
  pub sample : List Value
