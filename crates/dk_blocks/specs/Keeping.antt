-- What a reader keeps from block to block, as contracts see it, and what always holds of it.
use Rattle.std.specs.Prelude.{List}
use Rattle.dk_calls.specs.declared.calls.Calls.{Calls}
use Rattle.dk_decl.specs.declared.header.Header.{Header}
use Rattle.dk_points.specs.Table.{Point}
use Rattle.dk_blocks.specs.Fitting.{ConstantsFit, WaitingFit}

pub record Keeping : Type 0 where
  pub points : List Point
  pub header : Header
  pub calls : Calls

-- What is declared and what waits is as values of its variables are, so whatever record comes, its values are values of its point's
-- variables.
pub record IsSound (kept : Keeping) : Type 0 where
  pub constants : ConstantsFit kept.points
  pub calls : WaitingFit kept.points kept.calls
