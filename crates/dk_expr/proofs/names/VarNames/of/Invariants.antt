use Rattle.std.proofs.Common.{◌<◌}
use Rattle.std.specs.Prelude.{Contains}
use Rattle.dk_base.specs.declared.kinds.VarId.{VarId}
use Rattle.dk_filters.specs.Facts.{info_at}
use Rattle.dk_graph.specs.Notes.{noted_under}
use Rattle.dk_expr.proofs.names.VarNames.of.Given as goal

abbrev pub invariant-loop-place : goal.invariant-loop-place
invariant-loop-place l = (v : VarId) → v.0 < l.place → Contains (noted_under l.names (info_at l.vars v).name) v
