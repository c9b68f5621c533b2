use Rattle.std.proofs.Common.{◌≡◌}
use Rattle.dk_table.specs.Tables.{made_names}
use Rattle.dk_table.proofs.tables.made_names.Given as goal

abbrev pub invariant-loop-place : goal.invariant-loop-place
invariant-loop-place l = l.names ≡ made_names l.place
