-- The fault of a merge that a fault of a join is.
use Rattle.std.specs.Prelude.{◌≡◌}
use Rattle.dk_join.specs.declared.joining.JoinFault.{JoinFault}
use Rattle.dk_join.specs.declared.joining.JoinFault.TheVariants as join
use Rattle.dk_merging.specs.declared.merging.MergeFault.{MergeFault}
use Rattle.dk_merging.specs.declared.merging.MergeFault.TheVariants as merge

abbrev pub IsJoinFault : JoinFault → MergeFault → Type 0
IsJoinFault join.Joined fault = fault ≡ merge.Joined
IsJoinFault join.NoMemory fault = fault ≡ merge.NoMemory
