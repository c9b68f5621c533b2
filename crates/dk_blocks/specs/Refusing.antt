-- What a record comes to that is refused.
use Rattle.std.specs.Prelude.{Bool, true, false, Option, Some, Result, Ok, Err}
use Rattle.dk_base.specs.declared.faults.BlockFault.{BlockFault}
use Rattle.dk_base.specs.declared.faults.BlockFault.TheVariants.{Refused, NoMemory}
use Rattle.dk_blocks.specs.declared.found.Found.{Found}
use Rattle.dk_blocks.specs.declared.found.Found.TheVariants.{Nothing}

-- Where exits without an entry are left out, such a record's block counts and adds nothing, and else it is refused.
abbrev pub unmatched_answer : Bool → BlockFault → Result (Option Found) BlockFault
unmatched_answer true (Refused line why) = Ok (Some Nothing)
unmatched_answer false (Refused line why) = Err (Refused line why)
unmatched_answer ignores NoMemory = Err NoMemory
