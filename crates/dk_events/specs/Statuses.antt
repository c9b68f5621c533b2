-- The statuses of programs.
use Rattle.std.specs.Prelude.{ℕ}
use Rattle.dk_events.specs.declared.ended.Ended.{Ended}
use Rattle.dk_events.specs.declared.ended.Ended.TheVariants.{Done, Refused, Usage, Read, Write, NoMemory}

-- the number of a status, as the program ends with it
abbrev pub exit_code : Ended → ℕ
exit_code Done = 0
exit_code Refused = 1
exit_code Usage = 2
exit_code Read = 3
exit_code Write = 4
exit_code NoMemory = 5
