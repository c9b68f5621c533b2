use Rattle.std.proofs.Common.{◌≡◌, ◌++◌, drop, length}
use Rattle.dk_driver.specs.Files.{file_name_at}
use Rattle.dk_verdicts.specs.Reports.{verdict_lines}
use Rattle.dk_check.proofs.reporting.lines.Given as goal

abbrev pub invariant-loop-claim : goal.invariant-loop-claim
invariant-loop-claim l = verdict_lines (file_name_at l.names) l.claims l.verdicts
    ≡ l.text ++ verdict_lines (file_name_at l.names) (drop (length l.yielded) l.claims) (drop (length l.yielded) l.verdicts)
