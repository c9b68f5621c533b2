use Rattle.std.specs.Prelude.{◌≡◌}
use Rattle.dk_report.specs.Viewing.{told_rows}
use Rattle.dk_report.proofs.viewing.told_rows.Given as goal

abbrev pub invariant-loop : goal.invariant-loop
invariant-loop l = l.rows.items ≡ told_rows l.counter l.grammar l.engine.kept l.led
