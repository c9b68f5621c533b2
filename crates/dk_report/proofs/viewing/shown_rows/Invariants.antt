use Rattle.std.specs.Prelude.{◌≡◌, [], ◌∷◌, map, take}
use Rattle.dk_instances.specs.Instances.{rows_of}
use Rattle.dk_report.specs.Viewing.{shown_row}
use Rattle.dk_report.proofs.viewing.shown_rows.Given as goal

abbrev pub invariant-loop-n : goal.invariant-loop-n
invariant-loop-n l = l.rows.items ≡ [] ∷ map (shown_row l.engine.kept l.led) (take l.n (rows_of l.fn.grammar))
