use Rattle.std.proofs.Common.{◌≤◌, ◌-◌, length, map}
use Rattle.dk_table.specs.Tables.Marks.{AreAhead}
use Rattle.dk_table.proofs.Cutting.{Cuts}
use Rattle.dk_table.proofs.rows.lines.cut_cells.Given as goal

abbrev pub invariant-cells : goal.invariant-cells
invariant-cells l = record {
  ahead : AreAhead l.separator l.bytes l.ahead;
  later : l.fn.marks.place ≤ l.ahead.place;
  cut : Cuts l.separator l.bytes l.fn.marks.place (map (λ c. c.now) l.cells.items) l.ahead.place l.ahead.place;
}

abbrev pub decreases-cells : goal.decreases-cells
decreases-cells l = length l.bytes - l.ahead.place
