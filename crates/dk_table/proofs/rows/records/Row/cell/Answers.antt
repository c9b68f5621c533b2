use Rattle.std.proofs.Common.{ap}
use Rattle.csv.specs.Records.{fields_of}
use Rattle.dk_table.specs.Tables.PlacedRows.{Placed}
use Rattle.dk_table.proofs.Getting.{cell_got}
use Rattle.dk_table.proofs.rows.records.Row.cell.Goals as goal

pub returns-in-Some : goal.returns-in-Some
returns-in-Some c =
    cell_got c.args.self.now (fields_of c.self.inside.cells) c.args.place _ (ap (λ (r : Placed). r.cells) c.self.view_is) c.in-Some.ensures.value

pub returns-in-None : goal.returns-in-None
returns-in-None c =
    cell_got c.args.self.now (fields_of c.self.inside.cells) c.args.place _ (ap (λ (r : Placed). r.cells) c.self.view_is) c.in-None.ensures.value
