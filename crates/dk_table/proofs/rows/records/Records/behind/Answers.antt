use Rattle.std.proofs.Common.{◌+◌, ◌∙◌, ap, arith, length, List, ℕ}
use Rattle.csv.specs.Reading.{records}
use Rattle.dk_table.specs.Tables.{config_by, placed_from}
use Rattle.dk_table.proofs.AllRecords.{placed_length}
use Rattle.dk_table.proofs.Chunked.{line_records}
use Rattle.dk_table.proofs.Moving.{all_few}
use Rattle.dk_table.proofs.rows.records.Records.behind.Goals as goal

pub begun-requires : goal.begun-requires
begun-requires c =
    let bytes : List ℕ = c.args.bytes.now in
    omega (arith, ap length (line_records c.args.separator bytes), all_few (config_by c.args.separator) bytes, c.requires)

pub returns-clause-left : goal.returns-clause-left
returns-clause-left c = c.begun.ensures ∙ ap (placed_from c.args.file (c.args.front + 1)) (line_records c.args.separator c.args.bytes.now)

pub returns-clause-few : goal.returns-clause-few
returns-clause-few c =
    let bytes : List ℕ = c.args.bytes.now in
    let same = c.begun.ensures ∙ ap (placed_from c.args.file (c.args.front + 1)) (line_records c.args.separator bytes) in
    omega (arith, ap length same, placed_length c.args.file (c.args.front + 1) (records (config_by c.args.separator) bytes), all_few (config_by c.args.separator) bytes, c.requires)
