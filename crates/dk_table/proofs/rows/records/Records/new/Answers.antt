use Rattle.std.proofs.Common.{◌<◌, ap, arith, length, rules}
use Rattle.csv.specs.Reading.{records, strip_bom}
use Rattle.dk_table.specs.Tables.{config_by}
use Rattle.dk_table.proofs.AllRecords.{placed_length}
use Rattle.dk_table.proofs.Moving.{few_rows}
use Rattle.dk_table.proofs.rows.records.Records.new.Goals as goal

pub begun-requires : goal.begun-requires
begun-requires c =
    let size : length c.args.bytes.now < 18446744073709551616 = search rules in
    omega (arith, few_rows (config_by c.args.separator) c.args.bytes.now, size)

pub returns-clause-few : goal.returns-clause-few
returns-clause-few c =
    let size : length c.args.bytes.now < 18446744073709551616 = search rules in
    let cfg = config_by c.args.separator in
    omega (arith, ap length c.begun.ensures, placed_length c.args.file 1 (records cfg (strip_bom c.args.bytes.now)), few_rows cfg c.args.bytes.now, size)
