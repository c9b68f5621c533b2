use Rattle.std.proofs.Common.{◌<◌, ◌∙◌, ap, arith, length, rules, subst, sym}
use Rattle.csv.specs.Reading.{strip_bom}
use Rattle.dk_table.specs.Tables.Cutting.{IsUnquoted}
use Rattle.dk_table.specs.Tables.{config_by}
use Rattle.dk_table.proofs.AllRecords.{few_placed}
use Rattle.dk_table.proofs.Cutting.{unquoted_behind}
use Rattle.dk_table.proofs.Moving.{strip_short}
use Rattle.dk_table.proofs.rows.Rows.new.Goals as goal

pub new-lines-requires-clause-unquoted : goal.new-lines-requires-clause-unquoted
new-lines-requires-clause-unquoted c =
    subst IsUnquoted (sym (c.behind_mark.ensures ∙ ap strip_bom c.as_slice-marked.ensures)) (unquoted_behind c.args.bytes.now (c.is_unquoted.ensures c.if-is_unquoted.true))

pub new-lines-requires-clause-numbered : goal.new-lines-requires-clause-numbered
new-lines-requires-clause-numbered c =
    let size : length c.args.bytes.now < 18446744073709551616 = search rules in
    omega (arith, ap length c.behind_mark.ensures, ap length c.as_slice-marked.ensures, strip_short c.as_slice-marked.result.now, size)

pub returns-then-is_unquoted-clause-few : goal.returns-then-is_unquoted-clause-few
returns-then-is_unquoted-clause-few c =
    let size : length c.args.bytes.now < 18446744073709551616 = search rules in
    let few = few_placed (config_by c.args.separator) c.args.file 1 c.behind_mark.result.now in
    omega (arith, ap length c.new-lines.ensures.left, few, ap length c.behind_mark.ensures, ap length c.as_slice-marked.ensures, strip_short c.as_slice-marked.result.now, size)
