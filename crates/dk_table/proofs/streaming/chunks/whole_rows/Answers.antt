use Rattle.std.proofs.Common.{sym, ◌∙◌}
use Rattle.dk_table.proofs.Chunked.{lines_whole}
use Rattle.dk_table.proofs.streaming.chunks.whole_rows.Goals as goal

pub returns-then-not-ends_line : goal.returns-then-not-ends_line
returns-then-not-ends_line c =
    lines_whole c.args.separator (sym c.ends_line.ensures ∙ c.if-not-ends_line.true) c.args.bytes.now (c.is_unquoted.ensures c.if-is_unquoted.true) c.behind_lines.result
    c.behind_lines.ensures
