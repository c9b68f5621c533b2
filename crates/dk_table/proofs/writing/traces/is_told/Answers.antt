use Rattle.std.proofs.Common.{◌≡◌, ◌<◌, ◌∙◌, arith, false, get_or, is_some, length, List, ℕ, sym, true}
use Rattle.std.proofs.lemmas.List.{get_or_default}
use Rattle.dk_table.proofs.Getting.{cell_read}
use Rattle.dk_table.proofs.Pairs.{zip_ends, zip_goes}
use Rattle.dk_table.specs.Columns.{cell_value}
use Rattle.dk_table.specs.declared.columns.ColumnKind.{ColumnKind}
use Rattle.dk_table.specs.declared.columns.ColumnKind.TheVariants as kind
use Rattle.dk_table.proofs.writing.traces.is_told.Goals as goal

pub returns-then-not-branch : goal.returns-then-not-branch
returns-then-not-branch c =
    let kinds = c.args.kinds.now in
    let cells = c.args.rows.now.row.cells in
    let i = c.loop-i.i in
    let lt : i < length kinds = omega arith in
    let more : i < length cells = omega arith in
    let k : ColumnKind = get_or kinds i kind.Whole in
    let is : is_some (cell_value k c.cell.result.now) ≡ false = sym c.in_ok-writes.ensures ∙ c.if-not-branch.true in
    zip_goes (λ (e : ColumnKind × List ℕ). is_some (cell_value e.0 e.1)) kinds cells i k c.cell.result.now false lt more (get_or_default kinds i kind.Whole k lt)
    (cell_read c.args.rows.now.row i c.cell.result.now more c.cell.ensures) is c.loop-i.invariant

pub loop-i-preserved : goal.loop-i-preserved
loop-i-preserved c =
    let kinds = c.args.kinds.now in
    let cells = c.args.rows.now.row.cells in
    let i = c.loop-i.i in
    let lt : i < length kinds = omega arith in
    let more : i < length cells = omega arith in
    let k : ColumnKind = get_or kinds i kind.Whole in
    let is : is_some (cell_value k c.cell.result.now) ≡ true = sym c.in_ok-writes.ensures ∙ c.if-not-branch.false in
    zip_goes (λ (e : ColumnKind × List ℕ). is_some (cell_value e.0 e.1)) kinds cells i k c.cell.result.now true lt more (get_or_default kinds i kind.Whole k lt)
    (cell_read c.args.rows.now.row i c.cell.result.now more c.cell.ensures) is c.loop-i.invariant

pub returns : goal.returns
returns c = zip_ends (λ (e : ColumnKind × List ℕ). is_some (cell_value e.0 e.1)) c.args.kinds.now c.args.rows.now.row.cells c.loop-i.i (omega arith) c.loop-i.invariant
