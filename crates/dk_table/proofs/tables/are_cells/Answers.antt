use Rattle.std.proofs.Common.{◌≡◌, ◌<◌, ◌∙◌, ap, arith, false, length, List, ℕ, sym, true}
use Rattle.std.specs.Str.{bytes_eq}
use Rattle.dk_table.proofs.Getting.{cell_read}
use Rattle.dk_table.proofs.Pairs.{same_by, zip_ends, zip_goes}
use Rattle.dk_table.proofs.tables.are_cells.Goals as goal

pub returns-then-not-same_bytes : goal.returns-then-not-same_bytes
returns-then-not-same_bytes c =
    let names = c.args.names.now in
    let cells = c.args.rows.now.row.cells in
    let i = c.loop-i.i in
    let lt : i < length names = omega arith in
    let more : i < length cells = omega arith in
    let same : length names ≡ length cells = omega arith in
    let is : bytes_eq c.index-names-i.result c.cell.result.now ≡ false =
    ap (λ (l : List ℕ). bytes_eq l c.cell.result.now) (sym c.as_slice.ensures) ∙ sym c.same_bytes.ensures ∙ c.if-not-same_bytes.true in
    same_by names cells false same
    (zip_goes (λ (e : List ℕ × List ℕ). bytes_eq e.0 e.1) names cells i c.index-names-i.result c.cell.result.now false lt more c.index-names-i.is
    (cell_read c.args.rows.now.row i c.cell.result.now more c.cell.ensures) is c.loop-i.invariant)

pub loop-i-preserved : goal.loop-i-preserved
loop-i-preserved c =
    let names = c.args.names.now in
    let cells = c.args.rows.now.row.cells in
    let i = c.loop-i.i in
    let lt : i < length names = omega arith in
    let more : i < length cells = omega arith in
    let is : bytes_eq c.index-names-i.result c.cell.result.now ≡ true =
    ap (λ (l : List ℕ). bytes_eq l c.cell.result.now) (sym c.as_slice.ensures) ∙ sym c.same_bytes.ensures ∙ c.if-not-same_bytes.false in
    zip_goes (λ (e : List ℕ × List ℕ). bytes_eq e.0 e.1) names cells i c.index-names-i.result c.cell.result.now true lt more c.index-names-i.is
    (cell_read c.args.rows.now.row i c.cell.result.now more c.cell.ensures) is c.loop-i.invariant

pub returns : goal.returns
returns c =
    let names = c.args.names.now in
    let cells = c.args.rows.now.row.cells in
    let same : length names ≡ length cells = omega arith in
    same_by names cells true same (zip_ends (λ (e : List ℕ × List ℕ). bytes_eq e.0 e.1) names cells c.loop-i.i (omega arith) c.loop-i.invariant)
