use Rattle.std.proofs.Common.{◌≡◌, ◌++◌, true}
use Rattle.std.proofs.lemmas.Result.{err_from_is_err_and}
use Rattle.dk_table.proofs.Fitting.{fits_now}
use Rattle.dk_table.proofs.Formed.{row_apart}
use Rattle.dk_table.proofs.Pieces.{cut_here, cut_then, told_as, told_then}
use Rattle.dk_table.specs.Tables.Cursors.{Moves}
use Rattle.dk_table.specs.Writing.Forms.{row_text, rows_text}
use Rattle.dk_table.proofs.writing.tell_rows.Goals as goal

pub returns-in_err-next : goal.returns-in_err-next
returns-in_err-next g c =
    let p = err_from_is_err_and c.from_residual.result c.from_residual.ensures.1 in
    rw (p.1, p.2) (cut_here _ _ _ _ _ _ c.rows.invariant.told)

pub tell_row-requires : goal.tell_row-requires
tell_row-requires g c =
    let m : Moves c.rows.rows.left c.next.new.self true = rw c.if-branch.true at c.in_ok-next.ensures in
    record { formed = c.requires.formed; fits = (fits_now c.args.form.now c.rows.rows.left c.next.new.self c.rows.invariant.fit m).row }

pub rows-preserved : goal.rows-preserved
rows-preserved g c =
    let form = c.args.form.now in
    let text = c.rows.gathered.text.items in
    let after = c.next.new.self in
    let m : Moves c.rows.rows.left after true = rw c.if-branch.true at c.in_ok-next.ensures in
    let apart : text ++ rows_text form c.rows.rows.left ≡ (text ++ row_text form after.row) ++ rows_text form after.left =
    row_apart form text c.rows.rows.left after m in
    record {
      told = told_then _ (text ++ row_text form after.row) (rows_text form after.left) _ _ _ _ _ _ (told_as _ _ _ _ _ _ _ apart c.rows.invariant.told) _ c.in_ok-tell_row.ensures;
      fit = (fits_now form c.rows.rows.left after c.rows.invariant.fit m).left;
    }

pub returns-in_err-tell_row : goal.returns-in_err-tell_row
returns-in_err-tell_row g c =
    let form = c.args.form.now in
    let text = c.rows.gathered.text.items in
    let after = c.next.new.self in
    let m : Moves c.rows.rows.left after true = rw c.if-branch.true at c.in_ok-next.ensures in
    let apart : text ++ rows_text form c.rows.rows.left ≡ (text ++ row_text form after.row) ++ rows_text form after.left =
    row_apart form text c.rows.rows.left after m in
    let p = err_from_is_err_and c.from_residual-in_err-tell_row.result c.from_residual-in_err-tell_row.ensures.1 in
    rw (p.1, p.2)
    (cut_then _ (text ++ row_text form after.row) (rows_text form after.left) _ _ _ _ _ _ (told_as _ _ _ _ _ _ _ apart c.rows.invariant.told) c.in_err-tell_row.field-0.0 c.in_err-tell_row.ensures)
