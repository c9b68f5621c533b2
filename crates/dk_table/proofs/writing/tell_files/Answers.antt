use Rattle.std.proofs.Common.{◌≡◌, ◌<◌, ◌+◌, ◌++◌, ◌∙◌, [], ap, arith, drop, length, List, sym}
use Rattle.std.proofs.lemmas.Result.{err_from_is_err_and}
use Rattle.dk_table.proofs.Files.{bodies_more}
use Rattle.dk_table.proofs.Fitting.{fit_parts}
use Rattle.dk_table.proofs.Formed.{rows_apart}
use Rattle.dk_table.proofs.Pieces.{cut_here, cut_then, told_as, told_then}
use Rattle.dk_table.specs.Tables.{bodies_in}
use Rattle.dk_table.specs.Tables.PlacedRows.{Placed}
use Rattle.dk_table.specs.Writing.Forms.{rows_text}
use Rattle.dk_table.proofs.writing.tell_files.Goals as goal

pub returns-in_err-rows : goal.returns-in_err-rows
returns-in_err-rows g c =
    let p = err_from_is_err_and c.from_residual.result c.from_residual.ensures.1 in
    rw (p.1, p.2) (cut_here _ _ _ _ _ _ c.loop-file.invariant.told)

pub returns-in_err-tell_rows : goal.returns-in_err-tell_rows
returns-in_err-tell_rows g c =
    let command = c.args.command.now in
    let files = c.args.files.now in
    let form = c.args.form.now in
    let i = c.loop-file.file in
    let text = c.loop-file.gathered.text.items in
    let own : List Placed = c.in_ok-rows.rows.left in
    let rest : List Placed = bodies_in command (i + 1) (drop (i + 1) files) in
    let lt : i < length files = omega arith in
    let is : bodies_in command i (drop i files) ≡ own ++ rest =
    bodies_more command [] files i c.index-files-file.result lt c.index-files-file.is
    ∙ ap (λ (l : List Placed). l ++ rest) (sym c.in_ok-rows.ensures) in
    let p = err_from_is_err_and c.from_residual-in_err-tell_rows.result c.from_residual-in_err-tell_rows.ensures.1 in
    rw (p.1, p.2)
    (cut_then _ (text ++ rows_text form own) (rows_text form rest) _ _ _ _ _ _ (told_as _ _ _ _ _ _ _ (rows_apart form text (bodies_in command i (drop i files)) own rest is) c.loop-file.invariant.told)
    c.in_err-tell_rows.field-0.0 c.in_err-tell_rows.ensures)

pub tell_rows-requires : goal.tell_rows-requires
tell_rows-requires g c =
    let command = c.args.command.now in
    let files = c.args.files.now in
    let form = c.args.form.now in
    let i = c.loop-file.file in
    let own : List Placed = c.in_ok-rows.rows.left in
    let rest : List Placed = bodies_in command (i + 1) (drop (i + 1) files) in
    let lt : i < length files = omega arith in
    let is : bodies_in command i (drop i files) ≡ own ++ rest =
    bodies_more command [] files i c.index-files-file.result lt c.index-files-file.is
    ∙ ap (λ (l : List Placed). l ++ rest) (sym c.in_ok-rows.ensures) in
    record { formed = c.requires.formed; fit = (fit_parts form (bodies_in command i (drop i files)) own rest is c.loop-file.invariant.fit).own_fit }

pub loop-file-preserved : goal.loop-file-preserved
loop-file-preserved g c =
    let command = c.args.command.now in
    let files = c.args.files.now in
    let form = c.args.form.now in
    let i = c.loop-file.file in
    let text = c.loop-file.gathered.text.items in
    let own : List Placed = c.in_ok-rows.rows.left in
    let rest : List Placed = bodies_in command (i + 1) (drop (i + 1) files) in
    let lt : i < length files = omega arith in
    let is : bodies_in command i (drop i files) ≡ own ++ rest =
    bodies_more command [] files i c.index-files-file.result lt c.index-files-file.is
    ∙ ap (λ (l : List Placed). l ++ rest) (sym c.in_ok-rows.ensures) in
    record {
      told =
          told_then _ (text ++ rows_text form own) (rows_text form rest) _ _ _ _ _ _
          (told_as _ _ _ _ _ _ _ (rows_apart form text (bodies_in command i (drop i files)) own rest is) c.loop-file.invariant.told) _ c.in_ok-tell_rows.ensures;
      fit = (fit_parts form (bodies_in command i (drop i files)) own rest is c.loop-file.invariant.fit).rest_fit;
    }
