use Rattle.std.proofs.Common.{◌++◌, length, List}
use Rattle.std.proofs.lemmas.Result.{err_from_is_err_and}
use Rattle.dk_table.specs.Tables.PlacedRows.{Placed}
use Rattle.dk_table.specs.Streams.Progress.{all_rows}
use Rattle.dk_table.specs.Streams.{text_rows}
use Rattle.dk_table.specs.declared.streaming.advancing.Place.{Place}
use Rattle.dk_table.proofs.Onward.{goes_whole, none_more, stops_whole}
use Rattle.dk_table.proofs.streaming.take_whole.Goals as goal

pub returns-in_err-cut-clause-goes : goal.returns-in_err-cut-clause-goes
returns-in_err-cut-clause-goes g c names held rest contents base start since now h =
    let p = err_from_is_err_and c.from_residual.result c.from_residual.ensures.1 in
    rw (p.1, p.2) (none_more _ _ _ _ _ _ _ _ _ _ _ _ _ _ h)

pub returns-in_err-place-clause-goes : goal.returns-in_err-place-clause-goes
returns-in_err-place-clause-goes g c names held rest contents base start since now h =
    let p = err_from_is_err_and c.from_residual-in_err-place.result c.from_residual-in_err-place.ensures.1 in
    let separator = c.args.task.now.command.now.separator in
    let rows : List Placed = all_rows separator 0 contents ++ text_rows separator (length contents) h.gone in
    let told = c.in_err-place.ensures rows base start h.within.at h.written h.calm in
    rw (p.1, p.2) (stops_whole _ _ _ _ _ _ _ _ _ _ _ _ _ _ h c.in_ok-cut.cut c.in_ok-cut.ensures Place c.in_err-place.field-0.0 _ _ told.0)

pub returns-clause-goes : goal.returns-clause-goes
returns-clause-goes g c names held rest contents base start since now h =
    let separator = c.args.task.now.command.now.separator in
    let rows : List Placed = all_rows separator 0 contents ++ text_rows separator (length contents) h.gone in
    let told = c.in_ok-place.ensures rows base start h.within.at h.written h.calm in
    goes_whole _ _ _ _ _ _ _ _ _ _ _ _ _ _ h c.in_ok-cut.cut c.in_ok-cut.ensures c.in_ok-place.place _ _ told.0 told.1
