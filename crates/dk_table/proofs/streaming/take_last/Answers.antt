use Rattle.std.proofs.Common.{◌++◌, length, List}
use Rattle.std.proofs.lemmas.Result.{err_from_is_err_and}
use Rattle.dk_table.specs.Tables.PlacedRows.{Placed}
use Rattle.dk_table.specs.Streams.Progress.{all_rows}
use Rattle.dk_table.specs.Streams.{text_rows}
use Rattle.dk_table.specs.declared.streaming.advancing.Place.{Place}
use Rattle.dk_table.proofs.Onward.{goes_ended, none_more, refused_ended, stops_ended}
use Rattle.dk_table.proofs.streaming.take_last.Goals as goal

pub returns-in_err-cut : goal.returns-in_err-cut
returns-in_err-cut g c names held rest contents base start since now h =
    let p = err_from_is_err_and c.from_residual.result c.from_residual.ensures.1 in
    rw (p.1, p.2) (none_more _ _ _ _ _ _ _ _ _ _ _ _ _ _ h)

pub returns-in_err-place : goal.returns-in_err-place
returns-in_err-place g c names held rest contents base start since now h =
    let p = err_from_is_err_and c.from_residual-in_err-place.result c.from_residual-in_err-place.ensures.1 in
    let separator = c.args.task.now.command.now.separator in
    let rows : List Placed = all_rows separator 0 contents ++ text_rows separator (length contents) h.gone in
    let told = c.in_err-place.ensures rows base start h.within.at h.written h.calm in
    rw (p.1, p.2) (stops_ended _ _ _ _ _ _ _ _ _ _ _ _ _ _ h c.requires c.in_ok-cut.cut c.in_ok-cut.ensures Place c.in_err-place.field-0.0 _ _ told.0)

pub returns-in-Ok : goal.returns-in-Ok
returns-in-Ok g c names held rest contents base start since now h =
    let separator = c.args.task.now.command.now.separator in
    let rows : List Placed = all_rows separator 0 contents ++ text_rows separator (length contents) h.gone in
    let told = c.in_ok-place.ensures rows base start h.within.at h.written h.calm in
    goes_ended _ _ _ _ _ _ _ _ _ _ _ _ _ _ h c.requires c.in_ok-cut.cut c.in_ok-cut.ensures c.in_ok-place.place _ _ told.0 told.1 c.in-Ok.ensures

pub returns : goal.returns
returns g c names held rest contents base start since now h =
    let separator = c.args.task.now.command.now.separator in
    let rows : List Placed = all_rows separator 0 contents ++ text_rows separator (length contents) h.gone in
    let told = c.in_ok-place.ensures rows base start h.within.at h.written h.calm in
    refused_ended _ _ _ _ _ _ _ _ _ _ _ _ _ _ h c.requires c.in_ok-cut.cut c.in_ok-cut.ensures c.in_ok-place.place c.in-Err.refusal _ _ told.0 told.1 c.in-Err.ensures
