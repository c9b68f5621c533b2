use Rattle.std.proofs.Common.{◌≡◌, ◌+◌, arith, List, refl}
use Rattle.std.proofs.lemmas.Result.{err_from_is_err_and}
use Rattle.dk_table.proofs.AllRecords.{few_placed}
use Rattle.dk_table.proofs.Staged.{chunk_own, goes_none, rows_stop, rows_taken}
use Rattle.dk_table.specs.Streams.Pieces.{chunk_rows}
use Rattle.dk_table.specs.Streams.Stages.{IsBehind, rows_behind}
use Rattle.dk_table.specs.Tables.{config_by}
use Rattle.dk_table.specs.Tables.PlacedRows.{Placed}
use Rattle.dk_table.specs.declared.streaming.advancing.Place.{Place}
use Rattle.dk_table.specs.declared.streaming.held.Chunk.{Chunk}
use Rattle.dk_table.proofs.streaming.advancing.take_rows.Goals as goal

pub returns-in_err-chunk : goal.returns-in_err-chunk
returns-in_err-chunk g c =
    let place = c.args.place in
    let own : List Placed = rows_behind c.args.task.now.command.now.separator c.args.file place.count c.args.cut in
    let p = err_from_is_err_and c.from_residual.result c.from_residual.ensures.1 in
    rw (p.1, p.2)
    (goes_none {X = Place} c.args.task.now.command.now c.args.task.now.point.now c.args.task.now.types place.stage own _ _
    (IsBehind c.args.task.now.command.now c.args.task.now.point.now c.args.task.now.types c.args.file place c.args.cut))

pub returns-in_err-taken : goal.returns-in_err-taken
returns-in_err-taken g c =
    let place = c.args.place in
    let separator = c.args.task.now.command.now.separator in
    let chunk : Chunk = c.in_ok-chunk.chunk in
    let is : chunk_rows separator chunk ≡ rows_behind separator c.args.file place.count c.args.cut =
    chunk_own separator c.args.file place.count c.args.cut chunk c.in_ok-chunk.ensures.0 c.in_ok-chunk.ensures.1 c.in_ok-chunk.ensures.2 in
    let p = err_from_is_err_and c.from_residual-in_err-taken.result c.from_residual-in_err-taken.ensures.1 in
    rw (p.1, p.2)
    (rows_stop c.args.task.now.command.now c.args.task.now.point.now c.args.task.now.types place.stage c.args.file place c.args.cut (chunk_rows separator chunk) _ _ _ _ is c.in_err-taken.field-0.0 c.in_err-taken.ensures.goes)

pub overflow_add-result : goal.overflow_add-result
overflow_add-result g c =
    let chunk : Chunk = c.in_ok-chunk.chunk in
    omega (arith, c.in_ok-chunk.ensures.1, c.in_ok-taken.ensures.counted, few_placed (config_by c.args.task.now.command.now.separator) chunk.file (chunk.front + 1) chunk.bytes, chunk.numbered)

pub returns : goal.returns
returns g c =
    let place = c.args.place in
    let separator = c.args.task.now.command.now.separator in
    let chunk : Chunk = c.in_ok-chunk.chunk in
    let taken = c.in_ok-taken.taken in
    let is : chunk_rows separator chunk ≡ rows_behind separator c.args.file place.count c.args.cut =
    chunk_own separator c.args.file place.count c.args.cut chunk c.in_ok-chunk.ensures.0 c.in_ok-chunk.ensures.1 c.in_ok-chunk.ensures.2 in
    let after : Place = record { stage = taken.stage; count = place.count + taken.count; is_paired = c.still_paired-is_paired.result } in
    rows_taken c.args.task.now.command.now c.args.task.now.point.now c.args.task.now.types place.stage c.args.file place c.args.cut (chunk_rows separator chunk) _ _ _ _ is
    taken after refl refl c.in_ok-taken.ensures.counted c.still_paired-is_paired.ensures c.in_ok-taken.ensures.goes
