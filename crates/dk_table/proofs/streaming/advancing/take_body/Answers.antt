use Rattle.std.proofs.Common.{List, Ok, Err, ℕ}
use Rattle.std.proofs.lemmas.Result.{err_from_is_err_and}
use Rattle.dk_table.proofs.Opened.{stop_recast}
use Rattle.dk_table.proofs.Staged.{body_goes, body_stays}
use Rattle.dk_table.specs.Streams.Pieces.{chunk_rows}
use Rattle.dk_table.specs.Tables.PlacedRows.{Placed}
use Rattle.dk_table.specs.declared.streaming.advancing.Taken.{Taken}
use Rattle.dk_table.proofs.streaming.advancing.take_body.Goals as goal

pub returns-in_err-count-clause-goes : goal.returns-in_err-count-clause-goes
returns-in_err-count-clause-goes g c =
    let own : List Placed = chunk_rows c.args.task.now.command.now.separator c.args.chunk.now in
    let p = err_from_is_err_and c.from_residual.result c.from_residual.ensures.1 in
    rw (p.1, p.2)
    (λ rows base start at is calm. (
      stop_recast ℕ Taken c.in_err-count.field-0.0 _ _ _ _ _ _
          (body_goes c.args.task.now.command.now c.args.task.now.point.now c.args.task.now.types c.args.body rows own at {X = ℕ} (Err c.in_err-count.field-0.0) base _ _ start _ _ is calm c.in_err-count.ensures.told),
      tt,
    ))

pub returns-clause-goes : goal.returns-clause-goes
returns-clause-goes g c = λ rows base start at is calm.
    let own : List Placed = chunk_rows c.args.task.now.command.now.separator c.args.chunk.now in (
      body_goes c.args.task.now.command.now c.args.task.now.point.now c.args.task.now.types c.args.body rows own at {X = ℕ} (Ok c.in_ok-count.count) base _ _ start _ _ is calm c.in_ok-count.ensures.told,
      body_stays c.args.task.now.command.now c.args.task.now.point.now c.args.task.now.types c.args.body rows own at c.in_ok-count.ensures.told.0,
    )
