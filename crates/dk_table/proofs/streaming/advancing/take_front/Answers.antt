use Rattle.std.proofs.Common.{◌≡◌, ◌∙◌, ◌++◌, ap, false, List, refl, sym, true, ℕ}
use Rattle.std.proofs.lemmas.Result.{err_from_is_err_and}
use Rattle.dk_table.proofs.Staged.{held_more, ready_none, take_begun, take_fault, take_still, take_stop}
use Rattle.dk_table.specs.Columns.Judging.{Judged}
use Rattle.dk_table.specs.Streams.Pieces.{chunk_rows, held_rows}
use Rattle.dk_table.specs.Streams.Stages.{is_done}
use Rattle.dk_table.specs.Tables.PlacedRows.{Placed}
use Rattle.dk_table.specs.declared.streaming.advancing.Taken.{Taken}
use Rattle.dk_table.specs.declared.streaming.stages.Body.{Body}
use Rattle.dk_table.specs.declared.streaming.stages.Front.{Front}
use Rattle.dk_table.specs.declared.streaming.stages.Stage.TheVariants as stage
use Rattle.dk_table.proofs.streaming.advancing.take_front.Goals as goal

pub returns-in_err-count-clause-goes : goal.returns-in_err-count-clause-goes
returns-in_err-count-clause-goes g c = λ rows at.
    let own : List Placed = chunk_rows c.args.task.now.command.now.separator c.args.chunk in
    let p = err_from_is_err_and c.from_residual.result c.from_residual.ensures.1 in
    rw (p.1, p.2)
    (take_fault c.args.task.now.command.now c.args.task.now.point.now c.args.task.now.types c.args.front rows own at {B = ℕ} Taken (λ (n : ℕ). c.judge_chunk.new.judge) c.in_err-count.field-0.0 c.as_slice.result.now _ _ c.as_slice.ensures c.in_err-count.ensures.judged, tt)

pub returns-in_err-push-clause-goes : goal.returns-in_err-push-clause-goes
returns-in_err-push-clause-goes g c = λ rows at.
    let own : List Placed = chunk_rows c.args.task.now.command.now.separator c.args.chunk in
    let p = err_from_is_err_and c.from_residual-in_err-push.result c.from_residual-in_err-push.ensures.1 in
    rw (p.1, p.2) (ready_none c.args.task.now.command.now c.args.task.now.point.now c.args.task.now.types c.args.front rows own at Taken _ _, tt)

pub returns-then-not-is_done-clause-goes : goal.returns-then-not-is_done-clause-goes
returns-then-not-is_done-clause-goes g c = λ rows at.
    let separator = c.args.task.now.command.now.separator in
    let own : List Placed = chunk_rows separator c.args.chunk in
    let judge : Judged = c.judge_chunk.new.judge in
    let next : Front = record { names = c.args.front.names; judge = judge; held = c.push.new.self } in
    let held : held_rows separator c.push.new.self ≡ rows ++ own =
    ap (held_rows separator) c.in_ok-push.ensures.ok ∙ held_more separator c.args.front.held c.args.chunk rows at.held in
    let going : is_done judge ≡ false = sym c.is_done.ensures ∙ c.if-not-is_done.true in
    take_still c.args.task.now.command.now c.args.task.now.point.now c.args.task.now.types c.args.front rows own at judge c.as_slice.result.now c.as_slice.ensures c.in_ok-count.ensures.judged
    next refl refl held going _ _ (record { stage = stage.Front next; count = c.in_ok-count.count }) refl

pub returns-in_err-body-clause-goes : goal.returns-in_err-body-clause-goes
returns-in_err-body-clause-goes g c = λ rows at.
    let separator = c.args.task.now.command.now.separator in
    let own : List Placed = chunk_rows separator c.args.chunk in
    let judge : Judged = c.judge_chunk.new.judge in
    let next : Front = record { names = c.args.front.names; judge = judge; held = c.push.new.self } in
    let held : held_rows separator c.push.new.self ≡ rows ++ own =
    ap (held_rows separator) c.in_ok-push.ensures.ok ∙ held_more separator c.args.front.held c.args.chunk rows at.held in
    let done : is_done judge ≡ true = sym c.is_done.ensures ∙ c.if-not-is_done.false in
    let p = err_from_is_err_and c.from_residual-in_err-body.result c.from_residual-in_err-body.ensures.1 in
    rw (p.1, p.2) (
      take_stop c.args.task.now.command.now c.args.task.now.point.now c.args.task.now.types c.args.front rows own at judge c.as_slice.result.now c.as_slice.ensures c.in_ok-count.ensures.judged
          next refl refl held done Body Taken c.in_err-body.field-0.0 _ _ _ _ c.in_err-body.ensures.written,
      tt,
    )

pub returns-clause-goes : goal.returns-clause-goes
returns-clause-goes g c = λ rows at.
    let separator = c.args.task.now.command.now.separator in
    let own : List Placed = chunk_rows separator c.args.chunk in
    let judge : Judged = c.judge_chunk.new.judge in
    let next : Front = record { names = c.args.front.names; judge = judge; held = c.push.new.self } in
    let held : held_rows separator c.push.new.self ≡ rows ++ own =
    ap (held_rows separator) c.in_ok-push.ensures.ok ∙ held_more separator c.args.front.held c.args.chunk rows at.held in
    let done : is_done judge ≡ true = sym c.is_done.ensures ∙ c.if-not-is_done.false in
    take_begun c.args.task.now.command.now c.args.task.now.point.now c.args.task.now.types c.args.front rows own at judge c.as_slice.result.now c.as_slice.ensures c.in_ok-count.ensures.judged
    next refl refl held done c.in_ok-body.body _ _ _ _ (record { stage = stage.Body c.in_ok-body.body; count = c.in_ok-count.count }) c.in_ok-body.ensures.begun refl c.in_ok-body.ensures.written
