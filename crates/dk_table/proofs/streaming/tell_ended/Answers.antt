use Rattle.std.proofs.Common.{Ok, Err, subst}
use Rattle.std.proofs.lemmas.Result.{err_from_is_err_and}
use Rattle.dk_table.specs.Streams.Stages.{IsAt, IsBody, IsFront}
use Rattle.dk_table.specs.declared.streaming.stages.Body.{Body}
use Rattle.dk_table.specs.declared.streaming.stages.Stage.{Stage}
use Rattle.dk_table.specs.declared.streaming.stages.Stage.TheVariants as stages
use Rattle.dk_table.proofs.Closing.{body_ends, held_end, none_came}
use Rattle.dk_table.proofs.Opened.{stop_recast}
use Rattle.dk_table.proofs.streaming.tell_ended.Goals as goal

pub returns-in-Start : goal.returns-in-Start
returns-in-Start g c rows base start at so_far calm =
    let here : IsAt c.args.task.now.command.now c.args.task.now.point.now c.args.task.now.types stages.Start rows =
    subst (λ (s : Stage). IsAt c.args.task.now.command.now c.args.task.now.point.now c.args.task.now.types s rows) c.in-Start.is at in
    none_came c.args.task.now.command.now c.args.task.now.point.now c.args.task.now.types rows base _ start _ here.0 here.1 so_far calm

pub returns-in_err-_body-in-Front : goal.returns-in_err-_body-in-Front
returns-in_err-_body-in-Front g c rows base start at so_far calm =
    let here : IsFront c.args.task.now.command.now c.args.task.now.types c.in-Front.front rows =
    subst (λ (s : Stage). IsAt c.args.task.now.command.now c.args.task.now.point.now c.args.task.now.types s rows) c.in-Front.is at in
    let p = err_from_is_err_and c.from_residual.result c.from_residual.ensures.1 in
    rw (p.1, p.2)
    (stop_recast Body (Unit {0}) c.in_err-_body-in-Front.field-0.0 _ _ _ _ _ _
    (held_end _ c.args.task.now.point.now _ rows c.in-Front.front here Body (Err c.in_err-_body-in-Front.field-0.0) base _ _ start _ _ so_far calm c.in_err-_body-in-Front.ensures.written))

pub returns-in-Front : goal.returns-in-Front
returns-in-Front g c rows base start at so_far calm =
    let here : IsFront c.args.task.now.command.now c.args.task.now.types c.in-Front.front rows =
    subst (λ (s : Stage). IsAt c.args.task.now.command.now c.args.task.now.point.now c.args.task.now.types s rows) c.in-Front.is at in
    held_end _ c.args.task.now.point.now _ rows c.in-Front.front here (Unit {0}) (Ok tt) base _ _ start _ _ so_far calm c.in_ok-_body-in-Front.ensures.written

pub returns : goal.returns
returns g c rows base start at so_far calm =
    let here : IsBody c.args.task.now.command.now c.args.task.now.point.now c.args.task.now.types c.in-Body.field-0 rows =
    subst (λ (s : Stage). IsAt c.args.task.now.command.now c.args.task.now.point.now c.args.task.now.types s rows) c.in-Body.is at in
    body_ends c.args.task.now.command.now c.args.task.now.point.now c.args.task.now.types rows c.in-Body.field-0 here base _ start _ so_far calm
