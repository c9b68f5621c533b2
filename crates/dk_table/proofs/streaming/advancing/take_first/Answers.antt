use Rattle.std.proofs.Common.{◌≡◌, ◌∙◌, List, None, refl, Some, sym, ℕ}
use Rattle.std.proofs.lemmas.Result.{err_from_is_err_and}
use Rattle.dk_table.proofs.Staged.{goes_first, goes_none, goes_unnamed}
use Rattle.dk_table.specs.Streams.Pieces.{chunk_rows}
use Rattle.dk_table.specs.Streams.Stages.{IsTaken, first_names}
use Rattle.dk_table.specs.Tables.PlacedRows.{Placed}
use Rattle.dk_table.specs.declared.streaming.advancing.Taken.{Taken}
use Rattle.dk_table.specs.declared.streaming.stages.Stage.TheVariants as stage
use Rattle.dk_table.proofs.streaming.advancing.take_first.Goals as goal

pub returns-in_err-first_names-clause-goes : goal.returns-in_err-first_names-clause-goes
returns-in_err-first_names-clause-goes g c =
    let own : List Placed = chunk_rows c.args.task.now.command.now.separator c.args.chunk in
    let p = err_from_is_err_and c.from_residual.result c.from_residual.ensures.1 in
    rw (p.1, p.2)
    (goes_none {X = Taken} c.args.task.now.command.now c.args.task.now.point.now c.args.task.now.types stage.Start own _ _ (IsTaken c.args.task.now.command.now c.args.task.now.point.now c.args.task.now.types))

pub returns-in_err-front-in-Some-clause-goes : goal.returns-in_err-front-in-Some-clause-goes
returns-in_err-front-in-Some-clause-goes g c =
    let own : List Placed = chunk_rows c.args.task.now.command.now.separator c.args.chunk in
    let p = err_from_is_err_and c.from_residual-in_err-front-in-Some.result c.from_residual-in_err-front-in-Some.ensures.1 in
    rw (p.1, p.2)
    (goes_none {X = Taken} c.args.task.now.command.now c.args.task.now.point.now c.args.task.now.types stage.Start own _ _ (IsTaken c.args.task.now.command.now c.args.task.now.point.now c.args.task.now.types))

pub returns-in-None-clause-goes : goal.returns-in-None-clause-goes
returns-in-None-clause-goes g c =
    let own : List Placed = chunk_rows c.args.task.now.command.now.separator c.args.chunk in
    let none : first_names c.args.task.now.command.now.has_header own ≡ None = sym c.in_ok-first_names.ensures ∙ c.in-None.is in
    goes_unnamed c.args.task.now.command.now c.args.task.now.point.now c.args.task.now.types own _ _ (record { stage = stage.Start; count = 0 }) none refl

pub returns-in_ok-front-in-Some-clause-goes : goal.returns-in_ok-front-in-Some-clause-goes
returns-in_ok-front-in-Some-clause-goes g c =
    let own : List Placed = chunk_rows c.args.task.now.command.now.separator c.args.chunk in
    let names : List (List ℕ) = c.in-Some.names in
    let some : first_names c.args.task.now.command.now.has_header own ≡ Some names = sym c.in_ok-first_names.ensures ∙ c.in-Some.is in
    goes_first {X = Taken} c.take_front.result c.args.task.now.command.now c.args.task.now.point.now c.args.task.now.types c.in_ok-front-in-Some.front names own _ _ _ _
    (IsTaken c.args.task.now.command.now c.args.task.now.point.now c.args.task.now.types) some c.in_ok-front-in-Some.ensures c.take_front.ensures.goes
