use Rattle.std.proofs.Common.{List}
use Rattle.dk_table.proofs.Staged.{goes_as, goes_front}
use Rattle.dk_table.specs.Streams.Pieces.{chunk_rows}
use Rattle.dk_table.specs.Streams.Stages.{IsTaken}
use Rattle.dk_table.specs.Tables.PlacedRows.{Placed}
use Rattle.dk_table.specs.declared.streaming.advancing.Taken.{Taken}
use Rattle.dk_table.specs.declared.streaming.stages.Stage.TheVariants as stage
use Rattle.dk_table.proofs.streaming.advancing.take_chunk.Goals as goal

pub returns-in-Start-clause-goes : goal.returns-in-Start-clause-goes
returns-in-Start-clause-goes g c =
    let own : List Placed = chunk_rows c.args.task.now.command.now.separator c.args.chunk in
    goes_as {X = Taken} c.take_first.result c.args.task.now.command.now c.args.task.now.point.now c.args.task.now.types c.args.stage stage.Start own _ _ _ _
    (IsTaken c.args.task.now.command.now c.args.task.now.point.now c.args.task.now.types) c.in-Start.is c.take_first.ensures.goes

pub returns-in-Front-clause-goes : goal.returns-in-Front-clause-goes
returns-in-Front-clause-goes g c =
    let own : List Placed = chunk_rows c.args.task.now.command.now.separator c.args.chunk in
    goes_as {X = Taken} c.take_front.result c.args.task.now.command.now c.args.task.now.point.now c.args.task.now.types c.args.stage (stage.Front c.in-Front.front) own _ _ _ _
    (IsTaken c.args.task.now.command.now c.args.task.now.point.now c.args.task.now.types) c.in-Front.is
    (goes_front {X = Taken} c.take_front.result c.args.task.now.command.now c.args.task.now.point.now c.args.task.now.types c.in-Front.front own _ _ _ _
    (IsTaken c.args.task.now.command.now c.args.task.now.point.now c.args.task.now.types) c.take_front.ensures.goes)

pub returns-in-Body-clause-goes : goal.returns-in-Body-clause-goes
returns-in-Body-clause-goes g c =
    let own : List Placed = chunk_rows c.args.task.now.command.now.separator c.args.chunk in
    goes_as {X = Taken} c.take_body.result c.args.task.now.command.now c.args.task.now.point.now c.args.task.now.types c.args.stage (stage.Body c.in-Body.body) own _ _ _ _
    (IsTaken c.args.task.now.command.now c.args.task.now.point.now c.args.task.now.types) c.in-Body.is c.take_body.ensures.goes
