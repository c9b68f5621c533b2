use Rattle.std.proofs.Common.{[], ◌≤◌, ◌+◌, ◌++◌, ◌∷◌, ◌∙◌, arith, inl, length, List, ℕ, refl, subst, sym}
use Rattle.std.proofs.lemmas.Result.{err_from_is_err_and}
use Rattle.dk_io.specs.Outside.{HeldFile, Rose}
use Rattle.dk_table.specs.Streams.Progress.{AreBehind, StopSays, all_rows}
use Rattle.dk_table.proofs.Closing.{all_says, none_behind}
use Rattle.dk_table.proofs.streaming.tell_stream.Goals as goal

pub loop-file-init : goal.loop-file-init
loop-file-init g c = record { behind = ([], none_behind _ _ _ _ _ _ _ c.requires); files = refl; later = omega arith }

pub loop-file-preserved : goal.loop-file-preserved
loop-file-preserved g c =
    let since : ℕ = g.I.Inputs.faults c.args.inputs.now in
    let (contents, b) = c.loop-file.invariant.behind in
    let files = c.loop-file.invariant.files in
    let on = subst (λ (f : List ℕ → HeldFile). AreBehind c.args.task.now.command.now c.args.task.now.point.now c.args.task.now.types c.args.names.now f c.loop-file.file contents c.loop-file.stage
    (g.S.Sinks.written c.args.sinks.now) (g.S.Sinks.written c.loop-file.sinks) (g.S.Sinks.faults c.args.sinks.now) (g.S.Sinks.faults c.loop-file.sinks)) (sym files) b in
    let (bytes, next) = c.in_ok-stage.ensures.goes contents (g.S.Sinks.written c.args.sinks.now) (g.S.Sinks.faults c.args.sinks.now) since c.loop-file.invariant.later on in
    record {
      behind = (
        contents ++ bytes ∷ [],
        subst (λ (f : List ℕ → HeldFile). AreBehind c.args.task.now.command.now c.args.task.now.point.now c.args.task.now.types c.args.names.now f (c.loop-file.file + 1) (contents ++ bytes ∷ []) c.in_ok-stage.stage
            (g.S.Sinks.written c.args.sinks.now) (g.S.Sinks.written c.read_file.new.sinks) (g.S.Sinks.faults c.args.sinks.now) (g.S.Sinks.faults c.read_file.new.sinks)) files next,
      );
      files = c.in_ok-stage.ensures.files ∙ files;
      later = omega (arith, c.loop-file.invariant.later, c.in_ok-stage.ensures.later);
    }

pub returns-in_err-stage-clause-goes : goal.returns-in_err-stage-clause-goes
returns-in_err-stage-clause-goes g c =
    let since : ℕ = g.I.Inputs.faults c.args.inputs.now in
    let (contents, b) = c.loop-file.invariant.behind in
    let files = c.loop-file.invariant.files in
    let on = subst (λ (f : List ℕ → HeldFile). AreBehind c.args.task.now.command.now c.args.task.now.point.now c.args.task.now.types c.args.names.now f c.loop-file.file contents c.loop-file.stage
    (g.S.Sinks.written c.args.sinks.now) (g.S.Sinks.written c.loop-file.sinks) (g.S.Sinks.faults c.args.sinks.now) (g.S.Sinks.faults c.loop-file.sinks)) (sym files) b in
    let stopped = c.in_err-stage.ensures.goes contents (g.S.Sinks.written c.args.sinks.now) (g.S.Sinks.faults c.args.sinks.now) since c.loop-file.invariant.later on in
    let p = err_from_is_err_and c.from_residual.result c.from_residual.ensures.1 in
    rw (p.1, p.2)
    (inl (subst (λ (f : List ℕ → HeldFile). StopSays c.args.task.now.command.now c.args.task.now.point.now c.args.task.now.types c.args.names.now f (Rose since (g.I.Inputs.faults c.read_file.new.inputs))
    (g.S.Sinks.written c.args.sinks.now) (g.S.Sinks.written c.read_file.new.sinks) (g.S.Sinks.faults c.args.sinks.now) (g.S.Sinks.faults c.read_file.new.sinks) c.in_err-stage.field-0.0) files stopped))

pub returns-clause-goes : goal.returns-clause-goes
returns-clause-goes g c =
    let (contents, b) = c.loop-file.invariant.behind in
    let past : length c.args.names.now ≤ c.loop-file.file = omega arith in
    all_says _ _ _ c.args.names.now _ _ contents c.loop-file.stage (g.S.Sinks.written c.args.sinks.now) _ (g.S.Sinks.faults c.args.sinks.now) _ c.loop-file.file past b c.tell_ended.result _ _
    (c.tell_ended.ensures (all_rows c.args.task.now.command.now.separator 0 contents) (g.S.Sinks.written c.args.sinks.now) (g.S.Sinks.faults c.args.sinks.now) b.at b.written b.calm)
