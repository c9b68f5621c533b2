use Rattle.std.proofs.Common.{◌∙◌, arith, List, ℕ, refl, subst, sym}
use Rattle.std.proofs.lemmas.Result.{err_from_is_err_and}
use Rattle.dk_io.specs.Outside.{HeldFile, Rose}
use Rattle.dk_table.specs.Streams.Progress.{StopSays}
use Rattle.dk_table.proofs.Onward.{going_as, none_more}
use Rattle.dk_table.proofs.streaming.take_file.Goals as goal

pub pieces-init : goal.pieces-init
pieces-init g c = record { goes = λ names contents base start since le h. h; files = refl; later = omega arith }

pub pieces-preserved : goal.pieces-preserved
pieces-preserved g c =
    let files = c.pieces.invariant.files in
    let later = c.pieces.invariant.later in
    record {
      goes = λ names contents base start since le h.
          going_as _ _ _ _ _ _ _ _ _ _ _ _ _ _ _ files
          (c.in_ok-going-in-Full.ensures.goes names contents base start since (omega (arith, le, later))
          (going_as _ _ _ _ _ _ _ _ _ _ _ _ _ _ _ (sym files) (c.pieces.invariant.goes names contents base start since le h)));
      files = c.in_ok-going-in-Full.ensures.files ∙ files;
      later = omega (arith, later, c.in_ok-going-in-Full.ensures.later);
    }

pub returns-in_err-going-in-Full-clause-goes : goal.returns-in_err-going-in-Full-clause-goes
returns-in_err-going-in-Full-clause-goes g c names contents base start since le h =
    let files = c.pieces.invariant.files in
    let later = c.pieces.invariant.later in
    let stopped = c.in_err-going-in-Full.ensures.goes names contents base start since (omega (arith, le, later)) (going_as _ _ _ _ _ _ _ _ _ _ _ _ _ _ _ (sym files) (c.pieces.invariant.goes names contents base start since le h)) in
    let p = err_from_is_err_and c.from_residual.result c.from_residual.ensures.1 in
    rw (p.1, p.2)
    (subst (λ (f : List ℕ → HeldFile). StopSays c.args.task.now.command.now c.args.task.now.point.now c.args.task.now.types names f (Rose since (g.I.Inputs.faults c.take_piece.new.inputs))
    base (g.S.Sinks.written c.take_piece.new.sinks) start (g.S.Sinks.faults c.take_piece.new.sinks) c.in_err-going-in-Full.field-0.0) files stopped)

pub returns-in-Ended-clause-goes : goal.returns-in-Ended-clause-goes
returns-in-Ended-clause-goes g c names contents base start since le h =
    c.take_last.ensures names (g.I.Inputs.file c.args.inputs.now) (g.I.Inputs.rest c.pieces.inputs) contents base start since (g.I.Inputs.faults c.pieces.inputs)
    (c.pieces.invariant.goes names contents base start since le h)

pub returns-in-Failed-clause-goes : goal.returns-in-Failed-clause-goes
returns-in-Failed-clause-goes g c names contents base start since le h =
    c.take_unread.ensures names (g.I.Inputs.file c.args.inputs.now) (g.I.Inputs.rest c.pieces.inputs) contents base start since (g.I.Inputs.faults c.pieces.inputs)
    (c.pieces.invariant.goes names contents base start since le h)

pub returns-clause-goes : goal.returns-clause-goes
returns-clause-goes g c names contents base start since le h = none_more _ _ _ _ _ _ _ _ _ _ _ _ _ _ (c.pieces.invariant.goes names contents base start since le h)
