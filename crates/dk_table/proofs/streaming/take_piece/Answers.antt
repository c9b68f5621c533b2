use Rattle.std.proofs.Common.{◌∙◌, ℕ}
use Rattle.std.proofs.lemmas.Result.{err_from_is_err_and}
use Rattle.dk_io.specs.Outside.{Rose}
use Rattle.dk_table.proofs.Gathering.{rose_before}
use Rattle.dk_table.proofs.Onward.{goes_on, none_more}
use Rattle.dk_table.proofs.streaming.take_piece.Goals as goal

pub returns-in_err-going-clause-goes : goal.returns-in_err-going-clause-goes
returns-in_err-going-clause-goes g c names contents base start since le h =
    let p = err_from_is_err_and c.from_residual.result c.from_residual.ensures.1 in
    rw (p.1, p.2)
    (c.in_err-going.ensures.goes names (g.I.Inputs.file c.args.inputs.now) (g.I.Inputs.rest c.args.inputs.now) contents base start since (g.I.Inputs.faults c.args.inputs.now) h)

pub returns-in_err-filled-clause-goes : goal.returns-in_err-filled-clause-goes
returns-in_err-filled-clause-goes g c names contents base start since le h =
    let p = err_from_is_err_and c.from_residual-in_err-filled.result c.from_residual-in_err-filled.ensures.1 in
    let on = c.in_ok-going.ensures.goes names (g.I.Inputs.file c.args.inputs.now) (g.I.Inputs.rest c.args.inputs.now) contents base start since (g.I.Inputs.faults c.args.inputs.now) h in
    rw (p.1, p.2) (none_more _ _ _ _ _ _ _ _ _ _ _ _ _ _ on)

pub returns-clause-goes : goal.returns-clause-goes
returns-clause-goes g c names contents base start since le h =
    let before : ℕ = g.I.Inputs.faults c.args.inputs.now in
    let after : ℕ = g.I.Inputs.faults c.fill.new.inputs in
    let on = c.in_ok-going.ensures.goes names (g.I.Inputs.file c.args.inputs.now) (g.I.Inputs.rest c.args.inputs.now) contents base start since before h in
    goes_on _ _ _ _ _ _ _ _ _ _ _ _ _ _ on c.in_ok-filled.filled c.fill.new.text (g.I.Inputs.rest c.fill.new.inputs) (Rose since after) (Rose before after)
    (c.in_ok-going.ensures.filled ∙ c.requires) c.in_ok-filled.ensures.filled (rose_before since before after le)
