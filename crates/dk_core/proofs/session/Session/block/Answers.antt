use Rattle.std.proofs.Common.{◌≡◌, Bool, IfSome, Result, Ok, rules, subst}
use Rattle.dk_base.specs.declared.faults.Fault.{Fault}
use Rattle.dk_lines.specs.Reading.{left_of}
use Rattle.dk_core.specs.Standing.{left_with_answer}
use Rattle.dk_core.specs.Steps.{NextKept}
use Rattle.dk_core.proofs.session.Session.block.Goals as goal

pub returns-clause-gives : goal.returns-clause-gives
returns-clause-gives g c h stands =
    let is : c.next.result ≡ Ok c.in_ok-found.found = search rules in
    subst (λ (r : Result Bool Fault). IfSome (left_of c.args.lines.now (g.I.Inputs.rest c.args.inputs.now))
    (λ xs. NextKept c.args.self.now.options.ignore_missing_entry c.args.self.now.kept h c.args.lines.now xs (left_with_answer c.next.new.self r) c.next.new.lines (left_of c.next.new.lines (g.I.Inputs.rest c.next.new.inputs)))) is
    (c.next.ensures.gives h stands)
