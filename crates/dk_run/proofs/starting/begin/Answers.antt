use Rattle.std.proofs.Common.{rules, ◌≡◌, List, ℕ, Some, subst, sym}
use Rattle.dk_run.specs.Beginning.{IsWhole}
use Rattle.dk_run.proofs.Begins.{if_err, load_fault}
use Rattle.dk_run.proofs.starting.begin.Goals as goal

pub returns-in_ok-state-in-Some-clause-fault : goal.returns-in_ok-state-in-Some-clause-fault
returns-in_ok-state-in-Some-clause-fault g c =
    let whole = subst (λ (s : List ℕ). IsWhole (g.I.Inputs.file c.args.inputs.now c.as_str.result.now) s (g.I.Inputs.rest c.read_state.new.inputs)) (sym c.as_slice.ensures) c.in_ok-state-in-Some.ensures.whole in
    let is : c.args.command.now.resume ≡ Some c.as_str.result.now = search rules in
    if_err c.begin_resumed.result _ _ c.begin_resumed.ensures.fault
    (λ t bad. load_fault c.args.command.now.resume c.as_str.result.now (g.I.Inputs.file c.args.inputs.now) _ c.as_slice.result.now (g.I.Inputs.rest c.args.inputs.now) (g.I.Inputs.rest c.read_state.new.inputs) t is whole bad)
