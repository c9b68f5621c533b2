use Rattle.std.proofs.Common.{rules, FitsSigned, w64, ap, sym, ◌∙◌}
use Rattle.std.proofs.lemmas.Int.{to_z-of_z}
use Rattle.dk_base.specs.Values.{values_of}
use Rattle.dk_unary.proofs.Points.{bound_point}
use Rattle.dk_unary.proofs.Takes.{bound_takes}
use Rattle.dk_unary.specs.Rows.{bound_state}
use Rattle.dk_unary.proofs.bound.BoundRow.point.Goals as goal

pub int_at-requires-clause-kind : goal.int_at-requires-clause-kind
int_at-requires-clause-kind c = bound_takes c.args.self.now (values_of c.args.tuple.now) c.requires

pub returns-clause-state : goal.returns-clause-state
returns-clause-state c =
    let x = c.int_at.result in
    let fits : FitsSigned w64 x = search rules in
    c.state_of_one.ensures ∙ ap (bound_state c.args.self.now) (to_z-of_z w64 x fits ∙ c.int_at.ensures) ∙ sym (bound_point c.args.self.now (values_of c.args.tuple.now))
