use Rattle.std.proofs.Common.{rules, FitsSigned, w64, ap, refl, sym, ◌∙◌}
use Rattle.std.proofs.lemmas.Int.{to_z-of_z}
use Rattle.dk_base.specs.Values.{values_of}
use Rattle.dk_template.proofs.Staying.{stays_as}
use Rattle.dk_unary.proofs.Points.{bound_point}
use Rattle.dk_unary.proofs.Takes.{bound_takes}
use Rattle.dk_unary.specs.Rows.{bound_state}
use Rattle.dk_unary.proofs.bound.BoundRow.stays.Goals as goal

pub int_at-requires-clause-kind : goal.int_at-requires-clause-kind
int_at-requires-clause-kind c = bound_takes c.args.self.now (values_of c.args.tuple.now) c.requires.tuple

pub returns : goal.returns
returns c =
    let x = c.int_at.result in
    let fits : FitsSigned w64 x = search rules in
    stays_as c.args.state.now refl (bound_point c.args.self.now (values_of c.args.tuple.now) ∙ ap (bound_state c.args.self.now) (sym (to_z-of_z w64 x fits ∙ c.int_at.ensures))) c.one_stays.ensures
