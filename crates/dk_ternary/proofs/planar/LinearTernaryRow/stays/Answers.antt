use Rattle.dk_base.specs.Values.{values_of}
use Rattle.dk_ternary.proofs.Relating.{plane_of_one}
use Rattle.dk_ternary.proofs.Takes.{linear_ternary_form, linear_ternary_takes}
use Rattle.dk_template.proofs.Staying.{proper_by, stays_as}
use Rattle.dk_ternary.proofs.planar.LinearTernaryRow.stays.Goals as goal

pub one_stays-requires-clause-state : goal.one_stays-requires-clause-state
one_stays-requires-clause-state c = proper_by linear_ternary_form c.args.state.now c.requires.state

pub one_stays-requires-clause-tuple : goal.one_stays-requires-clause-tuple
one_stays-requires-clause-tuple c = linear_ternary_takes (values_of c.args.tuple.now) c.requires.tuple

pub returns : goal.returns
returns c = stays_as c.args.state.now linear_ternary_form (plane_of_one (values_of c.args.tuple.now)) c.one_stays.ensures
