use Rattle.std.proofs.Common.{ap}
use Rattle.dk_derive.specs.Values.{values_by_form}
use Rattle.dk_hierarchy.proofs.Samples.{own_and_childrens}
use Rattle.dk_hierarchy.specs.Samples.{all_vars_of}
use Rattle.dk_verdicts.proofs.Asserted.{none_reaching}
use Rattle.dk_verdicts.proofs.Reached.{at_only}
use Rattle.dk_verdicts.specs.Records.{only}
use Rattle.std.specs.Prelude.{map}
use Rattle.dk_verdicts.proofs.laws.records_reach_over_edges.Goals as goal

pub returns-clause-edges : goal.returns-clause-edges
returns-clause-edges c r acyclic q = own_and_childrens r.table acyclic (only r.point r.values) q

pub returns-clause-own : goal.returns-clause-own
returns-clause-own c r = ap (map (values_by_form (all_vars_of r.table r.point))) (at_only r.point r.values)

pub returns-clause-later : goal.returns-clause-later
returns-clause-later c r within q past = none_reaching q r within past
