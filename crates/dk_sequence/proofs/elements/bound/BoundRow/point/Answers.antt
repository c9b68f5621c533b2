use Rattle.std.proofs.Common.{sym, ◌∙◌}
use Rattle.dk_base.specs.Values.{values_of}
use Rattle.dk_sequence.proofs.ElementRows.Relating.{bound_elements}
use Rattle.dk_sequence.proofs.ElementRows.Takes.{bound_takes}
use Rattle.dk_sequence.proofs.elements.bound.BoundRow.point.Goals as goal

pub state_of_elements-requires : goal.state_of_elements-requires
state_of_elements-requires c = bound_takes c.args.self.now (values_of c.args.tuple.now) c.requires

pub returns-clause-state : goal.returns-clause-state
returns-clause-state c = c.state_of_elements.ensures ∙ sym (bound_elements c.args.self.now (values_of c.args.tuple.now))
