use Rattle.std.proofs.Common.{refl}
use Rattle.dk_base.specs.Values.{values_of}
use Rattle.dk_sequence.proofs.ElementRows.Relating.{bound_elements}
use Rattle.dk_sequence.proofs.ElementRows.Takes.{bound_takes}
use Rattle.dk_template.proofs.Staying.{stays_as}
use Rattle.dk_sequence.proofs.elements.bound.BoundRow.stays.Goals as goal

pub elements_stay-requires-clause-tuple : goal.elements_stay-requires-clause-tuple
elements_stay-requires-clause-tuple c = bound_takes c.args.self.now (values_of c.args.tuple.now) c.requires.tuple

pub returns : goal.returns
returns c = stays_as c.args.state.now refl (bound_elements c.args.self.now (values_of c.args.tuple.now)) c.elements_stay.ensures
