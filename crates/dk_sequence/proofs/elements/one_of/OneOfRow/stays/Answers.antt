use Rattle.std.proofs.Common.{refl}
use Rattle.dk_base.specs.Values.{values_of}
use Rattle.dk_sequence.proofs.ElementRows.Relating.{one_of_elements}
use Rattle.dk_sequence.proofs.ElementRows.Takes.{one_of_takes}
use Rattle.dk_template.proofs.Staying.{stays_as}
use Rattle.dk_sequence.proofs.elements.one_of.OneOfRow.stays.Goals as goal

pub elements_stay-requires-clause-tuple : goal.elements_stay-requires-clause-tuple
elements_stay-requires-clause-tuple c = one_of_takes c.args.self.now (values_of c.args.tuple.now) c.requires.tuple

pub returns : goal.returns
returns c = stays_as c.args.state.now refl (one_of_elements c.args.self.now (values_of c.args.tuple.now)) c.elements_stay.ensures
