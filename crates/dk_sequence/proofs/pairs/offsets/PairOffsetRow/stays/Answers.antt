use Rattle.dk_base.specs.Values.{values_of}
use Rattle.dk_sequence.proofs.PairRows.Relating.{offset_of_one}
use Rattle.dk_sequence.proofs.PairRows.Takes.{offset_form, offset_takes}
use Rattle.dk_template.proofs.Staying.{proper_by, stays_as}
use Rattle.dk_sequence.proofs.pairs.offsets.PairOffsetRow.stays.Goals as goal

pub one_stays-requires-clause-state : goal.one_stays-requires-clause-state
one_stays-requires-clause-state c = (proper_by offset_form c.args.state.now c.requires.state).0

pub one_stays-requires-clause-tuple : goal.one_stays-requires-clause-tuple
one_stays-requires-clause-tuple c = offset_takes (values_of c.args.tuple.now) c.requires.tuple

pub returns : goal.returns
returns c = stays_as c.args.state.now offset_form (offset_of_one (values_of c.args.tuple.now)) c.one_stays.ensures
