use Rattle.std.proofs.Common.{sym, ◌∙◌}
use Rattle.dk_base.specs.Values.{values_of}
use Rattle.dk_sequence.proofs.PairRows.Relating.{offset_of_one}
use Rattle.dk_sequence.proofs.PairRows.Takes.{offset_takes}
use Rattle.dk_sequence.proofs.pairs.offsets.PairOffsetRow.point.Goals as goal

pub state_of_one-requires : goal.state_of_one-requires
state_of_one-requires c = offset_takes (values_of c.args.tuple.now) c.requires

pub returns-clause-state : goal.returns-clause-state
returns-clause-state c = c.state_of_one.ensures ∙ sym (offset_of_one (values_of c.args.tuple.now))
