use Rattle.std.proofs.Common.{sym, ◌∙◌}
use Rattle.dk_base.specs.Values.{values_of}
use Rattle.dk_meanings.proofs.RowLaws.{plain_row_of_one}
use Rattle.dk_sequence.proofs.PairRows.Relating.{equal_relation}
use Rattle.dk_sequence.proofs.PairRows.Takes.{equal_form, equal_takes}
use Rattle.dk_sequence.specs.Pairs.{equal_is_row, equal_row}
use Rattle.dk_sequence.proofs.pairs.equality.EqualSequencesRow.point.Goals as goal

pub holds-requires : goal.holds-requires
holds-requires c = equal_takes c.args.self.now (values_of c.args.tuple.now) c.requires

pub returns-clause-state : goal.returns-clause-state
returns-clause-state c =
    let r = c.args.self.now in
    let t = values_of c.args.tuple.now in
    c.plain_point.ensures ∙ plain_row_of_one (equal_row r) (equal_is_row r) (equal_form r) t (c.holds.ensures ∙ sym (equal_relation r t))
