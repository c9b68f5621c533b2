use Rattle.std.proofs.Common.{sym, ◌∙◌}
use Rattle.dk_base.specs.Values.{values_of}
use Rattle.dk_meanings.proofs.RowLaws.{plain_row_of_one}
use Rattle.dk_sequence.proofs.PairRows.Relating.{member_relation}
use Rattle.dk_sequence.proofs.PairRows.Takes.{member_form, member_takes}
use Rattle.dk_sequence.specs.Pairs.{member_is_row, member_row}
use Rattle.dk_sequence.proofs.pairs.membership.MemberRow.point.Goals as goal

pub holds-requires : goal.holds-requires
holds-requires c = member_takes c.args.self.now (values_of c.args.tuple.now) c.requires

pub returns-clause-state : goal.returns-clause-state
returns-clause-state c =
    let r = c.args.self.now in
    let t = values_of c.args.tuple.now in
    c.plain_point.ensures ∙ plain_row_of_one (member_row r) (member_is_row r) (member_form r) t (c.holds.ensures ∙ sym (member_relation r t))
