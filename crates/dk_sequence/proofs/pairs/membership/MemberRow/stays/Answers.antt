use Rattle.std.proofs.Common.{sym, ◌∙◌}
use Rattle.dk_base.specs.Values.{values_of}
use Rattle.dk_meanings.proofs.RowLaws.{plain_row_of_one}
use Rattle.dk_sequence.proofs.PairRows.Relating.{member_relation}
use Rattle.dk_sequence.proofs.PairRows.Takes.{member_form, member_takes}
use Rattle.dk_sequence.specs.Pairs.{member_is_row, member_row}
use Rattle.dk_template.proofs.Staying.{proper_by, stays_as}
use Rattle.dk_sequence.proofs.pairs.membership.MemberRow.stays.Goals as goal

pub holds-requires : goal.holds-requires
holds-requires c = member_takes c.args.self.now (values_of c.args.tuple.now) c.requires.tuple

pub plain_stays-requires : goal.plain_stays-requires
plain_stays-requires c = proper_by (member_form c.args.self.now) c.args.state.now c.requires.state

pub returns : goal.returns
returns c =
    let r = c.args.self.now in
    let t = values_of c.args.tuple.now in
    stays_as c.args.state.now (member_form r) (sym (plain_row_of_one (member_row r) (member_is_row r) (member_form r) t (c.holds.ensures ∙ sym (member_relation r t)))) c.plain_stays.ensures
