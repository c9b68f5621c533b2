use Rattle.std.proofs.Common.{sym, ◌∙◌}
use Rattle.dk_base.specs.Values.{values_of}
use Rattle.dk_meanings.proofs.RowLaws.{plain_row_of_one}
use Rattle.dk_sequence.proofs.PairRows.Relating.{subset_relation}
use Rattle.dk_sequence.proofs.PairRows.Takes.{subset_form, subset_takes}
use Rattle.dk_sequence.specs.Pairs.{subset_is_row, subset_row}
use Rattle.dk_template.proofs.Staying.{proper_by, stays_as}
use Rattle.dk_sequence.proofs.pairs.subsets.SubsetRow.stays.Goals as goal

pub holds-requires : goal.holds-requires
holds-requires c = subset_takes c.args.self.now (values_of c.args.tuple.now) c.requires.tuple

pub plain_stays-requires : goal.plain_stays-requires
plain_stays-requires c = proper_by (subset_form c.args.self.now) c.args.state.now c.requires.state

pub returns : goal.returns
returns c =
    let r = c.args.self.now in
    let t = values_of c.args.tuple.now in
    stays_as c.args.state.now (subset_form r) (sym (plain_row_of_one (subset_row r) (subset_is_row r) (subset_form r) t (c.holds.ensures ∙ sym (subset_relation r t)))) c.plain_stays.ensures
