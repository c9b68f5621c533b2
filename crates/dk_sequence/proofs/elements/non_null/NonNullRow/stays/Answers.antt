use Rattle.std.proofs.Common.{sym, ◌∙◌}
use Rattle.dk_base.specs.Values.{values_of}
use Rattle.dk_meanings.proofs.RowLaws.{plain_row_of_one}
use Rattle.dk_sequence.proofs.ElementRows.Relating.{non_null_relation}
use Rattle.dk_sequence.proofs.ElementRows.Takes.{non_null_form, non_null_takes}
use Rattle.dk_sequence.specs.Elements.{non_null_is_row, non_null_row}
use Rattle.dk_template.proofs.Staying.{proper_by, stays_as}
use Rattle.dk_sequence.proofs.elements.non_null.NonNullRow.stays.Goals as goal

pub holds-requires : goal.holds-requires
holds-requires c = non_null_takes c.args.self.now (values_of c.args.tuple.now) c.requires.tuple

pub plain_stays-requires : goal.plain_stays-requires
plain_stays-requires c = proper_by (non_null_form c.args.self.now) c.args.state.now c.requires.state

pub returns : goal.returns
returns c =
    let r = c.args.self.now in
    let t = values_of c.args.tuple.now in
    stays_as c.args.state.now (non_null_form r) (sym (plain_row_of_one (non_null_row r) (non_null_is_row r) (non_null_form r) t (c.holds.ensures ∙ sym (non_null_relation r t)))) c.plain_stays.ensures
