use Rattle.std.proofs.Common.{sym, ◌∙◌}
use Rattle.dk_base.specs.Values.{values_of}
use Rattle.dk_meanings.proofs.RowLaws.{plain_row_of_one}
use Rattle.dk_sequence.proofs.ElementRows.Relating.{sorted_relation}
use Rattle.dk_sequence.proofs.ElementRows.Takes.{sorted_form, sorted_takes}
use Rattle.dk_sequence.specs.Elements.{sorted_is_row, sorted_row}
use Rattle.dk_template.proofs.Staying.{proper_by, stays_as}
use Rattle.dk_sequence.proofs.elements.sorted.SortedRow.stays.Goals as goal

pub holds-requires : goal.holds-requires
holds-requires c = sorted_takes c.args.self.now.0 (values_of c.args.tuple.now) c.requires.tuple

pub plain_stays-requires : goal.plain_stays-requires
plain_stays-requires c = proper_by (sorted_form c.args.self.now.0) c.args.state.now c.requires.state

pub returns : goal.returns
returns c =
    let r = c.args.self.now in
    let t = values_of c.args.tuple.now in
    stays_as c.args.state.now (sorted_form r.0) (sym (plain_row_of_one (sorted_row r) (sorted_is_row r) (sorted_form r.0) t (c.holds.ensures ∙ sym (sorted_relation r.0 t)))) c.plain_stays.ensures
