use Rattle.std.proofs.Common.{sym, ◌∙◌}
use Rattle.dk_base.specs.Values.{values_of}
use Rattle.dk_meanings.proofs.RowLaws.{plain_row_of_one}
use Rattle.dk_sequence.proofs.ElementRows.Relating.{non_null_relation}
use Rattle.dk_sequence.proofs.ElementRows.Takes.{non_null_form, non_null_takes}
use Rattle.dk_sequence.specs.Elements.{non_null_is_row, non_null_row}
use Rattle.dk_sequence.proofs.elements.non_null.NonNullRow.point.Goals as goal

pub holds-requires : goal.holds-requires
holds-requires c = non_null_takes c.args.self.now (values_of c.args.tuple.now) c.requires

pub returns-clause-state : goal.returns-clause-state
returns-clause-state c =
    let r = c.args.self.now in
    let t = values_of c.args.tuple.now in
    c.plain_point.ensures ∙ plain_row_of_one (non_null_row r) (non_null_is_row r) (non_null_form r) t (c.holds.ensures ∙ sym (non_null_relation r t))
