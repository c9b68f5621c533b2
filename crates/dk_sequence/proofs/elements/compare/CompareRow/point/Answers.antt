use Rattle.std.proofs.Common.{sym, ◌∙◌}
use Rattle.dk_base.specs.Values.{values_of}
use Rattle.dk_meanings.proofs.RowLaws.{plain_row_of_one}
use Rattle.dk_sequence.proofs.ElementRows.Relating.{compare_relation}
use Rattle.dk_sequence.proofs.ElementRows.Takes.{compare_form, compare_takes}
use Rattle.dk_sequence.specs.Elements.{compare_is_row, compare_row}
use Rattle.dk_sequence.proofs.elements.compare.CompareRow.point.Goals as goal

pub holds-requires : goal.holds-requires
holds-requires c = compare_takes c.args.self.now.0 (values_of c.args.tuple.now) c.requires

pub returns-clause-state : goal.returns-clause-state
returns-clause-state c =
    let r = c.args.self.now in
    let t = values_of c.args.tuple.now in
    c.plain_point.ensures ∙ plain_row_of_one (compare_row r) (compare_is_row r) (compare_form r.0) t (c.holds.ensures ∙ sym (compare_relation r.0 t))
