-- The table of the rows, read by number.
use Rattle.std.specs.Prelude.{◌≡◌, ◌-◌, length, slice_index_or, refl}
use Rattle.std.proofs.Common.{arith}
use Rattle.std.proofs.lemmas.List.{get_or_default}
use Rattle.dk_template.specs.Templates.{IsRow, rows, template_of}
use Rattle.dk_template.specs.declared.grammar.RowId.{RowId}
use Rattle.dk_template.specs.declared.templates.Template.{Template}

pub length-rows : length rows ≡ 68
unfolding rows
length-rows = refl

-- a row of the table is there, so what is read past the end doesn't matter
pub at_row : (r : RowId) → IsRow r → (d : Template) → slice_index_or rows (r.0 - 1) d ≡ template_of r
at_row r is d =
    let low = is.0 in
    let high = is.1 in
    let all = length-rows in
    get_or_default rows (r.0 - 1) d _ (omega arith)
