-- What the definitions of the rows come to.
use Rattle.std.specs.Prelude.{◌≡◌, Bool, ◌&&◌, List, map, nat_le}
use Rattle.dk_base.specs.declared.values.Value.{Value}
use Rattle.dk_forms.specs.Plain.{plain_of}
use Rattle.dk_meanings.specs.Meanings.{relation_of, state_of}
use Rattle.dk_template.specs.Rows.{RowLaws}
use Rattle.dk_template.specs.Templates.{IsRow, form_of, role_kinds}
use Rattle.dk_template.specs.declared.grammar.RowId.{RowId}
use Rattle.dk_template.specs.declared.templates.StateForm.TheVariants as form

-- whether a row of the table has this number
abbrev pub is_row : RowId → Bool
is_row r = nat_le 1 r.0 && nat_le r.0 68

-- each row of the table keeps the laws of a row, with its kinds and its form
abbrev pub RowsKeepTheirLaws : Type 0
RowsKeepTheirLaws = (r : RowId) → IsRow r → RowLaws (role_kinds r) (form_of r) (state_of r)

-- the state of a row with a relation tells whether each tuple satisfies the relation
abbrev pub PlainRowsStateTheirRelation : Type 0
PlainRowsStateTheirRelation =
    (r : RowId) → IsRow r → form_of r ≡ form.Plain → (tuples : List (List Value))
    → state_of r tuples ≡ plain_of (map (relation_of r) tuples)
