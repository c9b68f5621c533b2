-- What the table of groups comes to.
use Rattle.std.specs.Prelude.{◌<◌}
use Rattle.dk_page.specs.Groups.{place_of, row_group}
use Rattle.dk_page.specs.declared.groups.Group.TheVariants as group
use Rattle.dk_template.specs.Templates.{IsRow}
use Rattle.dk_template.specs.declared.grammar.RowId.{RowId}

-- each row has a group of its own kind: it isn't among the lines that no row has
abbrev pub EachRowHasAGroup : Type 0
EachRowHasAGroup = (row : RowId) → IsRow row → place_of (row_group row) < place_of group.Conditional
