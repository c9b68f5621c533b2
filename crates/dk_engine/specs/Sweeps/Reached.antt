-- Which rows a row frees, by itself and through others, and which rows rules conclude.
use Rattle.std.specs.Prelude.{◌==◌, ◌++◌, Bool, List, [], filter, flat_map, map, slice_index_or}
use Rattle.std.specs.List.{list_any, range_with_len}
use Rattle.dk_instances.specs.Instances.{rows_of}
use Rattle.dk_suppress.specs.Rules.{freed, has_rule}
use Rattle.dk_template.specs.Numbers as number
use Rattle.dk_template.specs.declared.grammar.Grammar.TheVariants as grammar
use Rattle.dk_template.specs.declared.grammar.RowId.{RowId}

abbrev pub has_row : List RowId → RowId → Bool
has_row rows row = list_any (λ (r : RowId). r.0 == row.0) rows

-- the rows among these, each once, ascending
abbrev pub in_order : List RowId → List RowId
in_order rows = filter (has_row rows) (rows_of grammar.One)

-- what some rows free, with them
abbrev pub with_freed : List RowId → List RowId
with_freed rows = rows ++ flat_map freed rows

-- The rows that a row frees, those that these free, and those that those free: a row has a rank above that of what frees it, and the
-- greatest rank is 3.
unfoldable pub reached_from : RowId → List RowId
reached_from row = in_order (with_freed (with_freed (freed row)))

-- of each number below that of planes; no premise is about planes or a later row
unfoldable pub reached_by_number : List (List RowId)
reached_by_number = map (λ n. reached_from (record { 0 = n })) (range_with_len 0 number.linear_ternary)

unfoldable pub rows_reached : RowId → List RowId
rows_reached row = slice_index_or reached_by_number row.0 []

-- whether a rule concludes each row below that of planes; none concludes that of planes or a later row
unfoldable pub concluded_by_number : List Bool
concluded_by_number = map (λ n. has_rule (record { 0 = n })) (range_with_len 0 number.linear_ternary)
