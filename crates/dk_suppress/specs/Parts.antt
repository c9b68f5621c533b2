-- The part of the table that is a row's.
use Rattle.std.specs.Prelude.{◌==◌, ℕ, List, count_by, filter, map, nat_lt}
use Rattle.std.specs.List.{range_with_len}
use Rattle.dk_suppress.specs.Rules.{Rule, rules}
use Rattle.dk_template.specs.Numbers as number
use Rattle.dk_template.specs.declared.grammar.RowId.{RowId}

-- the rules of a row
abbrev pub rules_of : RowId → List Rule
rules_of row = filter (λ (r : Rule). r.0.0 == row.0) rules

-- how many rules have a conclusion below the number
abbrev pub start_of : ℕ → ℕ
start_of n = count_by (λ (r : Rule). nat_lt r.0.0 n) rules

-- Where the rules of each number below that of planes start, and where the last ones end: the table is in the order of its conclusions.
unfoldable pub starts : List ℕ
starts = map start_of (range_with_len 0 number.pair_offset)
