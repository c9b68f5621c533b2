-- The reasons for which a table is refused, by number and by name.
pub mod Messages
use Rattle.std.specs.Prelude.{◌++◌, ℕ, List, codes}
use Rattle.std.specs.Fmt.{decimal}
use Rattle.dk_table.specs.declared.faults.TableWhy.{TableWhy}
use Rattle.dk_table.specs.declared.faults.TableWhy.TheVariants.{NoHeader, BadName, RowLength, BadCell, OtherHeader, OpenQuote}

abbrev pub why_number : TableWhy → ℕ
why_number NoHeader = 1
why_number BadName = 2
why_number RowLength = 3
why_number BadCell = 4
why_number OtherHeader = 5
why_number OpenQuote = 6

abbrev pub why_name : TableWhy → List ℕ
why_name NoHeader = codes "NoHeader"
why_name BadName = codes "BadName"
why_name RowLength = codes "RowLength"
why_name BadCell = codes "BadCell"
why_name OtherHeader = codes "OtherHeader"
why_name OpenQuote = codes "OpenQuote"

-- as it is shown
abbrev pub why_text : TableWhy → List ℕ
why_text why = decimal (why_number why) ++ codes " " ++ why_name why
