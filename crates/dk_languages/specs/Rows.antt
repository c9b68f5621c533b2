-- The tables of all rows.
pub mod CRows
pub mod PythonRows
pub mod SmtlibRows
use Rattle.std.specs.Prelude.{◌==◌, ◌||◌, ℕ, Bool, List, [], codes, slice_index_or, if◌then◌else◌}
use Rattle.dk_template.specs.Numbers as number
use Rattle.dk_template.specs.declared.grammar.RowId.{RowId}
use Rattle.dk_languages.specs.declared.languages.Language.{Language}
use Rattle.dk_languages.specs.declared.languages.Language.TheVariants as language
use Rattle.dk_languages.specs.Rows.CRows.{c_rows}
use Rattle.dk_languages.specs.Rows.PythonRows.{python_rows}
use Rattle.dk_languages.specs.Rows.SmtlibRows.{smtlib_rows}

abbrev pub rows_in : Language → List (List ℕ)
rows_in language.Python = python_rows
rows_in language.C = c_rows
rows_in language.Smtlib = smtlib_rows

-- what a row says, with holes; nothing for what isn't a row of the table
abbrev pub row_in : Language → RowId → List ℕ
row_in l row = slice_index_or (rows_in l) row.0 []

-- a row lists the values of the elements of a sequence
abbrev pub is_of_elements : RowId → Bool
is_of_elements row = row.0 == number.elt_one_of_int || (row.0 == number.elt_one_of_bool || row.0 == number.elt_one_of_str)

-- What is said of each value that a row lists, with the hole K for the value. SMT-LIB has no lists: there x, or the element i of s, is the
-- value.
abbrev pub value_in : Language → RowId → List ℕ
value_in language.Smtlib row = if is_of_elements row then codes "(= (select X i) K)" else codes "(= X K)"
value_in _ row = codes "K"

-- what stands between them
abbrev pub separator_in : Language → List ℕ
separator_in language.Smtlib = codes " "
separator_in _ = codes ", "
