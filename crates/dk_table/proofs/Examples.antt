-- A table and its trace, worked.
use Rattle.std.proofs.Common.{◌≡◌, ◌∷◌, [], ℕ, true, false, List, Some, None, Ok, codes, map, refl}
use Rattle.std.specs.Prelude.{Err, negsuc, pos}
use Rattle.std.specs.Fmt.{digits}
use Rattle.csv.specs.Machine.{next_record}
use Rattle.csv.specs.Reading.{records_from, strip_bom}
use Rattle.dk_base.specs.Numbers.{integer_of, whole_of}
use Rattle.dk_base.specs.Pieces.{pieces}
use Rattle.dk_base.specs.Values.Items.{is_quoted, is_text}
use Rattle.dk_base.specs.declared.kinds.Kind.{Kind}
use Rattle.dk_base.specs.declared.kinds.Kind.TheVariants as own
use Rattle.dk_base.specs.declared.values.Value.TheVariants as value
use Rattle.dk_blocks.specs.History.{is_declaration, is_list_of_implementors}
use Rattle.dk_decl.specs.Comments.{is_comment}
use Rattle.dk_decl.specs.Headers.{comparability_word, header_line}
use Rattle.dk_decl.specs.LineWords.{begins, operand}
use Rattle.dk_decl.specs.declared.decls.PointDecl.{PointDecl}
use Rattle.dk_decl.specs.declared.decls.VarDecl.{VarDecl}
use Rattle.dk_write.specs.Names.{is_line, is_word}
use Rattle.dk_write.specs.Texts.{Begins, Declares, Records}
use Rattle.dk_write.specs.Writable.{begins_record, can_declare, can_record}
use Rattle.dk_table.specs.Columns.{kind_of_column}
use Rattle.dk_table.specs.Columns.Cells.{decimal_of, dot_of, is_dot, is_front, quoted, size_of, truth, whole}
use Rattle.dk_table.specs.Tables.{rows_in}
use Rattle.dk_table.specs.Tables.Marks.{ends_cell}
use Rattle.dk_table.specs.Tables.PlacedRows.{Placed}
use Rattle.dk_table.specs.Traces.{any_compar, trace_by, trace_of}
use Rattle.dk_table.specs.declared.columns.ColumnKind.TheVariants as kind
use Rattle.dk_table.specs.declared.faults.TableWhy.TheVariants.{RowLength}
use Rattle.dk_table.specs.declared.words.command.Command.{Command}

-- three columns with a header, a blank line, and an empty cell
abbrev table : List ℕ
table = codes "n,ok,price\n5,true,1.25\n\n,false,-0.50\n"

abbrev row : ℕ → List (List ℕ) → Placed
row number cells = record { file = 0; number = number; cells = cells }

its_rows : rows_in 44 0 table
    ≡ row 1 (codes "n" ∷ codes "ok" ∷ codes "price" ∷ [])
    ∷ row 2 (codes "5" ∷ codes "true" ∷ codes "1.25" ∷ [])
    ∷ row 3 ([] ∷ codes "false" ∷ codes "-0.50" ∷ [])
    ∷ []
unfolding records_from strip_bom next_record
its_rows = refl

abbrev var : List ℕ → Kind → VarDecl
var name k = record { name = name; kind = Some k; compar = any_compar; constant = None; constant_line = false; parents = [] }

abbrev decl : PointDecl
decl = record { name = codes "t.csv"; edges = []; vars = var (codes "n") own.Int ∷ var (codes "ok") own.Bool ∷ var (codes "price * 100") own.Int ∷ [] }

abbrev command : Command
command = record { point = None; separator = 44; types = None; has_header = true }

its_trace : trace_of command (codes "t.csv") (table ∷ [])
    ≡ Ok (Begins
    ∷ Declares decl
    ∷ Records (record { decl = decl; nonce = None; values = value.Int (pos 5) ∷ value.Bool true ∷ value.Int (pos 125) ∷ [] })
    ∷ Records (record { decl = decl; nonce = None; values = value.Missing ∷ value.Bool false ∷ value.Int (negsuc 49) ∷ [] })
    ∷ [])
unfolding records_from strip_bom next_record trace_by can_declare is_line truth decimal_of dot_of is_dot is_front whole integer_of whole_of digits can_record begins_record is_quoted is_text is_declaration is_list_of_implementors is_comment comparability_word header_line begins operand pieces quoted is_word
its_trace = refl

short_row : trace_of command (codes "t.csv") (codes "a,b\n1,2\n3\n" ∷ []) ≡ Err (record { file = 0; row = 3; why = RowLength })
unfolding records_from strip_bom next_record
short_row = refl

-- what is no whole number as numbers are printed
no_zeros : whole (codes "007") ≡ None
unfolding whole integer_of whole_of digits
no_zeros = refl

no_plus : whole (codes "+7") ≡ None
unfolding whole integer_of whole_of digits
no_plus = refl

past_64_bits : whole (codes "9223372036854775808") ≡ None
unfolding whole integer_of whole_of digits
past_64_bits = refl

below_zero : decimal_of 2 (codes "-0.05") ≡ Some (negsuc 4)
unfolding decimal_of dot_of is_dot is_front whole integer_of whole_of digits
below_zero = refl

other_places : kind_of_column (codes "1.5" ∷ codes "1.25" ∷ []) ≡ kind.Text
unfolding decimal_of dot_of is_dot is_front whole integer_of whole_of digits truth
other_places = refl

quotes : quoted (codes "a\"b\n") ≡ codes "\"a\\\"b\\n\""
unfolding quoted
quotes = refl

-- a comma, CR and LF end cells, and no digit does
ending : map (ends_cell 44) (44 ∷ 13 ∷ 10 ∷ 53 ∷ []) ≡ true ∷ true ∷ true ∷ false ∷ []
ending = refl

sizes : map size_of (codes "-12" ∷ codes "12" ∷ codes "-" ∷ [] ∷ []) ≡ codes "12" ∷ codes "12" ∷ [] ∷ [] ∷ []
sizes = refl
