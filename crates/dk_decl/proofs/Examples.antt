-- Small examples, computed from the definitions.
use Rattle.std.proofs.Common.{◌≡◌, ◌∷◌, [], ℕ, suc, pos, negsuc, true, false, List, Some, None, Ok, Err, codes, refl}
use Rattle.dk_base.specs.Names.{unescaped}
use Rattle.dk_base.specs.Numbers.{integer_of, natural_of, whole_of}
use Rattle.dk_base.specs.Pieces.{pieces}
use Rattle.dk_base.specs.Reading.{Line}
use Rattle.dk_base.specs.Values.Items.{bool_item, int_item}
use Rattle.dk_base.specs.declared.kinds.Kind.TheVariants as kind
use Rattle.dk_base.specs.declared.values.Value.TheVariants as value
use Rattle.dk_base.specs.declared.why.Why.TheVariants.{BadHeader, BadPoint, BadVariable}
use Rattle.dk_decl.specs.Blocks.{block_decl}
use Rattle.dk_decl.specs.Brackets.{bracket_parts, compar_of, index_number, index_of, no_compar, numbers_of}
use Rattle.dk_decl.specs.DeclareBlock.{comparability, constant_text, declare_lines, new_name, representation}
use Rattle.dk_decl.specs.Headers.{comparability_word, first_header, header_line}
use Rattle.dk_decl.specs.Heads.{head_line, id_of, is_point_type, parent_line}
use Rattle.dk_decl.specs.LineWords.{begins, operand, operands}
use Rattle.dk_decl.specs.Outcomes.{refused}
use Rattle.dk_decl.specs.PptBlock.{is_variable, point_name, ppt_lines, ppt_of, with_var}
use Rattle.dk_decl.specs.Types.{constant_at, constant_of, rep_type_of}
use Rattle.dk_decl.specs.Variables.{counterparts, open_var, var_decl_of, var_line}

-- lines with their numbers, from this one on
abbrev numbered : ℕ → List (List ℕ) → List Line
numbered n [] = []
numbered n (bytes ∷ more) = record { number = n; bytes = bytes } ∷ numbered (suc n) more

abbrev first : List ℕ → Line
first bytes = record { number = 1; bytes = bytes }

-- numbers with brackets
brackets : compar_of (codes "-1[22][3]") ≡ Some (record { elem = negsuc 0; index = pos 22 })
unfolding compar_of bracket_parts numbers_of index_number index_of integer_of whole_of
brackets = refl

bracket_open : compar_of (codes "1[2") ≡ None
unfolding compar_of bracket_parts numbers_of index_number index_of integer_of whole_of
bracket_open = refl

bracket_behind : compar_of (codes "1[2]x") ≡ None
unfolding compar_of bracket_parts numbers_of index_number index_of integer_of whole_of
bracket_behind = refl

-- a child of two edges to one parent, whose variables have their counterparts there
child : block_decl true (first (codes "ppt C")) (numbered 2 (codes "ppt-type Point" ∷ codes "parent parent Q 1" ∷ codes "parent parent Q 02"
    ∷ codes "parent user U 3" ∷ codes "variable a" ∷ codes "# no comment here" ∷ codes "rep-type int" ∷ codes "parent Q 1 n"
    ∷ codes "variable b\\_b" ∷ codes "rep-type int[]" ∷ codes "comparability 4[5]" ∷ codes "parent Q 2" ∷ codes "parent U 3" ∷ [])) (Some 14)
    ≡ Ok (record {
      name = codes "C";
      edges = record { parent = codes "Q"; id = 1 } ∷ record { parent = codes "Q"; id = 2 } ∷ [];
      vars = record {
        name = codes "a";
        kind = Some kind.Int;
        compar = no_compar;
        constant = None;
        constant_line = false;
        parents = record { edge = 0; name = codes "n" } ∷ [];
      }
          ∷ record {
            name = codes "b b";
            kind = Some kind.IntSeq;
            compar = record { elem = pos 4; index = pos 5 };
            constant = None;
            constant_line = false;
            parents = record { edge = 1; name = codes "b b" } ∷ [];
          }
          ∷ [];
    })
unfolding block_decl ppt_of point_name ppt_lines head_line parent_line is_point_type id_of is_variable open_var var_line with_var var_decl_of counterparts
    rep_type_of constant_at compar_of bracket_parts numbers_of index_number index_of integer_of whole_of natural_of begins operand operands pieces unescaped
child = refl

-- a variable without a rep-type is judged when it ends, and in front of the `variable` line that ends it
no_rep_type : block_decl true (first (codes "ppt P")) (numbered 2 (codes "variable x" ∷ codes "constant a" ∷ codes "variable" ∷ [])) (Some 5) ≡ refused BadVariable 2
unfolding block_decl ppt_of point_name ppt_lines is_variable open_var var_line with_var var_decl_of begins operand unescaped
no_rep_type = refl

-- where the block is cut off it is not judged, and does not stand in the declaration
cut_off : block_decl true (first (codes "ppt P")) (numbered 2 (codes "variable x" ∷ codes "constant a" ∷ [])) None
    ≡ Ok (record { name = codes "P"; edges = []; vars = [] })
unfolding block_decl ppt_of point_name ppt_lines is_variable open_var var_line with_var begins operand unescaped
cut_off = refl

-- a constant is judged with the last rep-type, at its own line
bad_constant : block_decl true (first (codes "ppt P")) (numbered 2 (codes "variable x" ∷ codes "rep-type String" ∷ codes "constant 5" ∷ codes "rep-type boolean" ∷ [])) (Some 6)
    ≡ refused BadVariable 4
unfolding block_decl ppt_of point_name ppt_lines is_variable open_var var_line with_var var_decl_of rep_type_of constant_at constant_of begins operand unescaped
    bool_item
bad_constant = refl

-- two variables by position, the second with a constant
declared : block_decl true (first (codes "DECLARE")) (numbered 2 (codes "Q" ∷ codes "x" ∷ codes "int" ∷ codes "int" ∷ codes "1" ∷ codes "y" ∷ codes "int" ∷ codes "int = 4" ∷ codes "1" ∷ [])) (Some 11)
    ≡ Ok (record {
      name = codes "Q";
      edges = [];
      vars = record { name = codes "x"; kind = Some kind.Int; compar = record { elem = pos 1; index = negsuc 0 }; constant = None; constant_line = false; parents = [] }
          ∷ record { name = codes "y"; kind = Some kind.Int; compar = record { elem = pos 1; index = negsuc 0 }; constant = Some (value.Int (pos 4)); constant_line = true; parents = [] }
          ∷ [];
    })
unfolding block_decl declare_lines new_name representation constant_text comparability constant_at constant_of rep_type_of compar_of bracket_parts numbers_of index_number
    integer_of int_item whole_of begins operand unescaped
declared = refl

-- a variable whose four lines are not all there
three_lines : block_decl true (first (codes "DECLARE")) (numbered 2 (codes "Q" ∷ codes "# x" ∷ codes "int" ∷ codes "int" ∷ [])) (Some 6) ≡ refused BadVariable 3
unfolding block_decl declare_lines new_name representation constant_text constant_at rep_type_of begins operand unescaped
three_lines = refl

no_name : block_decl true (first (codes "DECLARE")) [] (Some 2) ≡ refused BadPoint 1
unfolding block_decl declare_lines
no_name = refl

-- the line behind `VarComparability` is its word, whatever it says
awaited : header_line (record first_header { awaits_word = true }) (codes "decl-version 2.0") ≡ Some (Err BadHeader)
unfolding header_line comparability_word
awaited = refl

whole_rest : header_line first_header (codes "decl-version 2.0 x") ≡ Some (Err BadHeader)
unfolding header_line begins operand
whole_rest = refl
