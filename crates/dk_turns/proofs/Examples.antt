-- Small files in turns, byte by byte.
use Rattle.std.proofs.Common.{◌≡◌, [], ◌∷◌, refl, codes, ℕ, List}
use Rattle.dk_decl.specs.Comments.{is_comment}
use Rattle.dk_decl.specs.Headers.{comparability_word, header_line}
use Rattle.dk_decl.specs.LineWords.{begins, operand}
use Rattle.dk_blocks.specs.History.{is_declaration, is_list_of_implementors}
use Rattle.dk_turns.specs.Turns.{turns_of}

-- ---- two recorders, each with a declaration and two records with nonces
abbrev one : List ℕ
one = codes "ppt P\nvariable x\nrep-type int\n\nP\nthis_invocation_nonce\n1\nx\n10\n1\n\nP\nthis_invocation_nonce\n2\nx\n11\n1\n"

abbrev other : List ℕ
other = codes "ppt P\nvariable x\nrep-type int\n\nP\nthis_invocation_nonce\n3\nx\n20\n1\n\nP\nthis_invocation_nonce\n4\nx\n21\n1\n"

one_by_one : turns_of 1 (one ∷ other ∷ [])
    ≡ codes "ppt P\nvariable x\nrep-type int\n\nppt P\nvariable x\nrep-type int\n\nP\nthis_invocation_nonce\n1\nx\n10\n1\n\nP\nthis_invocation_nonce\n3\nx\n20\n1\n\nP\nthis_invocation_nonce\n2\nx\n11\n1\n\nP\nthis_invocation_nonce\n4\nx\n21\n1\n"
unfolding turns_of header_line begins is_comment is_declaration is_list_of_implementors
one_by_one = refl

two_by_two : turns_of 2 (one ∷ other ∷ [])
    ≡ codes "ppt P\nvariable x\nrep-type int\n\nppt P\nvariable x\nrep-type int\n\nP\nthis_invocation_nonce\n1\nx\n10\n1\n\nP\nthis_invocation_nonce\n2\nx\n11\n1\n\nP\nthis_invocation_nonce\n3\nx\n20\n1\n\nP\nthis_invocation_nonce\n4\nx\n21\n1\n"
unfolding turns_of header_line begins is_comment is_declaration is_list_of_implementors
two_by_two = refl

-- ---- what is kept of blocks

-- blank lines at both ends, comments in front of records and alone, header lines, a comment between them, and one in a record
kept_lines : turns_of 1 (codes "\n \t\n# a\n  decl-version 2.0 \r\n// b\n\tppt P \nvariable x\n# kept\nrep-type int\n\n\n# only\n// comments\n \nVarComparability\n# c\nnone\nP\nx\n1\n1\n\n\n" ∷ [])
    ≡ codes "decl-version 2.0\nppt P\nvariable x\n# kept\nrep-type int\n\nVarComparability\nnone\nP\nx\n1\n1\n"
unfolding turns_of header_line comparability_word begins operand is_comment is_declaration is_list_of_implementors
kept_lines = refl

-- a header line that is refused is one all the same, and behind a word that is refused no other is awaited
refused_headers : turns_of 1 (codes "decl-version 3\nP\n\nVarComparability\nppt\nQ\n#x" ∷ []) ≡ codes "decl-version 3\nP\n\nVarComparability\nppt\nQ\n#x\n"
unfolding turns_of header_line comparability_word begins operand is_comment is_declaration is_list_of_implementors
refused_headers = refl

-- lists of implementors and header lines alone have no sample; a longer line is the name of a point
without_samples : turns_of 1 (codes "pptx\n\nListImplementors\nA\n\nDECLARE x\n\nDECLARE\nQ\n\ninput-language C\n" ∷ [])
    ≡ codes "ListImplementors\nA\n\nDECLARE\nQ\n\ninput-language C\n\npptx\n\nDECLARE x\n"
unfolding turns_of header_line begins operand is_comment is_declaration is_list_of_implementors
without_samples = refl

-- ---- files

-- an empty file, one of blank lines and comments alone, and one without samples
few_blocks : turns_of 3 ([] ∷ codes "\n#\n\n" ∷ codes "ppt P" ∷ []) ≡ codes "ppt P\n"
unfolding turns_of header_line begins is_comment is_declaration is_list_of_implementors
few_blocks = refl

no_files : turns_of 1 [] ≡ []
unfolding turns_of
no_files = refl

-- the last line needs no LF; a file that is over is passed over
open_lines : turns_of 1 (codes "A\nx" ∷ codes "B" ∷ codes "C\n\nD\n\nE" ∷ []) ≡ codes "A\nx\n\nB\n\nC\n\nD\n\nE\n"
unfolding turns_of header_line begins is_comment is_declaration is_list_of_implementors
open_lines = refl
