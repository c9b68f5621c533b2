-- The text of a trace, block by block.
use Rattle.std.specs.Prelude.{ℕ, List, [], ◌∷◌, ◌++◌, codes, flat_map}
use Rattle.dk_decl.specs.declared.decls.PointDecl.{PointDecl}
use Rattle.dk_lines.specs.Passing.{joined}
use Rattle.dk_write.specs.Declarations.{declaration_lines}
use Rattle.dk_write.specs.Records.{Recorded, record_lines}

-- what is written at once: the header lines with which a trace begins, a declaration, or a record
pub data Write : Type 0 where
  Begins : Write
  Declares : (decl : PointDecl) → Write
  Records : (recorded : Recorded) → Write

-- the form of declarations, and that comparabilities are read
abbrev pub header_lines : List (List ℕ)
header_lines = codes "decl-version 2.0" ∷ codes "var-comparability implicit" ∷ []

abbrev pub block_lines : Write → List (List ℕ)
block_lines Begins = header_lines
block_lines (Declares d) = declaration_lines d
block_lines (Records r) = record_lines r

-- its lines, each with its LF (10), and a blank line behind them
unfoldable pub block_text : Write → List ℕ
block_text w = joined (block_lines w) ++ 10 ∷ []

abbrev pub trace_text : List Write → List ℕ
trace_text ws = flat_map block_text ws
