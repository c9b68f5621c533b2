-- What stands in front of a block's record: comments, which are left out, and header lines.
use Rattle.std.specs.Prelude.{ℕ, List, [], ◌∷◌, Option, Some, None, Result, Ok, Err, if◌then◌else◌}
use Rattle.dk_base.specs.Reading.{Line, LineFault}
use Rattle.dk_base.specs.declared.why.Why.{Why}
pub use Rattle.dk_decl.specs.Comments.{is_comment}
use Rattle.dk_decl.specs.Headers.{header_line}
use Rattle.dk_decl.specs.Outcomes.{refused}
use Rattle.dk_decl.specs.declared.header.Header.{Header}

-- the header behind the header lines, the number of the last of them, if there is one, and the lines of the record
pub record Front : Type 0 where
  pub header : Header
  pub last : Option ℕ
  pub lines : List Line

-- the line is the record's first, is a header line behind which reading goes on, or is a header line that is refused
abbrev pub at_header_line : Option (Result Header Why) → ℕ → Front → (Header → Result Front LineFault) → Result Front LineFault
at_header_line None number front more = Ok front
at_header_line (Some (Err why)) number front more = refused why number
at_header_line (Some (Ok header)) number front more = more header

-- what stands in front of the record of these lines, or the first header line that is refused
abbrev pub block_front : Header → Option ℕ → List Line → Result Front LineFault
block_front header last [] = Ok (record { header = header; last = last; lines = [] })
block_front header last (l ∷ ls) =
    if is_comment l.bytes then block_front header last ls
    else at_header_line (header_line header l.bytes) l.number (record { header = header; last = last; lines = l ∷ ls })
    (λ next. block_front next (Some l.number) ls)
