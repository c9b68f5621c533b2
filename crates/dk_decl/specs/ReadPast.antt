-- Lines of a `ppt` block that have no effect.
use Rattle.std.specs.Prelude.{◌≡◌, ◌||◌, ℕ, Bool, not, List, codes, filter, Option}
use Rattle.dk_base.specs.Reading.{Line}
use Rattle.dk_decl.specs.Comments.{is_comment}
use Rattle.dk_decl.specs.LineWords.{begins}
use Rattle.dk_decl.specs.PptBlock.{ppt_of}

-- a line whose first word is one of the format's
abbrev pub is_read : Line → Bool
is_read l = begins (codes "variable") l.bytes || begins (codes "ppt-type") l.bytes || begins (codes "parent") l.bytes
    || begins (codes "rep-type") l.bytes || begins (codes "comparability") l.bytes || begins (codes "constant") l.bytes

-- behind the first line of a `ppt` block, lines with other first words change nothing
abbrev pub OtherLinesAreReadPast : Type 0
OtherLinesAreReadPast = (implicit : Bool) (first : Line) (ls : List Line) (close : Option ℕ)
    → ppt_of implicit first (filter is_read ls) close ≡ ppt_of implicit first ls close

-- and so do lines that in front of the block would be comments
abbrev pub CommentsAreReadPast : Type 0
CommentsAreReadPast = (implicit : Bool) (first : Line) (ls : List Line) (close : Option ℕ)
    → ppt_of implicit first (filter (λ l. not (is_comment l.bytes)) ls) close ≡ ppt_of implicit first ls close
