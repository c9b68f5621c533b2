-- The blocks of a file: groups of lines between the blank ones.
use Rattle.std.specs.Prelude.{ℕ, Bool, List, [], ◌∷◌, if◌then◌else◌}
use Rattle.dk_base.specs.Reading.{Line}
use Rattle.dk_lines.specs.Left.{End, Left, Ends, Next}
use Rattle.dk_base.specs.Words.{trim_blanks}
use Rattle.dk_base.specs.Pieces.{is_empty}

-- Lines that the blank line of this number ends, and what follows it; the last lines, and what ends them.
pub data Groups : Type 0 where
  Group : (lines : List Line) → (close : ℕ) → (rest : Groups) → Groups
  Last : (lines : List Line) → (end : End) → Groups

abbrev pub onto_group : Line → Groups → Groups
onto_group l (Group ls close rest) = Group (l ∷ ls) close rest
onto_group l (Last ls end) = Last (l ∷ ls) end

abbrev pub is_blank_line : Line → Bool
is_blank_line l = is_empty (trim_blanks l.bytes)

-- without the blanks at its two ends
abbrev pub trimmed_line : Line → Line
trimmed_line l = record l { bytes = trim_blanks l.bytes }

abbrev pub groups_of : Left → Groups
groups_of (Ends end) = Last [] end
groups_of (Next l rest) = if is_blank_line l then Group [] l.number (groups_of rest) else onto_group (trimmed_line l) (groups_of rest)
