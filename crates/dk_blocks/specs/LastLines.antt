-- The last line of a file, where it is blank and no LF ends it.
use Rattle.std.specs.Prelude.{◌≡◌, ◌&&◌, not, ℕ, Bool, true, false, List, Option, Some, None}
use Rattle.std.specs.List.{last_or}
use Rattle.std.specs.Option.{option_map_or}
use Rattle.dk_base.specs.Pieces.{is_empty}
use Rattle.dk_base.specs.Reading.{Line}
use Rattle.dk_base.specs.Words.{trim_blanks}
use Rattle.dk_lines.specs.Left.{Left, Piece, Over, Ends, Next, lines_left, pieces, without_cr}
use Rattle.dk_lines.specs.Reading.{Reading}
use Rattle.dk_blocks.specs.Blocks.{is_blank_line}

-- whether no LF ends this piece, and its line is blank
abbrev pub is_open_blank : Piece → Bool
is_open_blank p = not p.has_lf && is_empty (trim_blanks (without_cr p.bytes))

-- whether the bytes end in a blank line without LF
abbrev pub ends_in_blank_line : List ℕ → Bool
ends_in_blank_line bytes = option_map_or is_open_blank (last_or None (pieces bytes)) false

-- the file ends behind this line, which is blank
abbrev pub IsLastAndBlank : Line → Left → Type 0
IsLastAndBlank l (Ends (Over n)) = is_blank_line l ≡ true
IsLastAndBlank l rest = ⊥

-- The lines of an ended file and those of the same bytes, cut off there: the latter lack the last line alone, and that is blank.
abbrev pub LackBlank : Left → Left → Type 0
LackBlank (Next l rest) (Next m more) = LackBlank rest more
LackBlank (Next l rest) (Ends end) = IsLastAndBlank l rest
LackBlank (Ends end) cut = ⊥

-- The lines that are left end in a blank one, and only the file's end ends that.
abbrev pub LeavesBlank : Reading → List ℕ → Type 0
LeavesBlank r xs = LackBlank (lines_left r true xs) (lines_left r false xs)
