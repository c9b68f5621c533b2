-- The groups of lines are the longest runs of lines that aren't blank.
use Rattle.std.specs.Prelude.{◌≡◌, false, true, All, List, map}
use Rattle.dk_base.specs.Reading.{Line}
use Rattle.dk_lines.specs.Left.{Left, Ends, Next}
use Rattle.dk_lines.specs.Passing.{in_front}
use Rattle.dk_blocks.specs.Blocks.{Groups, Group, Last, groups_of, is_blank_line, trimmed_line}

-- Lines none of which is blank stand in front of what is left; each is taken without the blanks and tabs at its two ends.
pub record IsRun (run : List Line) (left rest : Left) : Type 0 where
  pub lines : List Line
  pub none_blank : All (λ l. is_blank_line l ≡ false) lines
  pub are_taken : run ≡ map trimmed_line lines
  pub stand : left ≡ in_front lines rest

-- The groups are the runs of what is left, one behind the other: each ends at a blank line, the last one where the lines end.
abbrev pub AreRuns : Groups → Left → Type 0
AreRuns (Group ls close more) left =
    (blank : Line)
    × ((rest : Left) × (is_blank_line blank ≡ true) × (blank.number ≡ close) × IsRun ls left (Next blank rest) × AreRuns more rest)
AreRuns (Last ls end) left = IsRun ls left (Ends end)

abbrev pub GroupsAreLongestRuns : Type 0
GroupsAreLongestRuns = (left : Left) → AreRuns (groups_of left) left
