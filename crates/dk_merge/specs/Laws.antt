-- State files merged in groups: what is asked of the files alone.
use Rattle.std.specs.Prelude.{◌≡◌, ◌≤◌, ◌^◌, ℕ, Bool, List, [], length, slice_index_or}
use Rattle.dk_merging.specs.Laws.{Alone, AreMerges, IsFileOfBoth, Merges, Together, file_by, own_by}
use Rattle.dk_points.specs.Table.{Point}
use Rattle.dk_state.specs.Spelling.{CanBeSaved}
use Rattle.dk_state.specs.StateFile.{state_file_of}
use Rattle.dk_template.specs.declared.grammar.Grammar.{Grammar}

-- Each file alone is the state file of a history that can be saved, and each group's file is what `merge_two` makes of two.
abbrev pub AreMergedInGroups : Grammar → List Point → Bool → Merges → Type 0
AreMergedInGroups g ps implicit (Alone own file) = CanBeSaved g ps own × (state_file_of g ps implicit own ≡ file)
AreMergedInGroups g ps implicit (Together first second file) =
    AreMergedInGroups g ps implicit first × AreMergedInGroups g ps implicit second × IsFileOfBoth (file_by first) (file_by second) file

-- Where each point has at most 2^40 samples in all, each group is one that can be merged, and the history with the samples of all can be
-- saved.
abbrev pub GroupsCanBeMerged : Type 0
GroupsCanBeMerged =
    (g : Grammar) (ps : List Point) (implicit : Bool) (merges : Merges) → AreMergedInGroups g ps implicit merges
    → ((p : ℕ) → length (slice_index_or (own_by merges) p []) ≤ 2 ^ 40)
    → AreMerges g ps implicit merges × CanBeSaved g ps (own_by merges)
