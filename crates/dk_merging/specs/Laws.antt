-- State files merged in any order and in any groups, and however they are read.
use Rattle.std.specs.Prelude.{◌≡◌, ◌≢◌, ℕ, Bool, List, [], Result, Err, map, slice_index_or}
use Rattle.std.specs.List.Sorted.{IsPermutation}
use Rattle.dk_engine.specs.Reading.Levels.{Whole}
use Rattle.dk_hierarchy.specs.Samples.{OwnSamples}
use Rattle.dk_points.specs.Table.{Point}
use Rattle.dk_state.specs.Spelling.{saved_parts}
use Rattle.dk_state.specs.StateFile.{state_file_of}
use Rattle.dk_template.specs.declared.grammar.Grammar.{Grammar}
use Rattle.dk_merging.specs.Merging.{AnswersMerge, CanBeMerged, Head, Says, file_of_both, own_of_both}
use Rattle.dk_merging.specs.declared.merging.MergeFault.{MergeFault}
use Rattle.dk_merging.specs.declared.merging.MergeFault.TheVariants.{NoMemory}

-- what `merge_two` makes of two files: of state files of histories the one of both
abbrev pub IsFileOfBoth : List ℕ → List ℕ → List ℕ → Type 0
IsFileOfBoth first second text =
    (g : Grammar) (ps : List Point) (implicit : Bool) (own others : OwnSamples) → CanBeMerged g ps own others
    → state_file_of g ps implicit own ≡ first → state_file_of g ps implicit others ≡ second
    → text ≡ file_of_both g ps implicit own others

-- how several files are merged: one alone, which is that of a history, or two groups, and the file that is made of them
pub data Merges : Type 0 where
  Alone : (own : OwnSamples) → (file : List ℕ) → Merges
  Together : (first : Merges) → (second : Merges) → (file : List ℕ) → Merges

abbrev pub file_by : Merges → List ℕ
file_by (Alone own file) = file
file_by (Together first second file) = file

-- the samples of all
abbrev pub own_by : Merges → OwnSamples
own_by (Alone own file) = own
own_by (Together first second file) = own_of_both (own_by first) (own_by second)

abbrev pub AreMerges : Grammar → List Point → Bool → Merges → Type 0
AreMerges g ps implicit (Alone own file) = state_file_of g ps implicit own ≡ file
AreMerges g ps implicit (Together first second file) =
    AreMerges g ps implicit first × AreMerges g ps implicit second × CanBeMerged g ps (own_by first) (own_by second)
    × IsFileOfBoth (file_by first) (file_by second) file

-- what is merged is the state file of the history with the samples of all
abbrev pub MergesAreStateFiles : Type 0
MergesAreStateFiles =
    (g : Grammar) (ps : List Point) (implicit : Bool) (merges : Merges) → AreMerges g ps implicit merges
    → file_by merges ≡ state_file_of g ps implicit (own_by merges)

-- the same samples of each point, merged in any order and in any groups, give the same bytes
abbrev pub OrderOfMergesDoesNotMatter : Type 0
OrderOfMergesDoesNotMatter =
    (g : Grammar) (ps : List Point) (implicit : Bool) (merges others : Merges) → AreMerges g ps implicit merges
    → AreMerges g ps implicit others
    → ((p : ℕ) → IsPermutation (slice_index_or (own_by merges) p []) (slice_index_or (own_by others) p []))
    → file_by merges ≡ file_by others

-- two histories in either order, and three in either grouping, give the same bytes
abbrev pub EitherOrderIsSame : Type 0
EitherOrderIsSame =
    (g : Grammar) (ps : List Point) (implicit : Bool) (own others : OwnSamples)
    → file_of_both g ps implicit own others ≡ file_of_both g ps implicit others own

abbrev pub EitherGroupingIsSame : Type 0
EitherGroupingIsSame =
    (g : Grammar) (ps : List Point) (implicit : Bool) (own others more : OwnSamples)
    → file_of_both g ps implicit (own_of_both own others) more ≡ file_of_both g ps implicit own (own_of_both others more)

-- ---- all readings of state files
-- engines of which these bytes are what is saved: what they declare is the same, and so is what is saved of each point
abbrev pub ReadingsSaveTheSame : Type 0
ReadingsSaveTheSame =
    (bytes : List ℕ) (head other : Head) (ones others : List Whole) → Says head ones bytes → Says other others bytes
    → (other ≡ head) × (map (λ e. saved_parts e.kept) ones ≡ map (λ e. saved_parts e.kept) others)

-- Two files have one answer, but that memory may run out: however they are read, they make one text, or none for one cause.
abbrev pub AnswersAreDetermined : Type 0
AnswersAreDetermined =
    (first second : List ℕ) (answer other : Result (List ℕ) MergeFault) → answer ≢ Err NoMemory → other ≢ Err NoMemory
    → AnswersMerge first second answer → AnswersMerge first second other → answer ≡ other
