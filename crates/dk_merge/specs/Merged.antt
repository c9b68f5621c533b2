-- What states come to that are merged from the left, and why a file is refused.
use Rattle.std.specs.Prelude.{◌≡◌, ◌≤◌, ◌<◌, ◌⊎◌, ◌++◌, ℕ, Bool, List, [], ◌∷◌, length, sum_by, Option, Some, None, Result, Ok, Err}
use Rattle.dk_base.specs.declared.why.Why.{Why}
use Rattle.dk_base.specs.declared.why.Why.TheVariants.{BadState, DifferentState, JoinedState, TooLong}
use Rattle.dk_hierarchy.specs.Samples.{OwnSamples}
use Rattle.dk_merging.specs.Merging.{AnswersMerge, CanBeMerged, GivesBoth, file_of_both}
use Rattle.dk_merging.specs.declared.merging.MergeFault.{MergeFault}
use Rattle.dk_merging.specs.declared.merging.MergeFault.TheVariants.{BadFirst, BadSecond, Different, Joined, NoMemory}
use Rattle.dk_points.specs.Table.{Point}
use Rattle.dk_state.specs.Spelling.{IsSpelling}
use Rattle.dk_state.specs.StateFile.{state_file_of}
use Rattle.dk_template.specs.declared.grammar.Grammar.{Grammar}

-- how many bytes the files of a run may have together: 2^30
abbrev pub whole_limit : ℕ
whole_limit = 1073741824

-- how many files of these contents have
abbrev pub bytes_in : List (List ℕ) → ℕ
bytes_in contents = sum_by length contents

-- the reasons for which a file is refused as a whole
abbrev pub IsReason : Why → Type 0
IsReason why = (why ≡ TooLong) ⊎ (why ≡ BadState) ⊎ (why ≡ DifferentState) ⊎ (why ≡ JoinedState)

-- ---- two states
-- what `merge_two` answers of two states: its answer says what it says, and of state files of histories it is that of both
pub record MergeAnswers (first second : List ℕ) (answer : Result (List ℕ) MergeFault) : Type 0 where
  pub says : AnswersMerge first second answer
  pub both : (g : Grammar) (ps : List Point) (implicit : Bool) (own others : OwnSamples) → CanBeMerged g ps own others
      → state_file_of g ps implicit own ≡ first → state_file_of g ps implicit others ≡ second
      → GivesBoth (file_of_both g ps implicit own others) answer

-- why the second is refused, if it is
abbrev pub refusal_by : MergeFault → Option Why
refusal_by BadFirst = None
refusal_by BadSecond = Some BadState
refusal_by Different = Some DifferentState
refusal_by Joined = Some JoinedState
refusal_by NoMemory = None

-- ---- a file behind others
-- This is the state behind one more file: the first file itself, if it is a state, and then that of both.
abbrev pub IsStateBehind : Option (List ℕ) → List ℕ → List ℕ → Type 0
IsStateBehind None file state = IsSpelling file × (state ≡ file)
IsStateBehind (Some before) file state = MergeAnswers before file (Ok state)

-- There is none, for this reason.
abbrev pub IsNoState : Option (List ℕ) → List ℕ → Why → Type 0
IsNoState None file why = (why ≡ BadState) × (IsSpelling file → ⊥)
IsNoState (Some before) file why = (fault : MergeFault) × (refusal_by fault ≡ Some why) × MergeAnswers before file (Err fault)

-- ---- files
-- from this state on, the files come to that one, merged from the left
abbrev pub MergesTo : Option (List ℕ) → List (List ℕ) → Option (List ℕ) → Type 0
MergesTo before [] after = after ≡ before
MergesTo before (file ∷ files) after = (state : List ℕ) × IsStateBehind before file state × MergesTo (Some state) files after

-- the files come to this state, merged from the left; no files come to none
abbrev pub AreMergedTo : List (List ℕ) → Option (List ℕ) → Type 0
AreMergedTo files state = MergesTo None files state

-- Without turns files are states, and with turns they are read later. None of these is refused so far.
abbrev pub AreTaken : Option ℕ → List (List ℕ) → Type 0
AreTaken None files = (bytes_in files ≤ whole_limit) × ((state : Option (List ℕ)) × AreMergedTo files state)
AreTaken (Some n) files = bytes_in files ≤ whole_limit

-- the state of these files and one more is none, for this reason; with turns there is no state
abbrev pub IsNoStateOf : Option ℕ → List (List ℕ) → List ℕ → Why → Type 0
IsNoStateOf None files file why = (before : Option (List ℕ)) × AreMergedTo files before × IsNoState before file why
IsNoStateOf (Some n) files file why = ⊥

-- Behind these files this one is refused: it has the first byte that is one too many, or else there is no state.
abbrev pub IsRefusedBehind : Option ℕ → List (List ℕ) → List ℕ → Why → Type 0
IsRefusedBehind turns files file why =
    ((why ≡ TooLong) × (whole_limit < bytes_in (files ++ file ∷ [])))
    ⊎ ((bytes_in (files ++ file ∷ []) ≤ whole_limit) × IsNoStateOf turns files file why)
