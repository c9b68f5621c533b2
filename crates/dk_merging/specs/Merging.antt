-- What two states say together.
use Rattle.std.specs.Prelude.{◌≡◌, ◌≢◌, ◌≤◌, ◌+◌, ◌++◌, ◌^◌, ℕ, All, Bool, List, [], Result, Ok, Err, length, map, max, slice_index_or}
use Rattle.std.specs.List.{range_with_len}
use Rattle.dk_engine.specs.Reading.Levels.{Whole}
use Rattle.dk_hierarchy.specs.Samples.{OwnSamples}
use Rattle.dk_hierarchy.specs.Standing.{AreEnginesOf}
use Rattle.dk_points.specs.Table.{Point}
use Rattle.dk_state.specs.Loading.{AreSaved}
use Rattle.dk_state.specs.Saved.{saved_text}
use Rattle.dk_state.specs.Spelling.{CanBeSaved, IsOwnTable, IsSpelling}
use Rattle.dk_state.specs.StateFile.{state_file_of}
use Rattle.dk_template.specs.declared.grammar.Grammar.{Grammar}
use Rattle.dk_merging.specs.Engines.{AreEnginesOfBoth, HaveNoJoinSomewhere}
use Rattle.dk_merging.specs.Fronts.{front_of}
use Rattle.dk_merging.specs.declared.merging.MergeFault.{MergeFault}
use Rattle.dk_merging.specs.declared.merging.MergeFault.TheVariants.{BadFirst, BadSecond, Different, Joined, NoMemory}

-- ---- what a state says
-- What stands in front of the engines: the grammar, the table of points, and whether the comparability word is `implicit`.
pub record Head : Type 0 where
  pub grammar : Grammar
  pub points : List Point
  pub implicit : Bool

-- The bytes are what is saved of these engines, which are those of the table's points. What each keeps can be saved, so that the bytes
-- are a spelling.
pub record Says (head : Head) (engines : List Whole) (bytes : List ℕ) : Type 0 where
  pub table : IsOwnTable head.points
  pub of_table : AreEnginesOf head.points engines
  pub of_grammar : All (λ engine. engine.grammar ≡ head.grammar) engines
  pub saved : AreSaved head.grammar head.points engines
  pub text : saved_text head.grammar head.points head.implicit (map (λ engine. engine.kept) engines) ≡ bytes

-- ---- what two states say together
-- spellings that have the same front
pub record AreAlikeStates (first second : List ℕ) : Type 0 where
  pub first_is : IsSpelling first
  pub second_is : IsSpelling second
  pub fronts : front_of second ≡ front_of first

-- The text says what both declare and, for each point, the engine of both. It is a spelling, too.
pub record IsMerged (first second text : List ℕ) : Type 0 where
  pub alike : AreAlikeStates first second
  pub head : Head
  pub ones : List Whole
  pub others : List Whole
  pub both : List Whole
  pub first_says : Says head ones first
  pub second_says : Says head others second
  pub each : AreEnginesOfBoth ones others both
  pub text_says : Says head both text
  pub spelling : IsSpelling text

-- At some point, at which both have samples, the join can't be saved.
pub record CannotBeJoined (first second : List ℕ) : Type 0 where
  pub alike : AreAlikeStates first second
  pub head : Head
  pub ones : List Whole
  pub others : List Whole
  pub first_says : Says head ones first
  pub second_says : Says head others second
  pub nowhere : HaveNoJoinSomewhere ones others

-- Each answer with what it says of the two. Want of memory alone is free.
abbrev pub AnswersMerge : List ℕ → List ℕ → Result (List ℕ) MergeFault → Type 0
AnswersMerge first second (Ok text) = IsMerged first second text
AnswersMerge first second (Err BadFirst) = IsSpelling first → ⊥
AnswersMerge first second (Err BadSecond) = IsSpelling first × (IsSpelling second → ⊥)
AnswersMerge first second (Err Different) = IsSpelling first × IsSpelling second × (front_of second ≢ front_of first)
AnswersMerge first second (Err Joined) = CannotBeJoined first second
AnswersMerge first second (Err NoMemory) = Unit {0}

-- ---- histories
-- the own samples of both, point by point
abbrev pub own_of_both : OwnSamples → OwnSamples → OwnSamples
own_of_both own others =
    map (λ p. slice_index_or own p [] ++ slice_index_or others p []) (range_with_len 0 (max (length own) (length others)))

-- Histories of one table, each of which can be saved, with at most 2^40 samples together at each point.
pub record CanBeMerged (g : Grammar) (ps : List Point) (own others : OwnSamples) : Type 0 where
  pub first : CanBeSaved g ps own
  pub second : CanBeSaved g ps others
  pub few : (p : ℕ) → length (slice_index_or own p []) + length (slice_index_or others p []) ≤ 2 ^ 40

-- the state file of both histories
abbrev pub file_of_both : Grammar → List Point → Bool → OwnSamples → OwnSamples → List ℕ
file_of_both g ps implicit own others = state_file_of g ps implicit (own_of_both own others)

-- the answer is the state file of both histories, or memory ran out
abbrev pub GivesBoth : List ℕ → Result (List ℕ) MergeFault → Type 0
GivesBoth both (Ok text) = text ≡ both
GivesBoth both (Err NoMemory) = Unit {0}
GivesBoth both (Err _) = ⊥
