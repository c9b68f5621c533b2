-- States as they are loaded, and what is saved of them.
use Rattle.std.specs.Prelude.{◌≡◌, All, Bool, List, ℕ, Result, Ok, Err, map}
use Rattle.dk_hierarchy.specs.Samples.{OwnSamples}
use Rattle.dk_points.specs.Table.{Point}
use Rattle.dk_state.specs.Loading.{AreLoadedAs}
use Rattle.dk_state.specs.Saved.{saved_text}
use Rattle.dk_state.specs.Spelling.{CanBeSaved, IsSpelling, saved_parts}
use Rattle.dk_state.specs.StateFile.{StandForHistory, state_file_of}
use Rattle.dk_state.specs.declared.loading.Loaded.{Loaded}
use Rattle.dk_template.specs.declared.grammar.Grammar.{Grammar}
use Rattle.dk_merging.specs.Engines.{AreAllAlike, AreEnginesOfBoth, HaveNoJoinSomewhere, IsSound}
use Rattle.dk_merging.specs.Merging.{Head, Says}
use Rattle.dk_merging.specs.Numbers.{AreWithin}
use Rattle.dk_merging.specs.declared.merging.MergeFault.{MergeFault}
use Rattle.dk_merging.specs.declared.merging.MergeFault.TheVariants.{Joined, NoMemory}

-- ---- one state
abbrev pub head_of : Loaded → Head
head_of l = record { grammar = l.grammar; points = l.points; implicit = l.implicit }

-- the state that is loaded is this history's
pub record IsOfHistory (l : Loaded) (g : Grammar) (ps : List Point) (implicit : Bool) (own : OwnSamples) : Type 0 where
  pub grammar : l.grammar ≡ g
  pub points : l.points ≡ ps
  pub word : l.implicit ≡ implicit
  pub stand : StandForHistory g ps l.engines own

-- what is saved of it
abbrev pub text_of : Loaded → List ℕ
text_of l = saved_text l.grammar l.points l.implicit (map (λ engine. engine.kept) l.engines)

-- It says what these bytes say, of which it could have been loaded.
pub record IsLoadOf (bytes : List ℕ) (l : Loaded) : Type 0 where
  pub spelling : IsSpelling bytes
  pub says : Says (head_of l) l.engines bytes
  pub loaded : AreLoadedAs l.grammar l.points (map (λ engine. saved_parts engine.kept) l.engines) l.engines
  pub stands : (g : Grammar) (ps : List Point) (implicit : Bool) (own : OwnSamples)
      → CanBeSaved g ps own → state_file_of g ps implicit own ≡ bytes
      → IsOfHistory l g ps implicit own

-- this fault, for bytes that are no spelling, or want of memory
abbrev pub IsBadOr : List ℕ → MergeFault → MergeFault → Type 0
IsBadOr bytes bad NoMemory = Unit {0}
IsBadOr bytes bad fault = (fault ≡ bad) × (IsSpelling bytes → ⊥)

-- ---- two states
-- They declare the same, so that their engines are alike.
pub record AreOfOneHead (one other : Loaded) : Type 0 where
  pub same : head_of other ≡ head_of one
  pub alike : AreAllAlike one.engines other.engines

-- what both declare, with the engines of both
pub record IsOfBoth (one other both : Loaded) : Type 0 where
  pub head : head_of both ≡ head_of one
  pub each : AreEnginesOfBoth one.engines other.engines both.engines
  pub within : AreWithin both.engines
  pub sound : All IsSound both.engines

abbrev pub MakesBoth : Loaded → Loaded → Result Loaded MergeFault → Type 0
MakesBoth one other (Ok both) = IsOfBoth one other both
MakesBoth one other (Err Joined) = HaveNoJoinSomewhere one.engines other.engines
MakesBoth one other (Err NoMemory) = Unit {0}
MakesBoth one other (Err _) = ⊥

-- what is saved of an answer
abbrev pub texts_of : Result Loaded MergeFault → Result (List ℕ) MergeFault
texts_of (Ok l) = Ok (text_of l)
texts_of (Err fault) = Err fault
