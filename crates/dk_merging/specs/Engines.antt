-- The engine of a point in two states.
use Rattle.std.specs.Prelude.{◌≡◌, ◌<◌, ◌≤◌, ◌+◌, ◌++◌, ◌^◌, Any, List, length}
use Rattle.std.specs.List.{AllZip, zip}
use Rattle.dk_base.specs.declared.values.Value.{Value}
use Rattle.dk_engine.specs.Exact.{IsKeptOf}
use Rattle.dk_engine.specs.Reading.Levels.{Whole}
use Rattle.dk_engine.specs.Saved.{AreSavedParts, parts_of}
use Rattle.dk_engine.specs.Saved.Conditions.{CanBeFed}
use Rattle.dk_engine.specs.declared.saved.parts.Parts.{Parts}
use Rattle.dk_join.specs.Joined.{AreJoinedParts}
use Rattle.dk_join.specs.Joining.{AreAlike}
use Rattle.dk_join.specs.Laws.{AreKeptOf}
use Rattle.dk_presence.specs.Patterns.{AreHeld}

-- what each engine keeps meets the conditions of every engine
pub record IsSound (engine : Whole) : Type 0 where
  pub fed : CanBeFed engine.grammar engine.infos engine.kept
  pub held : AreHeld engine.kept.held

-- It keeps the join of both, which can be saved.
pub record IsJoinOfBoth (one other both : Whole) : Type 0 where
  pub parts : AreJoinedParts one.grammar one.infos one.kept other.kept (parts_of both.kept)
  pub saved : AreSavedParts one.grammar one.infos (parts_of both.kept)

-- The engine of both: the one that alone has samples, or the join. It stands for the samples of both, wherever the two stand for samples.
pub record IsEngineOfBoth (one other both : Whole) : Type 0 where
  pub first_sound : IsSound one
  pub second_sound : IsSound other
  pub grammar : both.grammar ≡ one.grammar
  pub infos : both.infos ≡ one.infos
  pub first_alone : other.kept.samples ≡ 0 → both ≡ one
  pub second_alone : one.kept.samples ≡ 0 → 0 < other.kept.samples → both ≡ other
  pub joined : 0 < one.kept.samples → 0 < other.kept.samples → IsJoinOfBoth one other both
  pub stands : (samples others : List (List Value)) → AreKeptOf one.grammar one.infos samples others one.kept other.kept
      → IsKeptOf one.grammar one.infos (samples ++ others) both.kept

-- Both have samples, and their join can't be saved. They don't stand for lists of at most 2^40 samples together.
pub record HaveNoJoin (one other : Whole) : Type 0 where
  pub first_sound : IsSound one
  pub second_sound : IsSound other
  pub first_some : 0 < one.kept.samples
  pub second_some : 0 < other.kept.samples
  pub none : (parts : Parts) → AreJoinedParts one.grammar one.infos one.kept other.kept parts
      → AreSavedParts one.grammar one.infos parts → ⊥
  pub many : (samples others : List (List Value)) → AreKeptOf one.grammar one.infos samples others one.kept other.kept
      → length samples + length others ≤ 2 ^ 40 → ⊥

-- ---- all points, in their order
-- the engines of each point are over the same variables and rows
abbrev pub AreAllAlike : List Whole → List Whole → Type 0
AreAllAlike ones others = AllZip (λ one other. AreAlike (record { first = one; second = other })) ones others

abbrev pub AreEnginesOfBoth : List Whole → List Whole → List Whole → Type 0
AreEnginesOfBoth ones others both = AllZip (λ (pair : Whole × Whole) engine. IsEngineOfBoth pair.0 pair.1 engine) (zip ones others) both

-- at some point the two have no join
abbrev pub HaveNoJoinSomewhere : List Whole → List Whole → Type 0
HaveNoJoinSomewhere ones others = Any (λ (pair : Whole × Whole). HaveNoJoin pair.0 pair.1) (zip ones others)
