-- What reading a state file answers, against what the file says.
use Rattle.std.specs.Prelude.{◌≡◌, ℕ, List, [], ◌++◌, codes, flat_map, length, slice_get, Option, Some, None, Result, Ok, Err}
use Rattle.std.specs.List.{enumerate_from}
use Rattle.dk_base.specs.declared.values.Value.{Value}
use Rattle.dk_engine.specs.Exact.{AreOfPoint, AreSamples, IsKeptOf}
use Rattle.dk_engine.specs.Reading.Levels.{Whole}
use Rattle.dk_engine.specs.Saved.{parts_of}
use Rattle.dk_engine.specs.declared.kept.Kept.{Kept}
use Rattle.dk_engine.specs.declared.saved.parts.Parts.{Parts}
use Rattle.dk_hierarchy.specs.Samples.{all_vars_of}
use Rattle.dk_points.specs.Table.{Point}
use Rattle.dk_template.specs.declared.grammar.Grammar.{Grammar}
use Rattle.dk_state.specs.Spelling.{Content, IsSavedAt, saved_lines, saved_parts}
use Rattle.dk_state.specs.declared.loading.Loaded.{Loaded}
use Rattle.dk_state.specs.declared.loading.LoadFault.{LoadFault}
use Rattle.dk_state.specs.declared.loading.LoadFault.TheVariants.{BadState, NoMemory}

-- the answer is one of these, or memory ran out
abbrev pub Loads : {X : Type 0} → Result X LoadFault → (X → Type 0) → Type 0
Loads (Ok x) P = P x
Loads (Err NoMemory) P = Unit {0}
Loads (Err BadState) P = ⊥

-- what is saved of the points from this place on, and the last line
abbrev pub saved_blocks : ℕ → List (Option Parts) → List ℕ
saved_blocks p saved = flat_map saved_lines (enumerate_from p saved) ++ codes "end-state\n"

-- an engine of the point at a place of the table
abbrev pub IsEngineAt : List Point → Grammar → ℕ → Whole → Type 0
IsEngineAt ps g p engine = (engine.infos ≡ all_vars_of ps p) × AreOfPoint engine.infos × (engine.grammar ≡ g)

-- the engine is as new, or has the parts that are saved; and it keeps what is kept of any samples that give these parts
abbrev pub IsLoadedAs : Grammar → List Point → ℕ → Option Parts → Whole → Type 0
IsLoadedAs g ps p None engine = IsKeptOf g (all_vars_of ps p) [] engine.kept
IsLoadedAs g ps p (Some parts) engine = (parts_of engine.kept ≡ parts)
    × ((samples : List (List Value)) (kept : Kept) → AreSamples (all_vars_of ps p) samples → IsKeptOf g (all_vars_of ps p) samples kept
    → parts_of kept ≡ parts
    → IsKeptOf g (all_vars_of ps p) samples engine.kept)

-- engines of what is saved for each point
pub record AreLoadedAs (g : Grammar) (ps : List Point) (saved : List (Option Parts)) (engines : List Whole) : Type 0 where
  pub long : length engines ≡ length saved
  pub each : (p : ℕ) (own : Option Parts) (engine : Whole) → slice_get saved p ≡ Some own → slice_get engines p ≡ Some engine
      → IsLoadedAs g ps p own engine

-- what is saved of each engine meets the conditions
abbrev pub AreSaved : Grammar → List Point → List Whole → Type 0
AreSaved g ps engines = (p : ℕ) (engine : Whole) → slice_get engines p ≡ Some engine → IsSavedAt g ps p (saved_parts engine.kept)

-- what a file of this content says
abbrev pub IsLoaded : Content → Loaded → Type 0
IsLoaded c l =
    (l.grammar ≡ c.grammar) × (l.points ≡ c.points) × (l.implicit ≡ c.implicit) × AreLoadedAs c.grammar c.points c.saved l.engines
