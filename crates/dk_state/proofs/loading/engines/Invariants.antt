use Rattle.std.proofs.Common.{◌≡◌, ℕ, List, Option, Some, drop, length}
use Rattle.std.specs.Prelude.{slice_get}
use Rattle.dk_engine.specs.Reading.Levels.{Whole}
use Rattle.dk_engine.specs.declared.saved.parts.Parts.{Parts}
use Rattle.dk_hierarchy.proofs.TableEngines.{AreFirst}
use Rattle.dk_state.specs.Loading.{AreSaved, IsLoadedAs, saved_blocks}
use Rattle.dk_state.specs.Spelling.{IsSavedAt}
use Rattle.dk_state.proofs.loading.engines.Given as goal

abbrev pub invariant-loop-p : goal.invariant-loop-p
invariant-loop-p l = record {
  first : AreFirst l.points l.grammar l.engines;
  long : length l.engines ≡ l.p;
  saved : AreSaved l.grammar l.points l.engines;
  read : (saved : List (Option Parts)) → length saved ≡ length l.points → ((p : ℕ) (own : Option Parts) → slice_get saved p ≡ Some own → IsSavedAt l.grammar l.points p own)
      → l.fn.front ≡ saved_blocks 0 saved
      → (l.front ≡ saved_blocks l.p (drop l.p saved)) × ((p : ℕ) (own : Option Parts) (engine : Whole) → slice_get saved p ≡ Some own → slice_get l.engines p ≡ Some engine → IsLoadedAs l.grammar l.points p own engine);
}
