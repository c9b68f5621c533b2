use Rattle.std.specs.Prelude.{◌<◌, ℕ, IsTrue, List}
use Rattle.std.proofs.Common.{get_or}
use Rattle.dk_base.specs.Values.Items.{is_text}
use Rattle.dk_engine.proofs.saved.conditions.are_strings.Given as goal

abbrev pub invariant-loop-text : goal.invariant-loop-text
invariant-loop-text l = (k : ℕ) (d : List ℕ) → k < l.text-index → IsTrue (is_text (get_or l.texts k d))
