use Rattle.std.specs.Prelude.{◌≡◌, List, ℕ, map, take}
use Rattle.std.specs.Borrow.{Bor}
use Rattle.dk_engine.proofs.over.lending.laid_out.Given as goal

abbrev pub invariant-loop-text : goal.invariant-loop-text
invariant-loop-text l = map (λ (t : Bor (List ℕ)). t.now) l.texts.items ≡ take l.text-index l.text-items
