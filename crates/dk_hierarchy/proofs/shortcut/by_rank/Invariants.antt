use Rattle.std.specs.Prelude.{◌<◌, ℕ, All, length}
use Rattle.dk_hierarchy.proofs.shortcut.by_rank.Given as goal

abbrev pub invariant-loop-p : goal.invariant-loop-p
invariant-loop-p l = All (λ (at : ℕ × ℕ). at.1 < length l.ranks) l.order.items
