use Rattle.std.specs.Prelude.{◌<◌, ℕ, length}
use Rattle.std.proofs.lemmas.List.Sorted.{All-permutation}
use Rattle.dk_hierarchy.proofs.shortcut.by_rank.Goals as goal

pub returns : goal.returns
returns c =
    All-permutation (λ (at : ℕ × ℕ). at.1 < length c.args.ranks.now) c.loop-p.order.items c.sort.new.self.items c.sort.ensures.permutation c.loop-p.invariant
