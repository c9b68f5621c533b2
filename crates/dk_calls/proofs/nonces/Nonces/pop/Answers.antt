use Rattle.std.proofs.Common.{◌∙◌, ℕ, ℤ, None, refl, sym}
use Rattle.indexmap.specs.IndexMap.{get}
use Rattle.dk_calls.specs.Nonces.{same_key, values_under}
use Rattle.dk_calls.proofs.Noncing.{kept}
use Rattle.dk_calls.proofs.nonces.Nonces.pop.Goals as goal

pub returns-then-pop_of : goal.returns-then-pop_of
unfolding values_under
returns-then-pop_of c = λ (q : ℕ) (m : ℤ).
    kept (get same_key c.pop_of.new.self.table) (get same_key c.swap_remove.new.self) c.args.key None c.swap_remove.ensures.updates.0 (sym (c.if-pop_of.ensures.none refl)) (q, m)
    ∙ c.pop_of.ensures.held q m
