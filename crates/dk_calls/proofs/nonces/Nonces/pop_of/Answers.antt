use Rattle.std.proofs.Common.{◌≡◌, ◌∙◌, ℕ, ℤ, List, Option, Some, ap, drop, length, reverse, rules, vec_len}
use Rattle.std.specs.Global.{Vec}
use Rattle.indexmap.specs.IndexMap.{get}
use Rattle.dk_base.specs.declared.values.Value.{Value}
use Rattle.dk_calls.specs.Nonces.{latest_first, same_key, values_under}
use Rattle.dk_calls.proofs.Noncing.{one_less, step}
use Rattle.dk_calls.proofs.nonces.Nonces.pop_of.Goals as goal

pub returns-in-Some-clause-held : goal.returns-in-Some-clause-held
unfolding values_under
returns-in-Some-clause-held c = λ (q : ℕ) (m : ℤ).
    let long : vec_len c.pop.new.self ≡ length c.pop.new.self.items = search rules in
    let less : reverse c.pop.new.self.items ≡ drop 1 (reverse c.in-Some.entries.now.items) =
    one_less c.in-Some.entries.now.items c.pop.new.self.items c.pop.result (vec_len c.in-Some.entries.now) (vec_len c.pop.new.self) c.pop.ensures.items c.pop.ensures.cases long in
    step (drop 1) (get same_key c.args.self.now.table) (get same_key (c.get_mut.follows.lender c.pop.new.self)) c.args.key (Some c.pop.new.self)
    ((c.get_mut.follows.holds c.pop.new.self).3 (search rules)).0
    (less ∙ ap (λ (o : Option (Vec (List Value))). drop 1 (latest_first o)) c.in-Some.ensures.value)
    (q, m)
