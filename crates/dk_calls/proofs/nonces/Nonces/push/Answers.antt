use Rattle.std.proofs.Common.{◌≡◌, ◌∙◌, [], ◌∷◌, ℕ, ℤ, List, Option, Some, Result, Ok, Err, OnErr, ap, reverse, rules, sym, if◌then◌else◌}
use Rattle.std.specs.Global.{Vec}
use Rattle.indexmap.specs.IndexMap.{get}
use Rattle.dk_base.specs.declared.values.Value.{Value}
use Rattle.dk_calls.specs.Nonces.{latest_first, same_key, values_under}
use Rattle.dk_calls.proofs.Noncing.{kept, one_more, step}
use Rattle.dk_calls.proofs.nonces.Nonces.push.Goals as goal

on_err : {T E P : Type 0} (r : Result T E) → P → OnErr r P
on_err (Ok x) p = tt
on_err (Err e) p = p

pub returns-in_err-push-clause-err : goal.returns-in_err-push-clause-err
unfolding values_under
returns-in_err-push-clause-err c = on_err c.from_residual.result (λ (q : ℕ) (m : ℤ).
    kept (get same_key c.args.self.now.table) (get same_key (c.get_mut.follows.lender c.push.new.self)) c.args.key (Some c.push.new.self)
    ((c.get_mut.follows.holds c.push.new.self).3 (search rules)).0
    (ap reverse c.in_err-push.ensures.items ∙ ap (λ (o : Option (Vec (List Value))). latest_first o) c.in-Some.ensures.value) (q, m))

pub returns-in-Some-clause-ok : goal.returns-in-Some-clause-ok
unfolding values_under
returns-in-Some-clause-ok c = λ (q : ℕ) (m : ℤ).
    step (λ (xs : List (List Value)). c.args.values ∷ xs) (get same_key c.args.self.now.table) (get same_key (c.get_mut.follows.lender c.push.new.self)) c.args.key (Some c.push.new.self)
    ((c.get_mut.follows.holds c.push.new.self).3 (search rules)).0
    (one_more c.in-Some.entries.now.items c.push.new.self.items c.args.values c.in_ok-push.ensures.items
    ∙ ap (λ (o : Option (Vec (List Value))). c.args.values ∷ latest_first o) c.in-Some.ensures.value) (q, m)

pub returns-in-Ok-clause-ok : goal.returns-in-Ok-clause-ok
unfolding values_under
returns-in-Ok-clause-ok c = λ (q : ℕ) (m : ℤ).
    let absent : latest_first (get same_key c.get_mut.follows.lender-at-none c.args.key) ≡ [] =
    ap (λ t. latest_first (get same_key t c.args.key)) c.get_mut.follows.holds-at-none ∙ sym (ap (λ (o : Option (Vec (List Value))). latest_first o) c.in_default.ensures.value) in
    step (λ (xs : List (List Value)). c.args.values ∷ xs) (get same_key c.get_mut.follows.lender-at-none) (get same_key c.insert.new.self) c.args.key (Some c.in_ok-entries.entries)
    c.in-Ok.ensures.updates.0
    (ap reverse c.in_ok-entries.ensures ∙ ap (λ (xs : List (List Value)). c.args.values ∷ xs) (sym absent)) (q, m)
    ∙ ap (λ t. if same_key c.args.key (q, m) then c.args.values ∷ latest_first (get same_key t (q, m)) else latest_first (get same_key t (q, m))) c.get_mut.follows.holds-at-none
