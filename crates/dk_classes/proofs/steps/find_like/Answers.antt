use Rattle.std.proofs.Common.{◌≡◌, false, subst}
use Rattle.dk_base.specs.Values.{value_of, values_of}
use Rattle.dk_classes.specs.Keys.{has_key, key_of}
use Rattle.dk_classes.proofs.Keys.{is_new, none_like}
use Rattle.dk_classes.proofs.steps.find_like.Goals as goal

pub returns-then-is_added-clause-found : goal.returns-then-is_added-clause-found
returns-then-is_added-clause-found c =
    let keys = c.args.keys.now.keys in
    let value = value_of c.args.value in
    let off : has_key keys (key_of c.args.old value) ≡ false = subst (λ k. has_key keys k ≡ false) c.in_ok-key.ensures (is_new _ _ c.in_ok-place.ensures.added c.if-is_added.true) in
    none_like (values_of c.args.sample.now) c.args.new.now keys c.requires c.args.old value off
