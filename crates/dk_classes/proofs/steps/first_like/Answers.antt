use Rattle.std.proofs.Common.{◌≡◌, ◌∙◌, sym, get_or, true, refl, subst}
use Rattle.std.proofs.lemmas.Bool.{false≢true}
use Rattle.dk_base.specs.Values.{value_of, values_of}
use Rattle.dk_classes.specs.Keys.{FindsLike, has_key, key_of}
use Rattle.dk_classes.specs.Leaders.{var}
use Rattle.dk_classes.proofs.Firsts.{found_first, none_first, old_first}
use Rattle.dk_classes.proofs.Keys.{keys_with}
use Rattle.dk_classes.proofs.steps.first_like.Goals as goal

pub returns-then-same-clause-first : goal.returns-then-same-clause-first
returns-then-same-clause-first c = old_first c.args.leaders.now (values_of c.args.sample.now) c.requires.classes c.args.v c.requires.within (sym c.value_at.ensures ∙ (c.if-same.ensures.0 refl ∙ c.value_at-value.ensures))

pub returns-then-same-clause-keys : goal.returns-then-same-clause-keys
returns-then-same-clause-keys c =
    let old = get_or c.args.leaders.now c.args.v (var 0) in
    keys_with (values_of c.args.sample.now) c.args.new.now c.args.keys.now.keys c.requires.keys c.args.v old old (λ here other. absurd (other here))

pub returns-in-Some-clause-first : goal.returns-in-Some-clause-first
returns-in-Some-clause-first c =
    let sample = values_of c.args.sample.now in
    let old = get_or c.args.leaders.now c.args.v (var 0) in
    let told = subst (FindsLike c.args.new.now sample old (value_of c.value_at-value.result)) c.in-Some.is c.in_ok-leader.ensures.found in
    found_first c.args.leaders.now sample c.requires.classes c.args.v c.requires.within c.args.new.now c.requires.new
    old refl c.in-Some.leader told.0 (told.1 ∙ c.value_at-value.ensures)

pub returns-in-Some-clause-keys : goal.returns-in-Some-clause-keys
returns-in-Some-clause-keys c =
    let keys = c.find_like.new.keys.keys in
    let old = get_or c.args.leaders.now c.args.v (var 0) in
    keys_with (values_of c.args.sample.now) c.args.new.now keys c.in_ok-leader.ensures.kept c.args.v c.in-Some.leader old
    (λ here other. subst (λ x. has_key keys (key_of old x) ≡ true) c.value_at-value.ensures c.in_ok-leader.ensures.added)

pub returns-in-None-clause-first : goal.returns-in-None-clause-first
returns-in-None-clause-first c =
    let sample = values_of c.args.sample.now in
    let old = get_or c.args.leaders.now c.args.v (var 0) in
    let told = subst (FindsLike c.args.new.now sample old (value_of c.value_at-value.result)) c.in-None.is c.in_ok-leader.ensures.found in
    none_first c.args.leaders.now sample c.requires.classes c.args.v c.requires.within c.args.new.now c.requires.new
    old refl (λ e. false≢true (c.if-same.ensures.1 (c.value_at.ensures ∙ (e ∙ sym c.value_at-value.ensures)))) (λ k d l is e. told k d l is (e ∙ sym c.value_at-value.ensures))

pub returns-in-None-clause-keys : goal.returns-in-None-clause-keys
returns-in-None-clause-keys c =
    let keys = c.find_like.new.keys.keys in
    let old = get_or c.args.leaders.now c.args.v (var 0) in
    keys_with (values_of c.args.sample.now) c.args.new.now keys c.in_ok-leader.ensures.kept c.args.v (var c.args.v) old
    (λ here other. subst (λ x. has_key keys (key_of old x) ≡ true) c.value_at-value.ensures c.in_ok-leader.ensures.added)
