use Rattle.std.specs.Prelude.{◌≡◌, ◌++◌, [], ◌∷◌, Some, option_copied}
use Rattle.std.proofs.Common.{◌∙◌, ap, sym}
use Rattle.dk_base.specs.declared.values.Value.{Value}
use Rattle.dk_join.specs.Joined.{known_in_both}
use Rattle.dk_join.proofs.KnownSteps.{none_more, one_more}
use Rattle.dk_join.proofs.constants.with_leader.Goals as goal

pub returns-in-None : goal.returns-in-None
returns-in-None c =
    none_more c.args.first.now.kept c.args.second.now.kept c.args.v c.args.known (sym c.known_in_both.ensures ∙ ap option_copied c.in-None.is)

pub returns-in_ok-push-in-Some : goal.returns-in_ok-push-in-Some
returns-in_ok-push-in-Some c =
    let value = c.in-Some.value.now in
    let told : known_in_both c.args.first.now.kept c.args.second.now.kept c.args.v ≡ Some value = sym c.known_in_both.ensures ∙ ap option_copied c.in-Some.is in
    c.in_ok-push-in-Some.ensures.ok
    ∙ (ap (λ (x : Value). c.args.known ++ (c.args.v, x) ∷ []) c.in_ok-copy-in-Some.ensures ∙ one_more c.args.first.now.kept c.args.second.now.kept c.args.v value c.args.known told)
