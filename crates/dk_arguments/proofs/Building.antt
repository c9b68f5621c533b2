-- The command, an argument after another.
use Rattle.std.proofs.Common.{◌≡◌, ◌<◌, ◌+◌, ◌∙◌, ap, sym, ℕ, List, [], ◌∷◌, ◌++◌, length, map, take, get_or}
use Rattle.std.proofs.lemmas.List.{map-append, take_more}
use Rattle.clap.specs.Words.{App, Rule, Text, with_rule}
use Rattle.dk_arguments.specs.Commands.{app_with, rule_for}
use Rattle.dk_arguments.specs.Descriptions.{Argument, argument_of}
use Rattle.dk_arguments.specs.declared.description.Argument.{Argument as GivenArgument}

rules_more : (xs : List GivenArgument) (i : ℕ) (d : GivenArgument) → i < length xs
    → map rule_for (map argument_of (take (i + 1) xs)) ≡ map rule_for (map argument_of (take i xs)) ++ rule_for (argument_of (get_or xs i d)) ∷ []
rules_more xs i d h =
    ap (λ (l : List GivenArgument). map rule_for (map argument_of l)) (take_more xs i d h)
    ∙ ap (λ (l : List Argument). map rule_for l) (map-append argument_of (take i xs) (get_or xs i d ∷ []))
    ∙ map-append rule_for (map argument_of (take i xs)) (argument_of (get_or xs i d) ∷ [])

pub command_more : (name : Text) (xs : List GivenArgument) (i : ℕ) (d : GivenArgument) (before after : App) (rule : Rule) → i < length xs
    → before ≡ app_with name (map rule_for (map argument_of (take i xs))) → rule ≡ rule_for (argument_of (get_or xs i d))
    → after ≡ with_rule before rule → after ≡ app_with name (map rule_for (map argument_of (take (i + 1) xs)))
command_more name xs i d before after rule h is one more =
    more ∙ ap (λ (a : App). with_rule a rule) is
    ∙ ap (λ (r : Rule). with_rule (app_with name (map rule_for (map argument_of (take i xs)))) r) one
    ∙ ap (λ (rs : List Rule). app_with name rs) (sym (rules_more xs i d h))
