use Rattle.std.specs.Prelude.{[], ℕ, List, Option, unwrap_or}
use Rattle.std.specs.BTreeMap.{is_at}
use Rattle.std.specs.List.Sorted.{IsStrictlySortedBy}
use Rattle.std.specs.Map.{keys_of, lookup}
use Rattle.std.specs.Ordering.{nat_cmp}
use Rattle.std.proofs.Common.{◌∙◌, ap, subst}
use Rattle.dk_hierarchy.specs.declared.way.Way.{Way}
use Rattle.dk_hierarchy.proofs.levels.Levels.take.Goals as goal

pub returns-clause-ways : goal.returns-clause-ways
returns-clause-ways c =
    c.unwrap_or.ensures
    ∙ (ap (λ (o : Option (List Way)). unwrap_or o c.new.result) c.remove.ensures.value
    ∙ (ap (unwrap_or (lookup (is_at (nat_cmp c.args.rank)) c.self.inside.kept.entries)) c.new.ensures
    ∙ ap (λ (ls : List (ℕ × List Way)). unwrap_or (lookup (is_at (nat_cmp c.args.rank)) ls) []) c.self.view_is))

pub returns-clause-sorted : goal.returns-clause-sorted
returns-clause-sorted c = subst (λ (ls : List (ℕ × List Way)). IsStrictlySortedBy nat_cmp (keys_of ls)) c.self.view_is c.self.invariant
