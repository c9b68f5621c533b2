use Rattle.std.specs.Prelude.{◌≡◌, ◌==◌, [], flat_map, if◌then◌else◌, take}
use Rattle.dk_join.proofs.watching.first_premises.Given as goal

abbrev pub invariant-loop-rule : goal.invariant-loop-rule
invariant-loop-rule l = l.list.items ≡ flat_map (λ r. if r.conclusion.0 == l.row.0 then take 1 r.premises.now else []) (take l.rule-index l.rule-items)
