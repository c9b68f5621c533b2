use Rattle.std.specs.Prelude.{◌≡◌, ◌≤◌, List, [], ◌∷◌, drop, length, nat_eq, refl}
use Rattle.std.proofs.Common.{ap, ◌∙◌, arith, sym, length-drop}
use Rattle.std.proofs.lemmas.Bool.Decides.{nat_tests}
use Rattle.std.proofs.lemmas.List.{drop_all}
use Rattle.dk_base.specs.Values.{values_of}
use Rattle.dk_base.specs.declared.kinds.VarId.{VarId}
use Rattle.dk_presence.specs.Patterns.{present_in, same_vars}
use Rattle.dk_presence.proofs.matching.are_present.Goals as goal

none_left : (pattern : List VarId) → same_vars [] pattern ≡ nat_eq (length pattern) 0
none_left [] = refl
none_left (v ∷ vars) = grind (arith, nat_tests)

pub returns : goal.returns
returns c =
    let leaders = c.args.leaders.now in
    let pattern = c.args.pattern.now in
    let sample = values_of c.args.sample.now in
    let next = c.loop-leader.next in
    let at = c.loop-leader.leader-index in
    let over = c.loop-leader-test.false in
    let past : length leaders ≤ at = omega (arith, over) in
    let within = c.loop-leader.invariant.1 in
    let ends : nat_eq next (length pattern) ≡ nat_eq (length (drop next pattern)) 0 = grind (arith, nat_tests, within, length-drop next pattern) in
    ends ∙ (sym (none_left (drop next pattern)) ∙ (sym (ap (λ ls. same_vars (present_in ls sample) (drop next pattern)) (drop_all at leaders past)) ∙ c.loop-leader.invariant.0))
