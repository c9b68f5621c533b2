use Rattle.std.specs.Prelude.{◌≡◌, map, take, ◌++◌, ◌∷◌, [], List}
use Rattle.std.proofs.Common.{◌∙◌, ap, arith, get_or, subst, sym}
use Rattle.std.proofs.lemmas.List.{map_more}
use Rattle.dk_base.specs.declared.kinds.VarId.{VarId}
use Rattle.dk_classes.specs.Leaders.{var}
use Rattle.dk_presence.specs.Patterns.{has}
use Rattle.dk_samples.specs.Leaders.{VarsAscend}
use Rattle.dk_snapshot.specs.Patterns.{is_first}
use Rattle.dk_snapshot.proofs.Present.{first_if_there, from_ascends, step}
use Rattle.dk_snapshot.proofs.pattern.presence_of.Goals as goal

pub loop-leader-preserved : goal.loop-leader-preserved
loop-leader-preserved c =
    let leaders = c.args.leaders.now in
    let present = c.args.present.now in
    let i = c.loop-leader.leader-index in
    let left = c.loop-leader.left.now in
    let leader = get_or leaders i (var 0) in
    let next = c.from_var-left.ensures in
    let within = c.loop-leader-test.true in
    let told : c.is_first.result ≡ has present leader =
    c.is_first.ensures ∙ (ap (is_first leader) next ∙ (first_if_there leader left c.loop-leader.invariant.ascend ∙ c.loop-leader.invariant.same i (omega arith) within))
    in
    record {
      so_far =
          c.in_ok-push.ensures.items ∙ (ap (λ ts. ts ++ c.is_first.result ∷ []) c.loop-leader.invariant.so_far
          ∙ (ap (λ t. map (has present) (take i leaders) ++ t ∷ []) told ∙ sym (map_more (has present) leaders i (var 0) within)));
      ascend = subst (λ (vars : List VarId). VarsAscend vars) (sym next) (from_ascends leader left c.loop-leader.invariant.ascend);
      same = λ j l m. ap (λ vars. has vars (get_or leaders j (var 0))) next ∙ step leaders left present i (var 0) c.requires.leaders within c.loop-leader.invariant.same j l m;
    }
