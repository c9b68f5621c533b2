use Rattle.std.proofs.Common.{◌≡◌, ap, ◌∙◌, sym, get_or, take, ◌++◌, ◌∷◌, [], cond, eqb, append-nil, false, arith}
use Rattle.std.proofs.lemmas.Bool.{eq-eqb}
use Rattle.std.proofs.lemmas.Bool.Decides.{nat_tests}
use Rattle.dk_classes.specs.Leaders.{own_leaders, var}
use Rattle.dk_classes.proofs.OwnLeaders.{own_more}
use Rattle.dk_classes.proofs.steps.leading.Goals as goal
use Rattle.dk_classes.proofs.steps.leading.Goals.{then-leader-place+in_ok-push, else-leader-place}

pub loop-place-preserved : goal.loop-place-preserved
loop-place-preserved c =
    let leaders = c.args.leaders.now in
    let place = c.loop-place.place in
    let x = get_or leaders place (var 0) in
    let more = own_more leaders place (var 0) c.loop-place-test.true in
    elim c.if-leader-place.branch [
      | then-leader-place+in_ok-push w ↦
          ap (λ o. o.items) w.own-is ∙ (w.in_ok-push.ensures.items ∙ (ap (λ os. os ++ x ∷ []) c.loop-place.invariant
          ∙ sym (more ∙ ap (λ b. own_leaders (take place leaders) ++ cond b (x ∷ []) []) (eq-eqb x.0 place w.if-leader-place.true))))
      | else-leader-place w ↦
          ap (λ o. o.items) w.own-is ∙ (c.loop-place.invariant ∙ sym (more ∙ (let other : eqb x.0 place ≡ false = grind (arith, nat_tests, w.if-leader-place.false) in ap (λ b. own_leaders (take place leaders) ++ cond b (x ∷ []) []) other ∙ append-nil (own_leaders (take place leaders)))))
    ]
