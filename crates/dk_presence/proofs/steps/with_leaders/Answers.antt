use Rattle.std.proofs.Common.{◌≡◌, ◌∙◌, ap, sym, subst, arith, get_or, cond, true, false, Bool}
use Rattle.dk_base.specs.declared.kinds.VarId.{VarId}
use Rattle.dk_samples.specs.Leaders.{VarsAscend}
use Rattle.dk_presence.specs.Patterns.{has}
use Rattle.dk_presence.specs.Steps.{put}
use Rattle.dk_presence.proofs.Putting.{ascend-put, off_more, with_more}
use Rattle.dk_presence.proofs.steps.with_leaders.Goals as goal
use Rattle.dk_presence.proofs.steps.with_leaders.Goals.{then-contains+in_ok-more-2, else-contains}

pub loop-leader-preserved : goal.loop-leader-preserved
loop-leader-preserved c =
    let leaders = c.args.leaders.now in
    let new = c.args.new.now in
    let i = c.loop-leader.leader-index in
    let d : VarId × VarId = (record { 0 = 0 }, record { 0 = 0 }) in
    let n = get_or new i d in
    let more = c.loop-leader.more.items in
    let inv = c.loop-leader.invariant in
    let step = with_more new leaders more i d c.loop-leader-test.true inv.is in
    elim c.if-contains.branch [
      | then-contains+in_ok-more-2 w ↦
          let items = ap (λ m. m.items) w.more-is ∙ w.in_ok-more-2.ensures in
          let there : has leaders n.1 ≡ true = sym c.contains.ensures ∙ w.if-contains.true in
          record {
            is = items ∙ sym (step ∙ ap (λ (b : Bool). cond b (put n.0 more) more) there);
            ascend = subst VarsAscend (sym items) (ascend-put n.0 more inv.ascend (inv.off i d (omega arith) c.loop-leader-test.true));
            off = λ k e le m. ap (λ xs. has xs (get_or new k e).0) items ∙ off_more new c.requires.differ more i d c.loop-leader-test.true inv.off k e le m;
          }
      | else-contains w ↦
          let items = ap (λ m. m.items) w.more-is in
          let absent : has leaders n.1 ≡ false = sym c.contains.ensures ∙ w.if-contains.false in
          record {
            is = items ∙ sym (step ∙ ap (λ (b : Bool). cond b (put n.0 more) more) absent);
            ascend = subst VarsAscend (sym items) inv.ascend;
            off = λ k e le m. ap (λ xs. has xs (get_or new k e).0) items ∙ inv.off k e (omega (arith, le)) m;
          }
    ]
