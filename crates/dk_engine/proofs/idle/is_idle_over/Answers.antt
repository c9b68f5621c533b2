use Rattle.std.specs.Prelude.{◌≡◌, ◌||◌, true}
use Rattle.std.proofs.Common.{rules, subst, sym}
use Rattle.dk_forms.specs.declared.states.State.{State}
use Rattle.dk_engine.specs.Idle.{are_fixed, are_same, is_idle_over}
use Rattle.dk_engine.proofs.idle.is_idle_over.Goals as goal

pub returns-in-Plane : goal.returns-in-Plane
returns-in-Plane c h =
    let x = c.args in
    let p = c.in-Plane in
    let told : (are_same x.u x.v x.w p.a p.b p.c p.d || are_fixed x.ranges.now x.u x.v x.w p.a p.b p.c p.d) ≡ true = search rules in
    subst (λ (s : State). is_idle_over x.ranges.now x.u x.v x.w s ≡ true) (sym p.is) told
