use Rattle.std.specs.Prelude.{◌≡◌, ◌&&◌, true}
use Rattle.std.proofs.Common.{rules, subst, sym}
use Rattle.std.proofs.lemmas.Bool.{and_from}
use Rattle.dk_forms.specs.declared.states.State.{State}
use Rattle.dk_engine.specs.Idle.{is_above, is_below, is_driven, is_driven_stretch}
use Rattle.dk_engine.proofs.idle.is_driven_stretch.Goals as goal

pub returns-then-is_driven-3 : goal.returns-then-is_driven-3
returns-then-is_driven-3 c h =
    let x = c.args in
    let ranges = x.ranges.now in
    let d = x.driver in
    let p = c.in-Span in
    let first : is_driven ranges d.var d.first d.last x.u p.x1 p.x2 ≡ true = search rules in
    let second : is_driven ranges d.var d.first d.last x.v p.y1 p.y2 ≡ true = search rules in
    let third : is_driven ranges d.var d.first d.last x.w p.z1 p.z2 ≡ true = search rules in
    let ends : (is_above ranges d.var d.first && is_below ranges d.var d.last) ≡ true = search rules in
    subst (λ (s : State). is_driven_stretch ranges d.var d.first d.last x.u x.v x.w s ≡ true) (sym p.is)
    (and_from _ _ first (and_from _ _ second (and_from _ _ third ends)))
