use Rattle.std.specs.Prelude.{◌<◌, ◌++◌, length, None, Some}
use Rattle.std.proofs.Common.{◌∙◌, ap, arith, sym}
use Rattle.std.proofs.lemmas.List.{append-nil}
use Rattle.dk_state.specs.Declarations.{point_lines}
use Rattle.dk_state.proofs.Declared.{lines_more}
use Rattle.dk_state.proofs.declarations.push_points.Goals as goal
use Rattle.dk_state.proofs.declarations.push_points.Goals.{in-Some+in_ok-push_point, in_default}

pub loop-p-preserved : goal.loop-p-preserved
loop-p-preserved c =
    let ps = c.args.points.now in
    let p = c.loop-p.p in
    let all = c.len-p-end.ensures.len in
    let within : p < length ps = omega (arith, all) in
    elim c.match-decl.branch [
      | in-Some+in_ok-push_point w ↦
          lines_more ps p c.args.text.now c.loop-p.text c.match-decl.text (Some w.in-Some.decl.now) within w.in-Some.ensures c.loop-p.invariant
          (w.text-is ∙ (w.in_ok-push_point.ensures ∙ ap (λ t. c.loop-p.text ++ t) (sym (append-nil (point_lines w.in-Some.decl.now)))))
      | in_default w ↦
          lines_more ps p c.args.text.now c.loop-p.text c.match-decl.text None within w.in_default.ensures c.loop-p.invariant
          (w.text-is ∙ sym (append-nil c.loop-p.text))
    ]
