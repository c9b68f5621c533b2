use Rattle.std.specs.Prelude.{◌++◌, ◌∷◌, [], filter, if◌then◌else◌}
use Rattle.std.proofs.Common.{ap, append-nil, sym, ◌∙◌}
use Rattle.dk_base.specs.declared.kinds.VarId.{VarId}
use Rattle.dk_filters.proofs.Listed.{filter_vars_more}
use Rattle.dk_filters.specs.Found.{vars_below}
use Rattle.dk_report.specs.Asked.{has_enough}
use Rattle.dk_report.proofs.asking.Asking.vars_with_enough.Goals as goal
use Rattle.dk_report.proofs.asking.Asking.vars_with_enough.Goals.{then-has_enough+in_ok-push, else-has_enough}

pub loop-n-preserved : goal.loop-n-preserved
loop-n-preserved c =
    let test = has_enough c.args.self.now in
    let v : VarId = record { 0 = c.loop-n.n } in
    let before = filter test (vars_below c.loop-n.n) in
    let more = filter_vars_more test c.loop-n.n in
    elim c.if-has_enough.branch [
      | then-has_enough+in_ok-push b ↦
          b.list-is ∙ (b.in_ok-push.ensures.ok ∙ (ap (λ vs. vs ++ v ∷ []) c.loop-n.invariant
          ∙ sym (more ∙ ap (λ t. before ++ (if t then v ∷ [] else [])) (sym c.has_enough.ensures ∙ b.if-has_enough.true))))
      | else-has_enough b ↦
          b.list-is ∙ (c.loop-n.invariant
          ∙ sym (more ∙ ap (λ t. before ++ (if t then v ∷ [] else [])) (sym c.has_enough.ensures ∙ b.if-has_enough.false) ∙ append-nil before))
    ]
