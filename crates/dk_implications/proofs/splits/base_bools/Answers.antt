use Rattle.std.specs.Prelude.{◌++◌, ◌∷◌, [], filter, if◌then◌else◌}
use Rattle.std.proofs.Common.{ap, append-nil, sym, ◌∙◌}
use Rattle.dk_base.specs.declared.kinds.VarId.{VarId}
use Rattle.dk_filters.proofs.Listed.{filter_vars_more}
use Rattle.dk_filters.specs.Found.{vars_below}
use Rattle.dk_implications.specs.Conditions.{is_base_bool}
use Rattle.dk_implications.proofs.splits.base_bools.Goals as goal
use Rattle.dk_implications.proofs.splits.base_bools.Goals.{then-is_base_bool+in_ok-push, else-is_base_bool}

pub loop-n-preserved : goal.loop-n-preserved
loop-n-preserved c =
    let test = is_base_bool c.args.infos.now in
    let v : VarId = record { 0 = c.loop-n.n } in
    let before = filter test (vars_below c.loop-n.n) in
    let more = filter_vars_more test c.loop-n.n in
    elim c.if-is_base_bool.branch [
      | then-is_base_bool+in_ok-push b ↦
          b.list-is ∙ (b.in_ok-push.ensures.ok ∙ (ap (λ vs. vs ++ v ∷ []) c.loop-n.invariant
          ∙ sym (more ∙ ap (λ t. before ++ (if t then v ∷ [] else [])) (sym c.is_base_bool.ensures ∙ b.if-is_base_bool.true))))
      | else-is_base_bool b ↦
          b.list-is ∙ (c.loop-n.invariant
          ∙ sym (more ∙ ap (λ t. before ++ (if t then v ∷ [] else [])) (sym c.is_base_bool.ensures ∙ b.if-is_base_bool.false) ∙ append-nil before))
    ]
