use Rattle.std.specs.Prelude.{◌++◌, ◌∷◌, [], filter, if◌then◌else◌}
use Rattle.std.proofs.Common.{ap, append-nil, sym, ◌∙◌}
use Rattle.dk_base.specs.declared.kinds.VarId.{VarId}
use Rattle.dk_filters.proofs.Listed.{filter_vars_more}
use Rattle.dk_filters.specs.Facts.{is_partner}
use Rattle.dk_filters.specs.Found.{vars_below}
use Rattle.dk_filters.proofs.found.having_partner.Goals as goal
use Rattle.dk_filters.proofs.found.having_partner.Goals.{then-is_partner+in_ok-push, else-is_partner}

pub loop-n-preserved : goal.loop-n-preserved
loop-n-preserved c =
    let test = is_partner c.args.partner.now c.args.v in
    let w : VarId = record { 0 = c.loop-n.n } in
    let before = filter test (vars_below c.loop-n.n) in
    let more = filter_vars_more test c.loop-n.n in
    elim c.if-is_partner.branch [
      | then-is_partner+in_ok-push b ↦
          b.list-is ∙ (b.in_ok-push.ensures.ok ∙ (ap (λ vs. vs ++ w ∷ []) c.loop-n.invariant
          ∙ sym (more ∙ ap (λ t. before ++ (if t then w ∷ [] else [])) (sym c.is_partner.ensures ∙ b.if-is_partner.true))))
      | else-is_partner b ↦
          b.list-is ∙ (c.loop-n.invariant
          ∙ sym (more ∙ ap (λ t. before ++ (if t then w ∷ [] else [])) (sym c.is_partner.ensures ∙ b.if-is_partner.false) ∙ append-nil before))
    ]
