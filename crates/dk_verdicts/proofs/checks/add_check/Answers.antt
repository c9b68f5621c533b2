use Rattle.std.proofs.Common.{◌∙◌, ◌∷◌, [], ap, List, Option, slice_set, subst, sym}
use Rattle.dk_base.specs.declared.kinds.VarId.{VarId}
use Rattle.dk_hierarchy.specs.Edges.{partners_at}
use Rattle.dk_verdicts.proofs.Lines.{on_ok}
use Rattle.dk_verdicts.proofs.Making.{with_one_more}
use Rattle.dk_verdicts.proofs.Tested.{got_value}
use Rattle.dk_verdicts.specs.Checks.{AreWithChecks}
use Rattle.dk_verdicts.specs.declared.checks.Check.{Check}
use Rattle.dk_verdicts.proofs.checks.add_check.Goals as goal

pub returns-in-Some : goal.returns-in-Some
returns-in-Some c =
    let checks = c.args.checks.now.items in
    let p = c.args.way.now.point.0 in
    let found = sym (c.partners_at.ensures ∙ ap (λ (ps : List (Option VarId)). partners_at ps c.args.vars.now) c.as_slice.ensures) ∙ c.in-Some.is in
    on_ok c.push.result _ _
    (λ pushed. subst (λ (l : List Check). AreWithChecks c.args.claim c.args.vars.now (c.args.way.now ∷ []) checks (slice_set checks p l)) (sym pushed)
    (with_one_more c.args.claim c.args.vars.now c.args.way.now checks c.in-Some.there found c.index_mut.result.now
    (got_value checks p c.index_mut.result.now c.requires.within c.index_mut.ensures.value)))
    c.push.ensures.ok
