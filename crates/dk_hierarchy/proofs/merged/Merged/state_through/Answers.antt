use Rattle.std.specs.Prelude.{◌≡◌, Some, true}
use Rattle.std.proofs.Common.{◌∙◌, ap, subst, sym}
use Rattle.dk_template.specs.Admitted.{admits}
use Rattle.dk_hierarchy.proofs.Answering.{admitted_there}
use Rattle.dk_hierarchy.specs.Edges.{partners_at}
use Rattle.dk_hierarchy.proofs.merged.Merged.state_through.Goals as goal

pub answer-requires-clause-vars : goal.answer-requires-clause-vars
answer-requires-clause-vars c =
    let way = c.args.way.now in
    let vars = c.args.vars.now in
    let told : partners_at way.partners vars ≡ Some c.in-Some.there = sym (c.partners_at.ensures ∙ ap (λ ps. partners_at ps vars) c.as_slice.ensures) ∙ c.in-Some.is in
    subst (λ t. admits c.args.row c.engine_at.result.now.infos t ≡ true) (sym c.as_slice-in-Some.ensures.items)
    (admitted_there c.args.self.now way c.requires.way c.engine_at.result.now c.engine_at.ensures vars c.in-Some.there told c.args.row c.requires.vars)
