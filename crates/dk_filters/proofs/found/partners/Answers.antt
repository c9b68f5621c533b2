use Rattle.std.specs.Prelude.{◌≡◌, ◌++◌, ◌∷◌, [], ◌+◌, map, take}
use Rattle.std.proofs.Common.{ap, sym, ◌∙◌}
use Rattle.std.proofs.lemmas.List.{map-append, take_more}
use Rattle.dk_filters.specs.Found.{by_partner}
use Rattle.dk_filters.specs.Parents.{parent_shown}
use Rattle.dk_filters.specs.declared.parents.ParentView.{ParentView}
use Rattle.dk_filters.proofs.found.partners.Goals as goal

pub loop-parent-preserved : goal.loop-parent-preserved
loop-parent-preserved g c =
    let listed = λ (p : ParentView _). by_partner c.args.vars.now (parent_shown g.P.Answers.answered g.P.Answers.counted g.P.Answers.agreeing p) in
    let place = c.loop-parent.parent-index in
    let parents = c.args.parents.now in
    let item = c.parent-item.result in
    let more : take (place + 1) parents ≡ take place parents ++ item ∷ [] = take_more parents place item c.loop-parent-test.true ∙ ap (λ p. take place parents ++ p ∷ []) (sym c.parent-item.is) in
    c.in_ok-push.ensures.ok ∙ (ap (λ ls. ls ++ c.in_ok-by_partner.field-0 ∷ []) c.loop-parent.invariant
    ∙ (ap (λ l. map listed (take place parents) ++ l ∷ []) c.in_ok-by_partner.ensures
    ∙ sym (ap (map listed) more ∙ map-append listed (take place parents) (item ∷ []))))
