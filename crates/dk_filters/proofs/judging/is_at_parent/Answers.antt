use Rattle.std.specs.Prelude.{◌≡◌, ◌<◌, length, map, slice_index_or}
use Rattle.std.proofs.Common.{ap, arith, subst, sym, ◌∙◌}
use Rattle.std.proofs.lemmas.List.{get_or_read, length-map}
use Rattle.dk_filters.proofs.AtParents.{at_views, here_admitted, here_told, is_at_view}
use Rattle.dk_filters.proofs.Somewhere.{any_fails, any_none, any_passes}
use Rattle.dk_filters.specs.Found.{by_partner}
use Rattle.dk_filters.specs.Laws.{PartnersAreLike}
use Rattle.dk_filters.specs.Parents.{parent_shown}
use Rattle.dk_filters.proofs.judging.is_at_parent.Goals as goal

pub stands_somewhere-requires-clause-admitted : goal.stands_somewhere-requires-clause-admitted
stands_somewhere-requires-clause-admitted g c =
    let A = g.P.Answers.answered in
    let C = g.P.Answers.counted in
    let G = g.P.Answers.agreeing in
    let place = c.loop-place.place in
    let view = c.index-parents-place.result in
    let listed = c.as_slice.result.now in
    let within : place < length c.args.parents.now = c.loop-place-test.true in
    let long : length c.args.partners.now ≡ length c.args.parents.now =
    ap length c.requires.partners ∙ (length-map (map (parent_shown A C G) c.args.parents.now) (by_partner c.args.vars.now) ∙ length-map c.args.parents.now (parent_shown A C G)) in
    let at : listed ≡ slice_index_or c.args.partners.now place listed = c.as_slice.ensures ∙ get_or_read c.args.partners.now place c.index-partners-place.result (omega (arith, long, within)) c.index-partners-place.is listed in
    here_admitted A C G c.args.vars.now c.args.parents.now c.args.partners.now c.requires.partners place view within c.index-parents-place.is c.args.row c.args.tuple.now c.requires.vars listed at
    (subst (λ v. PartnersAreLike c.args.vars.now (parent_shown A C G v)) (sym c.index-parents-place.is) (c.requires.parents place view within).1.alike)

pub returns-then-branch-clause-state : goal.returns-then-branch-clause-state
returns-then-branch-clause-state g c =
    let A = g.P.Answers.answered in
    let C = g.P.Answers.counted in
    let G = g.P.Answers.agreeing in
    let place = c.loop-place.place in
    let view = c.index-parents-place.result in
    let listed = c.as_slice.result.now in
    let within : place < length c.args.parents.now = c.loop-place-test.true in
    let long : length c.args.partners.now ≡ length c.args.parents.now =
    ap length c.requires.partners ∙ (length-map (map (parent_shown A C G) c.args.parents.now) (by_partner c.args.vars.now) ∙ length-map c.args.parents.now (parent_shown A C G)) in
    let at : listed ≡ slice_index_or c.args.partners.now place listed = c.as_slice.ensures ∙ get_or_read c.args.partners.now place c.index-partners-place.result (omega (arith, long, within)) c.index-partners-place.is listed in
    let told = here_told A C G c.args.vars.now c.args.parents.now c.args.partners.now c.requires.partners place view within c.index-parents-place.is c.args.row c.args.tuple.now c.requires.vars listed at c.args.state.now in
    let stands = is_at_view A C G c.args.row c.args.state.now c.args.tuple.now in
    sym (at_views A C G c.args.row c.args.state.now c.args.tuple.now c.args.parents.now
    ∙ any_passes stands c.args.parents.now place view within c.index-parents-place.is c.loop-place.invariant (sym told ∙ (sym c.in_ok-stands_somewhere.ensures.state ∙ c.if-branch.true)))

pub loop-place-preserved : goal.loop-place-preserved
loop-place-preserved g c =
    let A = g.P.Answers.answered in
    let C = g.P.Answers.counted in
    let G = g.P.Answers.agreeing in
    let place = c.loop-place.place in
    let view = c.index-parents-place.result in
    let listed = c.as_slice.result.now in
    let within : place < length c.args.parents.now = c.loop-place-test.true in
    let long : length c.args.partners.now ≡ length c.args.parents.now =
    ap length c.requires.partners ∙ (length-map (map (parent_shown A C G) c.args.parents.now) (by_partner c.args.vars.now) ∙ length-map c.args.parents.now (parent_shown A C G)) in
    let at : listed ≡ slice_index_or c.args.partners.now place listed = c.as_slice.ensures ∙ get_or_read c.args.partners.now place c.index-partners-place.result (omega (arith, long, within)) c.index-partners-place.is listed in
    let told = here_told A C G c.args.vars.now c.args.parents.now c.args.partners.now c.requires.partners place view within c.index-parents-place.is c.args.row c.args.tuple.now c.requires.vars listed at c.args.state.now in
    let stands = is_at_view A C G c.args.row c.args.state.now c.args.tuple.now in
    any_fails stands c.args.parents.now place view within c.index-parents-place.is c.loop-place.invariant (sym told ∙ (sym c.in_ok-stands_somewhere.ensures.state ∙ c.if-branch.false))

pub returns-clause-state : goal.returns-clause-state
returns-clause-state g c =
    let A = g.P.Answers.answered in
    let C = g.P.Answers.counted in
    let G = g.P.Answers.agreeing in
    sym (at_views A C G c.args.row c.args.state.now c.args.tuple.now c.args.parents.now
    ∙ any_none (is_at_view A C G c.args.row c.args.state.now c.args.tuple.now) c.args.parents.now c.loop-place.place (omega arith) c.loop-place.invariant)
