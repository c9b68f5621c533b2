use Rattle.std.specs.Prelude.{◌≡◌, [], ◌∷◌, ◌++◌, List, length}
use Rattle.std.proofs.Common.{◌∙◌, ap, subst, sym}
use Rattle.dk_base.specs.declared.kinds.VarInfo.{VarInfo}
use Rattle.dk_hierarchy.proofs.Alone.{alone, alone_stands, are_ways}
use Rattle.dk_hierarchy.specs.Descent.{first_way}
use Rattle.dk_hierarchy.specs.Merging.{AreWays, Joint}
use Rattle.dk_hierarchy.specs.Standing.{JointStandsFor}
use Rattle.dk_hierarchy.specs.declared.way.Way.{Way}
use Rattle.dk_hierarchy.proofs.merged.Merged.alone.Goals as goal

pub invariant_of-result : goal.invariant_of-result
invariant_of-result c =
    let engine = c.args.engine.now in
    let way : Way = c.in_ok-first_way.field-0 in
    let ways : c.push.new.self ≡ first_way 0 (length engine.infos) ∷ [] =
    c.in_ok-push.ensures.ok ∙ (ap (λ (ws : List Way). ws ++ way ∷ []) c.new-ways.ensures
    ∙ ap (λ (w : Way). w ∷ []) (c.in_ok-first_way.ensures ∙ ap (λ (vs : List VarInfo). first_way 0 (length vs)) c.vars.ensures)) in
    let joint : Joint = record { here = engine; engines = c.from_ref.result.now; ways = c.push.new.self } in
    let made : joint ≡ alone engine = λ i. record { here = engine; engines = c.from_ref.ensures.value i; ways = ways i } in
    subst AreWays (sym made) (are_ways engine)

pub returns-clause-stands : goal.returns-clause-stands
returns-clause-stands c =
    let engine = c.args.engine.now in
    let way : Way = c.in_ok-first_way.field-0 in
    let ways : c.push.new.self ≡ first_way 0 (length engine.infos) ∷ [] =
    c.in_ok-push.ensures.ok ∙ (ap (λ (ws : List Way). ws ++ way ∷ []) c.new-ways.ensures
    ∙ ap (λ (w : Way). w ∷ []) (c.in_ok-first_way.ensures ∙ ap (λ (vs : List VarInfo). first_way 0 (length vs)) c.vars.ensures)) in
    let joint : Joint = record { here = engine; engines = c.from_ref.result.now; ways = c.push.new.self } in
    let made : joint ≡ alone engine = λ i. record { here = engine; engines = c.from_ref.ensures.value i; ways = ways i } in
    λ samples stand. subst (λ (j : Joint). JointStandsFor j samples) (sym made) (alone_stands engine samples stand)
