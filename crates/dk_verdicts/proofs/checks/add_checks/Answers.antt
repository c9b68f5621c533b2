use Rattle.std.proofs.Common.{◌++◌, ◌∙◌, ◌∷◌, [], ap, List, sym, subst}
use Rattle.std.specs.Prelude.{take}
use Rattle.std.proofs.lemmas.List.{take_more}
use Rattle.dk_hierarchy.specs.declared.way.Way.{Way}
use Rattle.dk_verdicts.proofs.Making.{with_both}
use Rattle.dk_verdicts.specs.Checks.{AreWithChecks}
use Rattle.dk_verdicts.proofs.checks.add_checks.Goals as goal

pub loop-way-preserved : goal.loop-way-preserved
loop-way-preserved c =
    let way : Way = c.way-item.result in
    let ways = c.args.ways.now in
    let i = c.loop-way.way-index in
    subst (λ (ws : List Way). AreWithChecks c.args.claim c.args.vars.now ws c.args.checks.now.items c.add_check.new.checks.items)
    (sym (take_more ways i way c.loop-way-test.true ∙ ap (λ (w : Way). take i ways ++ w ∷ []) (sym c.way-item.is)))
    (with_both c.args.claim c.args.vars.now (take i ways) (way ∷ []) c.args.checks.now.items c.loop-way.checks.items c.add_check.new.checks.items c.loop-way.invariant c.in_ok-add_check.ensures)
