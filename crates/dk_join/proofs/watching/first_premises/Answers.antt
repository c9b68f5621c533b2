use Rattle.std.specs.Prelude.{◌==◌, List, [], flat_map, if◌then◌else◌, take}
use Rattle.std.proofs.Common.{◌∙◌, ap, sym}
use Rattle.std.proofs.lemmas.List.{take_all}
use Rattle.dk_suppress.specs.Rules.{Rule}
use Rattle.dk_suppress.specs.Told.{told}
use Rattle.dk_suppress.specs.declared.rules.Rule.{Rule as CodeRule}
use Rattle.dk_template.specs.declared.answers.Premise.{Premise}
use Rattle.dk_join.proofs.Lists.{flat_map_of_map}
use Rattle.dk_join.specs.Watched.{first_premises}
use Rattle.dk_join.proofs.watching.first_premises.Goals as goal

pub returns : goal.returns
unfolding first_premises
returns c =
    let items = c.table-rule-items.result.now in
    let First : Rule → List Premise = λ r. if r.0.0 == c.args.row.0 then take 1 r.1 else [] in
    c.loop-rule.invariant
    ∙ (ap (flat_map (λ (r : CodeRule). First (told r))) (take_all c.loop-rule.rule-index items c.loop-rule-test.false)
    ∙ (sym (flat_map_of_map First told items) ∙ ap (flat_map First) c.table-rule-items.ensures))
