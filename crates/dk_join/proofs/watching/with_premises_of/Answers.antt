use Rattle.std.specs.Prelude.{◌==◌, ◌++◌, List, [], flat_map, if◌then◌else◌}
use Rattle.std.proofs.Common.{◌∙◌, ap, sym}
use Rattle.std.proofs.lemmas.List.{take_all}
use Rattle.dk_suppress.specs.Rules.{Rule}
use Rattle.dk_suppress.specs.Told.{told}
use Rattle.dk_suppress.specs.declared.rules.Rule.{Rule as CodeRule}
use Rattle.dk_template.specs.declared.answers.Premise.{Premise}
use Rattle.dk_join.proofs.Lists.{flat_map_of_map}
use Rattle.dk_join.specs.Watched.{premises_of}
use Rattle.dk_join.proofs.watching.with_premises_of.Goals as goal

pub returns : goal.returns
unfolding premises_of
returns c =
    let items = c.table-rule-items.result.now in
    let Of : Rule → List Premise = λ r. if r.0.0 == c.args.row.0 then r.1 else [] in
    c.loop-rule.invariant
    ∙ ap (λ ps. c.args.premises.items ++ ps)
    (ap (flat_map (λ (r : CodeRule). Of (told r))) (take_all c.loop-rule.rule-index items c.loop-rule-test.false)
    ∙ (sym (flat_map_of_map Of told items) ∙ ap (flat_map Of) c.table-rule-items.ensures))
