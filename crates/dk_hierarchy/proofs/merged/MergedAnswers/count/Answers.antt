use Rattle.std.specs.Prelude.{List, sum_by}
use Rattle.std.proofs.Common.{◌∙◌, ap, arith}
use Rattle.std.proofs.lemmas.List.{take_all}
use Rattle.dk_presence.specs.Patterns.{capped}
use Rattle.dk_hierarchy.specs.Merging.{count_through, merged_count}
use Rattle.dk_hierarchy.specs.declared.way.Way.{Way}
use Rattle.dk_hierarchy.proofs.merged.MergedAnswers.count.Goals as goal

pub returns : goal.returns
unfolding merged_count
returns c =
    c.loop-way.invariant
    ∙ ap (λ (ws : List Way). capped (sum_by (count_through c.args.self.now c.args.vars.now) ws)) (take_all c.loop-way.way-index c.ways-ways.result.now (omega (arith, c.loop-way-test.false)) ∙ c.ways-ways.ensures.ways)
