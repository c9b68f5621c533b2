use Rattle.std.specs.Prelude.{[], ◌∷◌, ℕ, List, length, sum_by, take}
use Rattle.std.proofs.Common.{◌∙◌, arith, subst, sym}
use Rattle.std.proofs.lemmas.List.{take_all}
use Rattle.dk_hierarchy.specs.Merging.{count_through, merged_count}
use Rattle.dk_hierarchy.specs.declared.way.Way.{Way}
use Rattle.dk_presence.specs.Patterns.{capped}
use Rattle.dk_report.proofs.Counts.{none-found, way-more}
use Rattle.dk_report.specs.Counting.{AreFound}
use Rattle.dk_report.proofs.counting.single_counts.Goals as goal

pub loop-way-init : goal.loop-way-init
loop-way-init c =
    let counts = λ (v : ℕ). capped (sum_by (count_through c.args.merged.now (record { 0 = v } ∷ [])) (take 0 c.ways-ways.result.now)) in
    subst (AreFound counts) (sym c.in_ok-found.ensures) (none-found (length c.vars.result.now) counts (λ v. omega arith))

pub loop-way-preserved : goal.loop-way-preserved
loop-way-preserved c =
    let joint = c.args.merged.now in
    let ways = c.ways-ways.result.now in
    let i = c.loop-way.way-index in
    let way = c.way-item.result in
    let engine = c.engine_at-engine.result.now in
    way-more joint ways i way c.loop-way-test.true c.way-item.is engine c.engine_at-engine.ensures c.add_way.new.found.items
    (c.add_way.ensures (λ v. sum_by (count_through joint (record { 0 = v } ∷ [])) (take i ways)) c.loop-way.invariant)

pub returns : goal.returns
unfolding merged_count
returns c =
    let joint = c.args.merged.now in
    subst (λ (ws : List Way). AreFound (λ v. capped (sum_by (count_through joint (record { 0 = v } ∷ [])) ws)) c.loop-way.found.items)
    (take_all c.loop-way.way-index c.ways-ways.result.now (omega (arith, c.loop-way-test.false)) ∙ c.ways-ways.ensures.ways)
    c.loop-way.invariant
