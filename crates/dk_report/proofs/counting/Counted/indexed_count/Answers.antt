use Rattle.std.proofs.Common.{◌≡◌, ◌<◌, ◌+◌, ◌∙◌, List, arith, ap, get_or, length, rules, subst, sum_by, sym, take}
use Rattle.std.proofs.lemmas.List.{take_all}
use Rattle.dk_bitmaps.specs.Bitmaps.{Indexed}
use Rattle.dk_hierarchy.specs.Merging.{Joint, count_through, engine_at, merged_count}
use Rattle.dk_hierarchy.specs.declared.way.Way.{Way}
use Rattle.dk_presence.specs.Patterns.{capped}
use Rattle.dk_report.specs.Counting.{AreIndexes, IsIndexOf}
use Rattle.dk_report.proofs.Indexes.{brought-more}
use Rattle.dk_report.proofs.counting.Counted.indexed_count.Goals as goal

pub loop-place-preserved : goal.loop-place-preserved
loop-place-preserved c =
    let joint : Joint = c.args.self.now in
    let place = c.loop-place.place in
    let way : Way = c.index-ways-place.result in
    let index : Indexed = c.index-indexes-place.result in
    let view : c.self.inside.merged ≡ joint = search rules in
    let held : c.as_slice-indexes.result.now ≡ c.self.inside.indexes.items = c.as_slice-indexes.ensures.value in
    let are : AreIndexes joint c.as_slice-indexes.result.now =
    subst (AreIndexes joint) (sym held) (subst (λ (j : Joint). AreIndexes j c.self.inside.indexes.items) view c.self.invariant.1)
    in
    let ways = c.ways-ways.ensures.ways in
    let vars = c.args.vars.now in
    let test = c.loop-place-test.true in
    let same_length = c.if-indexes-ways.false in
    let within : place < length joint.ways = subst (λ (ws : List Way). place < length ws) ways test in
    let is_of : IsIndexOf (engine_at joint (get_or joint.ways place way)).kept index =
    subst (IsIndexOf (engine_at joint (get_or joint.ways place way)).kept) (sym c.index-indexes-place.is) (are place index way (omega (arith, test, same_length)))
    in
    let at : way ≡ get_or joint.ways place way = c.index-ways-place.is ∙ ap (λ (ws : List Way). get_or ws place way) ways in
    let before = subst (λ (ws : List Way). c.loop-place.count ≡ capped (sum_by (count_through joint vars) (take place ws))) ways c.loop-place.invariant in
    let more = c.in_ok-more.ensures (engine_at joint (get_or joint.ways place way)).kept is_of in
    subst (λ (ws : List Way). c.saturating_add-count.result ≡ capped (sum_by (count_through joint vars) (take (place + 1) ws))) (sym ways)
    (c.saturating_add-count.ensures ∙ brought-more joint vars place way c.loop-place.count c.in_ok-more.more within at before more)

pub returns : goal.returns
unfolding merged_count
returns c =
    let joint : Joint = c.args.self.now in
    let vars = c.args.vars.now in
    let past = c.loop-place-test.false in
    c.loop-place.invariant
    ∙ ap (λ (ws : List Way). capped (sum_by (count_through joint vars) ws)) (take_all c.loop-place.place c.ways-ways.result.now (omega (arith, past)) ∙ c.ways-ways.ensures.ways)
