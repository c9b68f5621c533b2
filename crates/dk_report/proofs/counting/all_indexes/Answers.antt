use Rattle.std.specs.Prelude.{◌≡◌, ◌<◌, List, length}
use Rattle.std.proofs.Common.{◌∙◌, ◌+◌, ap, arith, get_or, subst, sym}
use Rattle.std.proofs.lemmas.List.{length_push}
use Rattle.dk_bitmaps.specs.Bitmaps.{Indexed}
use Rattle.dk_hierarchy.specs.declared.way.Way.{Way}
use Rattle.dk_report.proofs.Indexes.{index-more}
use Rattle.dk_report.specs.Counting.{AreIndexes}
use Rattle.dk_report.proofs.counting.all_indexes.Goals as goal

pub loop-way-init : goal.loop-way-init
loop-way-init c =
    let none = ap (λ (is : List Indexed). length is) c.new-indexes.ensures.items in
    record {
      long = none;
      are = λ k index way l. absurd (omega (arith, l, none));
    }

pub loop-way-preserved : goal.loop-way-preserved
loop-way-preserved c =
    let joint = c.args.merged.now in
    let i = c.loop-way.way-index in
    let way = c.way-item.result in
    let indexes = c.loop-way.indexes.items in
    let index = c.in_ok-index.index in
    let same = c.ways-ways.ensures.ways in
    let put = c.in_ok-push.ensures.items in
    let long = c.loop-way.invariant.long in
    let at : way ≡ get_or joint.ways i way = c.way-item.is ∙ ap (λ (ws : List Way). get_or ws i way) same in
    let within : i < length joint.ways = subst (λ (ws : List Way). i < length ws) same c.loop-way-test.true in
    record {
      long = ap (λ (is : List Indexed). length is) put ∙ (length_push indexes index ∙ ap (λ n. n + 1) long);
      are =
          subst (AreIndexes joint) (sym put)
          (index-more joint indexes i way c.engine_at-engine.result.now index long at within c.engine_at-engine.ensures c.in_ok-index.ensures c.loop-way.invariant.are);
    }
