use Rattle.std.proofs.Common.{◌≡◌, ◌+◌, arith, length, rules, subst, sym, List}
use Rattle.dk_engine.specs.Reading.Levels.{Whole}
use Rattle.dk_verdicts.proofs.Engines.{AreFirstUnfed, all_unfed, one_engine_more, those_known}
use Rattle.dk_verdicts.proofs.reading.add_engines.Goals as goal

pub loop-place-init : goal.loop-place-init
loop-place-init c =
    let same : length c.args.engines.now.items ≡ c.len-place.result = search rules in
    subst (AreFirstUnfed c.args.points.now c.args.engines.now.items) same (those_known c.args.points.now c.args.engines.now.items c.requires.few c.requires.known)

pub loop-place-preserved : goal.loop-place-preserved
loop-place-preserved c =
    let e = c.in_ok-engine_of.ensures in
    subst (λ (l : List Whole). AreFirstUnfed c.args.points.now l (c.loop-place.place + 1)) (sym c.in_ok-push.ensures.items)
    (one_engine_more c.args.points.now c.loop-place.engines.items c.loop-place.place c.in_ok-engine_of.field-0 c.loop-place.invariant e.infos e.point e.grammar)

pub returns : goal.returns
returns c =
    let ends : c.loop-place.place ≡ length c.args.points.now = omega arith in
    all_unfed c.args.points.now c.loop-place.engines.items c.loop-place.place c.loop-place.invariant ends
