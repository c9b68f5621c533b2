use Rattle.std.proofs.Common.{◌≡◌, ◌+◌, rules, sym, subst, List, length}
use Rattle.dk_engine.specs.Reading.Levels.{Whole}
use Rattle.dk_core.proofs.Keeping.{AreGrowing, growing_more, growing_none}
use Rattle.dk_core.proofs.kept.with_new.Goals as goal

pub loop-place-init : goal.loop-place-init
loop-place-init c =
    let same : length c.args.engines.items ≡ c.len-place.result = search rules in
    subst (AreGrowing c.args.points.now c.args.grammar c.args.engines.items c.args.engines.items) same (growing_none c.args.points.now c.args.grammar c.args.engines.items)

pub loop-place-preserved : goal.loop-place-preserved
loop-place-preserved c =
    let e = c.in_ok-engine_of.ensures in
    subst (λ (l : List Whole). AreGrowing c.args.points.now c.args.grammar c.args.engines.items l (c.loop-place.place + 1)) (sym c.in_ok-push.ensures.items)
    (growing_more c.args.points.now c.args.grammar c.args.engines.items c.loop-place.engines.items c.loop-place.place c.in_ok-engine_of.field-0
    (record { infos = e.infos; point = e.point; by_grammar = e.grammar; stands = e.stands }) c.loop-place.invariant)
