use Rattle.std.proofs.Common.{◌≡◌, ◌+◌, rules, sym, subst, List, length}
use Rattle.dk_implications.specs.Standing.{Engines}
use Rattle.dk_split.proofs.Keeping.{AreGrowing, growing_more, growing_none}
use Rattle.dk_split.proofs.splits.keep_up.Goals as goal

pub loop-place-init : goal.loop-place-init
loop-place-init c =
    let same : length c.args.splits.now.items ≡ c.len-place.result = search rules in
    subst (AreGrowing c.args.points.now c.args.splits.now.items c.args.splits.now.items) same (growing_none c.args.points.now c.args.splits.now.items)

pub loop-place-preserved : goal.loop-place-preserved
loop-place-preserved c =
    let e = c.in_ok-new.ensures in
    subst (λ (l : List Engines). AreGrowing c.args.points.now c.args.splits.now.items l (c.loop-place.place + 1)) (sym c.in_ok-push.ensures.items)
    (growing_more c.args.points.now c.args.splits.now.items c.loop-place.splits.items c.loop-place.place c.in_ok-new.field-0
    (record { at = record { infos = e.infos; by_grammar = e.grammar }; stands = e.stand }) c.loop-place.invariant)
