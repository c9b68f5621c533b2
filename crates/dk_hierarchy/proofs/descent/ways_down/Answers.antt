use Rattle.std.specs.Prelude.{◌≡◌, [], ◌∷◌, ℕ, List, length, slice_index}
use Rattle.std.proofs.Common.{◌∙◌, ap, arith, subst, sym}
use Rattle.dk_engine.specs.Reading.Levels.{Whole}
use Rattle.dk_points.proofs.Nodes.{length-nodes}
use Rattle.dk_hierarchy.proofs.Following.{at_first, ways_taken}
use Rattle.dk_hierarchy.proofs.MoreWays.{above_all, above_below, above_last}
use Rattle.dk_hierarchy.proofs.TableEngines.{vars_are, vars_few}
use Rattle.dk_hierarchy.specs.Descent.{AreLevels, first_way, ways_in, with_way_at}
use Rattle.dk_hierarchy.specs.Shortcuts.{IsDescentBy}
use Rattle.dk_hierarchy.specs.Samples.{all_vars_of}
use Rattle.dk_hierarchy.specs.declared.way.Way.{Way}
use Rattle.dk_hierarchy.proofs.descent.ways_down.Goals as goal

pub overflow_cast-number : goal.overflow_cast-number
overflow_cast-number c =
    let few = vars_few c.args.points.now c.args.engines.now c.requires.engines c.args.top.0 c.index-engines-top.result c.requires.point c.index-engines-top.is in
    let same = ap length c.vars.ensures in
    let read = ap (λ (e : Whole). length e.infos) c.index-engines-top.is in
    omega (arith, few, same, read)

pub bounds-ranks-top : goal.bounds-ranks-top
bounds-ranks-top c =
    let all = c.ranks-ranks.ensures.all in
    let long = length-nodes c.args.points.now in
    omega (arith, all, long, c.requires.point)

pub loop-rank-init : goal.loop-rank-init
loop-rank-init c =
    let ps = c.args.points.now in
    let p = c.args.top.0 in
    let shortcuts = c.args.shortcuts.now in
    let rank = slice_index c.ranks-ranks.result.now p in
    let number : length c.vars.result.now ≡ length (all_vars_of ps p) =
    ap length c.vars.ensures
    ∙ ap length (vars_are ps c.args.engines.now c.requires.engines p c.index-engines-top.result c.requires.point c.index-engines-top.is) in
    let first : c.in_ok-first.first ≡ first_way p (length (all_vars_of ps p)) = c.in_ok-first.ensures ∙ ap (first_way p) number in
    let levels : c.add.new.self ≡ (rank, first_way p (length (all_vars_of ps p)) ∷ []) ∷ [] =
    c.in_ok-add.ensures
    ∙ (ap (λ (ls : List (ℕ × List Way)). with_way_at ls rank c.in_ok-first.first) c.new-levels.ensures
    ∙ ap (λ (w : Way). (rank, w ∷ []) ∷ []) first) in
    subst (λ (ws : List Way). IsDescentBy ps shortcuts p ws (ways_in c.add.new.self) × AreLevels c.ranks-ranks.result.now c.add.new.self) (sym c.new-ways.ensures)
    (at_first ps c.ranks-ranks.result.now shortcuts p c.requires.point c.add.new.self levels)

pub follow-requires-clause-descent : goal.follow-requires-clause-descent
follow-requires-clause-descent c =
    subst (IsDescentBy c.args.points.now c.args.shortcuts.now c.args.top.0 c.loop-rank.ways)
    (ways_taken c.loop-rank.levels c.pop.new.self c.in-Some.rank c.in-Some.level c.in-Some.ensures.some) c.loop-rank.invariant.0

pub follow-requires-clause-levels : goal.follow-requires-clause-levels
follow-requires-clause-levels c = subst (AreLevels c.ranks-ranks.result.now) c.in-Some.ensures.some c.loop-rank.invariant.1

pub loop-rank-smaller : goal.loop-rank-smaller
loop-rank-smaller c =
    let taken = ap above_all c.in-Some.ensures.some in
    let last = above_last c.pop.new.self (c.in-Some.rank, c.in-Some.level) in
    let below = above_below c.in-Some.rank c.follow.new.levels c.in_ok-follow.ensures.below in
    omega (arith, taken, last, below)

pub returns : goal.returns
returns c = subst (λ (ls : List (ℕ × List Way)). IsDescentBy c.args.points.now c.args.shortcuts.now c.args.top.0 c.loop-rank.ways (ways_in ls)) c.in_default.ensures.none c.loop-rank.invariant.0
