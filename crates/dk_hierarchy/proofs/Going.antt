-- The laws of ways.
use Rattle.std.specs.Prelude.{◌++◌, [], ◌∷◌, All, List, fold}
use Rattle.std.proofs.Common.{subst}
use Rattle.std.proofs.lemmas.List.{append-nil}
use Rattle.dk_graph.proofs.Ranked.{deeper}
use Rattle.dk_graph.specs.Graphs.{edges_into}
use Rattle.dk_instances.proofs.Fitting.{fit_of_set}
use Rattle.dk_points.specs.Links.{nodes}
use Rattle.dk_hierarchy.proofs.Descending.{IsInto, begun, below_is_way, by_any, by_none, more_paths, others_are, way_done, way_is}
use Rattle.dk_hierarchy.proofs.MoreWays.{all_with_way, each_added, each_holds, way_added}
use Rattle.dk_hierarchy.proofs.Onward.{brought_below}
use Rattle.dk_hierarchy.specs.Descent.{IsWayDown}
use Rattle.dk_hierarchy.specs.Samples.{own_samples_of, samples_of}
use Rattle.dk_hierarchy.specs.Shortcuts.{IsDescentBy}
use Rattle.dk_hierarchy.specs.WayLaws.{DescentsBegin, DescentsEnd, DescentsGoOn, EqualWaysAreOne, SameSamplesSayTheSame, WaysGoOn}
use Rattle.dk_hierarchy.specs.Ways.{SamplesTellTheSame, samples_through_all, way_below, with_way}
use Rattle.dk_hierarchy.specs.declared.way.Way.{Way}

pub same_samples : SameSamplesSayTheSame
same_samples first second same row is vars = fit_of_set row is vars first second same.samples

pub ways_go_on : WaysGoOn
ways_go_on ps free own way = brought_below ps (deeper (nodes ps) free) own way

pub equal_ways : EqualWaysAreOne
equal_ways samples ways way = way_added samples ways way

pub descents_begin : DescentsBegin
descents_begin ps free p within = begun ps p within

pub descents_go_on : DescentsGoOn
descents_go_on ps free p ways before after way into is =
    let by : IsDescentBy ps [] p ways (before ++ way ∷ after) = by_any ps p [] ways (before ++ way ∷ after) is in
    let left : List Way = fold (λ left e. with_way left (way_below ps way e)) (before ++ after) (edges_into (nodes ps) way.point.0) in
    by_none ps p (ways ++ way ∷ []) left
    (way_done ps p [] ways before after way by (deeper (nodes ps) free) left
    (each_holds (All (IsWayDown ps p)) (IsInto ps p way.point.0) (λ left e. with_way left (way_below ps way e))
    (λ left e all into. all_with_way (IsWayDown ps p) (more_paths ps p) left (way_below ps way e) all (below_is_way ps p way (way_is ps p [] ways before after way by) e into))
    (before ++ after) (edges_into (nodes ps) way.point.0) (others_are ps p [] ways before after way by) into)
    (λ own hold. each_added (samples_of ps own) (λ left. left) (λ left e. with_way left (way_below ps way e)) (way_below ps way)
    (λ left e. way_added (samples_of ps own) left (way_below ps way e)) (before ++ after) (edges_into (nodes ps) way.point.0)))

pub descents_end : DescentsEnd
descents_end ps p ways is own = subst (SamplesTellTheSame (samples_of ps own p)) (append-nil (samples_through_all (own_samples_of ps own) ways)) (is.brings own)
