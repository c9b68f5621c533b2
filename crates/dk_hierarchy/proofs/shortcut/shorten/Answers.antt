use Rattle.std.specs.Prelude.{◌≡◌, [], ◌∷◌, slice_set, Some}
use Rattle.std.proofs.Common.{◌∙◌, ap, arith, get_or, subst, sym}
use Rattle.dk_graph.proofs.Ranked.{deeper}
use Rattle.dk_graph.specs.Graphs.{edges_into}
use Rattle.dk_graph.specs.declared.nodes.Edge.{Edge}
use Rattle.dk_points.specs.Links.{nodes}
use Rattle.dk_hierarchy.proofs.Passing.{one_item, passed, unfed}
use Rattle.dk_hierarchy.proofs.TableEngines.{engine_got}
use Rattle.dk_hierarchy.specs.Samples.{own_samples_of}
use Rattle.dk_hierarchy.specs.Shortcuts.{AreShortcuts, shortcut_at, shortened, way_of_edge}
use Rattle.dk_hierarchy.specs.declared.way.Way.{Way}
use Rattle.dk_hierarchy.proofs.shortcut.shorten.Goals as goal

pub returns-in_ok-go_on : goal.returns-in_ok-go_on
returns-in_ok-go_on c =
    let ps = c.args.points.now in
    let engines = c.args.engines.now in
    let old = c.args.shortcuts.now in
    let p = c.args.p.0 in
    let engine = c.index-engines-p.result in
    let none : Edge = record { child = record { 0 = 0 }; parent = record { 0 = 0 }; number = 0 } in
    let items = c.into.result.now in
    let e : Edge = get_or items 0 none in
    let only : edges_into (nodes ps) p ≡ e ∷ [] = sym c.into.ensures.edges ∙ one_item items none (omega (arith, c.in-len1.len_at_least, c.in-len1.len_below)) in
    let way : c.in_ok-way.way ≡ way_of_edge ps e = c.in_ok-way.ensures in
    let on : c.go_on.new.way ≡ shortened (shortcut_at old e.child.0) (way_of_edge ps e) =
    c.in_ok-go_on.ensures ∙ ap (λ (w : Way). shortened (shortcut_at old w.point.0) w) way in
    let got = engine_got ps engines c.requires.engines p engine c.requires.point c.index-engines-p.is in
    let point = c.requires.point in
    let long = c.requires.long in
    let fed = c.counts.ensures.samples in
    let unread : engine.kept.samples ≡ 0 = omega (arith, fed, c.if-counts-gt0.false) in
    subst (λ (w : Way). AreShortcuts ps engines (slice_set old p (Some w))) (sym on)
    (passed ps p e only engines old c.requires.shortcuts (deeper (nodes ps) c.requires.acyclic) (omega (arith, point, long))
    (λ own stand. unfed (own_samples_of ps own p) engine.kept.samples (stand p engine got).kept_is.number unread))
