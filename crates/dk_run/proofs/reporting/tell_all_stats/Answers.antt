use Rattle.std.proofs.Common.{◌≤◌, ◌<◌, ◌++◌, List, length, refl, subst, arith}
use Rattle.std.proofs.lemmas.Result.{err_from_is_err_and}
use Rattle.dk_core.proofs.Taking.{reads_of}
use Rattle.dk_core.specs.Sections.{stats_of, all_stats_of}
use Rattle.dk_core.specs.Standing.{SessionStandsFor}
use Rattle.dk_points.specs.Table.{Point}
use Rattle.dk_run.proofs.Writing.{cut_short, cut_then, told_then, texts_all, texts_behind, texts_more, texts_to, told_nothing, told_same}
use Rattle.dk_run.proofs.reporting.tell_all_stats.Goals as goal

pub loop-p-init : goal.loop-p-init
loop-p-init g c = told_nothing (SessionStandsFor c.args.session.now) _ _ _ (λ h stands. refl)

pub loop-p-preserved : goal.loop-p-preserved
loop-p-preserved g c =
    let within : c.loop-p.p < length c.points-points.result.now = omega arith in
    told_same (SessionStandsFor c.args.session.now) (λ h. texts_to (stats_of h) c.loop-p.p 0 h.table ++ stats_of h c.loop-p.p) _ _ _ _ _
    (λ h stands. texts_more (stats_of h) c.loop-p.p h.table (subst (λ (ps : List Point). c.loop-p.p < length ps) (c.points-points.ensures.table h (reads_of c.args.session.now.kept h stands)) within))
    (told_then (SessionStandsFor c.args.session.now) (λ h. texts_to (stats_of h) c.loop-p.p 0 h.table) (λ h. stats_of h c.loop-p.p) _ _ _ _ _ _ c.loop-p.invariant c.in_ok-tell_stats.ensures)

pub returns-in_err-tell_stats : goal.returns-in_err-tell_stats
unfolding all_stats_of
returns-in_err-tell_stats g c =
    let p = err_from_is_err_and c.from_residual.result c.from_residual.ensures.1 in
    let within : c.loop-p.p < length c.points-points.result.now = omega arith in
    rw (p.1, p.2) (cut_short (SessionStandsFor c.args.session.now) (λ h. texts_to (stats_of h) c.loop-p.p 0 h.table ++ stats_of h c.loop-p.p) (λ h. all_stats_of h) _ _ _ _ c.in_err-tell_stats.field-0.0
    (λ h stands. texts_behind (stats_of h) c.loop-p.p h.table (subst (λ (ps : List Point). c.loop-p.p < length ps) (c.points-points.ensures.table h (reads_of c.args.session.now.kept h stands)) within))
    (cut_then (SessionStandsFor c.args.session.now) (λ h. texts_to (stats_of h) c.loop-p.p 0 h.table) (λ h. stats_of h c.loop-p.p) _ _ _ _ _ _ _ c.loop-p.invariant c.in_err-tell_stats.ensures))

pub returns : goal.returns
unfolding all_stats_of
returns g c =
    let above : length c.points-points.result.now ≤ c.loop-p.p = omega arith in
    told_same (SessionStandsFor c.args.session.now) (λ h. texts_to (stats_of h) c.loop-p.p 0 h.table) (λ h. all_stats_of h) _ _ _ _
    (λ h stands. texts_all (stats_of h) c.loop-p.p h.table (subst (λ (ps : List Point). length ps ≤ c.loop-p.p) (c.points-points.ensures.table h (reads_of c.args.session.now.kept h stands)) above))
    c.loop-p.invariant
