use Rattle.std.proofs.Common.{◌≤◌, ◌<◌, ◌++◌, false, List, length, refl, subst, arith}
use Rattle.std.proofs.lemmas.Result.{err_from_is_err_and}
use Rattle.dk_core.proofs.Taking.{reads_of}
use Rattle.dk_core.specs.Sections.{section_of, report_of}
use Rattle.dk_core.specs.Standing.{SessionStandsFor}
use Rattle.dk_points.specs.Table.{Point}
use Rattle.dk_run.specs.Commands.{is_selected, report_options}
use Rattle.dk_run.proofs.Sections.{mark_at}
use Rattle.dk_run.proofs.Writing.{cut_short, cut_then, told_then, texts_all, texts_behind, texts_more, texts_to, told_nothing, told_same}
use Rattle.dk_run.proofs.reporting.tell_marked.Goals as goal

pub tell_section-requires-clause-has : goal.tell_section-requires-clause-has
tell_section-requires-clause-has g c h stands =
    let within : c.loop-p.p < length c.points-points.result.now = omega arith in
    mark_at h c.args.marks.now c.loop-p.p false (c.requires.marks h stands)
    (subst (λ (ps : List Point). c.loop-p.p < length ps) (c.points-points.ensures.table h (reads_of c.args.session.now.kept h stands)) within)

pub loop-p-init : goal.loop-p-init
loop-p-init g c = told_nothing (SessionStandsFor c.args.session.now) _ _ _ (λ h stands. refl)

pub loop-p-preserved : goal.loop-p-preserved
loop-p-preserved g c =
    let within : c.loop-p.p < length c.points-points.result.now = omega arith in
    told_same (SessionStandsFor c.args.session.now) (λ h. texts_to (section_of (report_options c.args.command.now) (is_selected c.args.command.now) h) c.loop-p.p 0 h.table ++ section_of (report_options c.args.command.now) (is_selected c.args.command.now) h c.loop-p.p) _ _ _ _ _
    (λ h stands. texts_more (section_of (report_options c.args.command.now) (is_selected c.args.command.now) h) c.loop-p.p h.table (subst (λ (ps : List Point). c.loop-p.p < length ps) (c.points-points.ensures.table h (reads_of c.args.session.now.kept h stands)) within))
    (told_then (SessionStandsFor c.args.session.now) (λ h. texts_to (section_of (report_options c.args.command.now) (is_selected c.args.command.now) h) c.loop-p.p 0 h.table) (λ h. section_of (report_options c.args.command.now) (is_selected c.args.command.now) h c.loop-p.p) _ _ _ _ _ _ c.loop-p.invariant c.in_ok-tell_section.ensures)

pub returns-in_err-tell_section : goal.returns-in_err-tell_section
unfolding report_of
returns-in_err-tell_section g c =
    let p = err_from_is_err_and c.from_residual.result c.from_residual.ensures.1 in
    let within : c.loop-p.p < length c.points-points.result.now = omega arith in
    rw (p.1, p.2) (cut_short (SessionStandsFor c.args.session.now) (λ h. texts_to (section_of (report_options c.args.command.now) (is_selected c.args.command.now) h) c.loop-p.p 0 h.table ++ section_of (report_options c.args.command.now) (is_selected c.args.command.now) h c.loop-p.p) (λ h. report_of (report_options c.args.command.now) (is_selected c.args.command.now) h) _ _ _ _ c.in_err-tell_section.field-0.0
    (λ h stands. texts_behind (section_of (report_options c.args.command.now) (is_selected c.args.command.now) h) c.loop-p.p h.table (subst (λ (ps : List Point). c.loop-p.p < length ps) (c.points-points.ensures.table h (reads_of c.args.session.now.kept h stands)) within))
    (cut_then (SessionStandsFor c.args.session.now) (λ h. texts_to (section_of (report_options c.args.command.now) (is_selected c.args.command.now) h) c.loop-p.p 0 h.table) (λ h. section_of (report_options c.args.command.now) (is_selected c.args.command.now) h c.loop-p.p) _ _ _ _ _ _ _ c.loop-p.invariant c.in_err-tell_section.ensures))

pub returns : goal.returns
unfolding report_of
returns g c =
    let above : length c.points-points.result.now ≤ c.loop-p.p = omega arith in
    told_same (SessionStandsFor c.args.session.now) (λ h. texts_to (section_of (report_options c.args.command.now) (is_selected c.args.command.now) h) c.loop-p.p 0 h.table) (λ h. report_of (report_options c.args.command.now) (is_selected c.args.command.now) h) _ _ _ _
    (λ h stands. texts_all (section_of (report_options c.args.command.now) (is_selected c.args.command.now) h) c.loop-p.p h.table (subst (λ (ps : List Point). length ps ≤ c.loop-p.p) (c.points-points.ensures.table h (reads_of c.args.session.now.kept h stands)) above))
    c.loop-p.invariant
