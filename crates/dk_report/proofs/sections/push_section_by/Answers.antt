use Rattle.std.specs.Prelude.{◌≡◌, ◌<◌, ◌++◌, [], ℕ, All, List, Some, length, slice_get}
use Rattle.std.proofs.Common.{◌∙◌, ap, append-nil, subst, sym}
use Rattle.std.proofs.lemmas.List.Elements.{All-nil}
use Rattle.dk_base.specs.declared.kinds.VarId.{VarId}
use Rattle.dk_hierarchy.specs.Merging.{Joint}
use Rattle.dk_hierarchy.proofs.TableEngines.{vars_are}
use Rattle.dk_hierarchy.specs.Samples.{all_vars_of, samples_of}
use Rattle.dk_hierarchy.specs.Standing.{IsMergedAt}
use Rattle.dk_hierarchy.specs.declared.way.Way.{Way}
use Rattle.dk_points.specs.Table.{names}
use Rattle.dk_presence.specs.Patterns.{count_of}
use Rattle.dk_report.proofs.Reported.{none_counted, same_section, section_none, section_some, some_counted}
use Rattle.dk_report.proofs.Stated.{name_at}
use Rattle.dk_report.specs.Engines.{grammar_at}
use Rattle.dk_report.specs.Reports.{kept_instances, name_in_table}
use Rattle.dk_report.proofs.sections.push_section_by.Goals as goal

pub count-samples-requires-clause-there : goal.count-samples-requires-clause-there
count-samples-requires-clause-there c = let joint : Joint = c.in_ok-merged.merged in All-nil (λ (v : VarId). v.0 < length joint.here.infos)

pub kept_by-requires-clause-here : goal.kept_by-requires-clause-here
kept_by-requires-clause-here c = subst (λ (j : Joint). slice_get c.args.engines.now c.args.p.0 ≡ Some j.here) (sym c.in_ok-here.ensures) c.in_ok-merged.ensures.here

pub kept_by-requires-clause-same : goal.kept_by-requires-clause-same
kept_by-requires-clause-same c = ap (λ (j : Joint). j.engines) c.in_ok-here.ensures ∙ c.in_ok-merged.ensures.engines

pub kept_by-requires-clause-paths : goal.kept_by-requires-clause-paths
kept_by-requires-clause-paths c = subst (λ (j : Joint). All (λ (way : Way). 0 < way.paths) j.ways) (sym c.in_ok-here.ensures) c.in_ok-merged.ensures.paths

pub kept_by-requires-clause-stands : goal.kept_by-requires-clause-stands
kept_by-requires-clause-stands c = subst (IsMergedAt c.args.points.now c.args.engines.now c.args.p.0) (sym c.in_ok-here.ensures) c.in_ok-merged.ensures.stands

pub returns-then-samples-eq0-clause-text : goal.returns-then-samples-eq0-clause-text
returns-then-samples-eq0-clause-text c = λ own stand.
    let ps = c.args.points.now in
    let p = c.args.p.0 in
    let joint : Joint = c.in_ok-merged.merged in
    let counted = c.count-samples.ensures ∙ (c.in_ok-merged.ensures.stands own stand).count [] (All-nil (λ (v : VarId). v.0 < length joint.here.infos)) in
    let none = none_counted (samples_of ps own p) c.count-samples.result counted c.if-samples-eq0.true in
    sym (ap (λ (t : List ℕ). c.args.text.now ++ t) (section_none (grammar_at c.args.engines.now p) c.args.options.now ps own p none) ∙ append-nil c.args.text.now)

pub returns-clause-text : goal.returns-clause-text
returns-clause-text c = λ own stand.
    let ps = c.args.points.now in
    let es = c.args.engines.now in
    let p = c.args.p.0 in
    let options = c.args.options.now in
    let joint : Joint = c.in_ok-merged.merged in
    let counted = c.count-samples.ensures ∙ (c.in_ok-merged.ensures.stands own stand).count [] (All-nil (λ (v : VarId). v.0 < length joint.here.infos)) in
    let some = some_counted (samples_of ps own p) c.count-samples.result counted c.if-samples-eq0.false in
    let vars = c.vars-vars.ensures ∙ vars_are ps es c.requires.engines p c.index-engines-p.result c.requires.point c.index-engines-p.is in
    let list = c.as_slice.ensures ∙ c.in_ok-list.ensures own stand in
    c.in_ok-push_section.ensures
    ∙ ap (λ (t : List ℕ). c.args.text.now ++ t)
    (same_section c.name.result.now (name_in_table ps p) c.count-samples.result (count_of [] (samples_of ps own p)) c.vars-vars.result.now (all_vars_of ps p) c.as_slice.result.now (kept_instances (grammar_at es p) options ps own p)
    (sym (name_at (names ps) p c.name.result.now c.name.ensures)) counted vars list
    ∙ sym (section_some (grammar_at es p) options ps own p some))
