use Rattle.std.specs.Prelude.{◌++◌, List, ℕ}
use Rattle.std.proofs.Common.{◌∙◌, ap, append-nil, sym}
use Rattle.dk_hierarchy.proofs.TableEngines.{engine_got}
use Rattle.dk_report.proofs.Stated.{none_has, none_stats, same_counts, some_has, some_stats}
use Rattle.dk_report.specs.Sizes.{counts_of}
use Rattle.dk_report.proofs.stats.push_stats.Goals as goal

pub returns-then-counts-eq0-clause-samples : goal.returns-then-counts-eq0-clause-samples
returns-then-counts-eq0-clause-samples c = λ own stand.
    let ps = c.args.points.now in
    let es = c.args.engines.now in
    let engine = c.index-engines-p.result in
    let got = engine_got ps es c.requires.engines c.args.p.0 engine c.requires.point c.index-engines-p.is in
    sym (none_has ps es c.requires.engines c.args.p.0 engine got own stand (sym c.counts-counts.ensures.samples ∙ c.if-counts-eq0.true))

pub returns-then-counts-eq0-clause-text : goal.returns-then-counts-eq0-clause-text
returns-then-counts-eq0-clause-text c = λ own stand.
    let ps = c.args.points.now in
    let es = c.args.engines.now in
    let engine = c.index-engines-p.result in
    let got = engine_got ps es c.requires.engines c.args.p.0 engine c.requires.point c.index-engines-p.is in
    sym (ap (λ (t : List ℕ). c.args.text.now ++ t) (none_stats ps es c.requires.engines c.args.p.0 engine got own stand (sym c.counts-counts.ensures.samples ∙ c.if-counts-eq0.true)) ∙ append-nil c.args.text.now)

pub returns-clause-samples : goal.returns-clause-samples
returns-clause-samples c = λ own stand.
    let ps = c.args.points.now in
    let es = c.args.engines.now in
    let engine = c.index-engines-p.result in
    let got = engine_got ps es c.requires.engines c.args.p.0 engine c.requires.point c.index-engines-p.is in
    sym (some_has ps es c.requires.engines c.args.p.0 engine got own stand (λ e. c.if-counts-eq0.false (c.counts-counts.ensures.samples ∙ e)))

pub returns-clause-text : goal.returns-clause-text
returns-clause-text c = λ own stand.
    let ps = c.args.points.now in
    let es = c.args.engines.now in
    let engine = c.index-engines-p.result in
    let got = engine_got ps es c.requires.engines c.args.p.0 engine c.requires.point c.index-engines-p.is in
    let counts = same_counts c.counts-counts.result (counts_of engine.kept) c.counts-counts.ensures.samples c.counts-counts.ensures.leaders c.counts-counts.ensures.constants c.counts-counts.ensures.patterns c.counts-counts.ensures.slots in
    c.in_ok-push_stats.ensures
    ∙ ap (λ (t : List ℕ). c.args.text.now ++ t)
    (some_stats ps es c.requires.engines c.args.p.0 engine got own stand (λ e. c.if-counts-eq0.false (c.counts-counts.ensures.samples ∙ e)) c.counts-counts.result counts c.name.result.now c.name.ensures)
