use Rattle.std.proofs.Common.{◌≡◌, ◌∙◌, ◌++◌, arith, ap, sym, slice_get, List, ℕ, Some}
use Rattle.dk_engine.specs.Reading.Levels.{Whole}
use Rattle.dk_events.proofs.Followed.{got}
use Rattle.dk_hierarchy.specs.Samples.{own_samples_of}
use Rattle.dk_split.proofs.Sections.{none_written, on_ok, some_written}
use Rattle.dk_split.proofs.splits.Splits.push_section.Goals as goal

pub returns-then-counts-eq0 : goal.returns-then-counts-eq0
returns-then-counts-eq0 c samples stands =
    let p = c.args.p.0 in
    let split = c.index-split.result.now in
    let at : slice_get c.args.self.now.splits.items p ≡ Some split = got c.args.self.now.splits.items p split (omega (arith, c.requires.within, c.requires.fits.long)) c.index-split.ensures in
    none_written c.args.points.now samples p split c.args.least (stands.splits p split at) c.args.text.now
    (sym (c.counts.ensures.samples ∙ ap (λ (w : Whole). w.kept.samples) c.whole.ensures) ∙ c.if-counts-eq0.true)

pub returns : goal.returns
returns c =
    let p = c.args.p.0 in
    let split = c.index-split.result.now in
    let at : slice_get c.args.self.now.splits.items p ≡ Some split = got c.args.self.now.splits.items p split (omega (arith, c.requires.within, c.requires.fits.long)) c.index-split.ensures in
    let is = c.requires.fits.each p split at in
    on_ok c.push_implications.result _ _
    (λ says samples stands.
    says (own_samples_of c.args.points.now samples p) (stands.splits p split at)
    ∙ ap (λ (l : List ℕ). c.args.text.now ++ l)
    (some_written c.args.points.now samples p split c.args.least (stands.splits p split at) c.name.result.now
    (λ e. c.if-counts-eq0.false (c.counts.ensures.samples ∙ ap (λ (w : Whole). w.kept.samples) c.whole.ensures ∙ e))
    c.name.ensures is.by_grammar is.infos))
    c.push_implications.ensures
