use Rattle.std.proofs.Common.{◌≡◌, ◌∙◌, ◌<◌, List, ap, arith, length, sym, subst}
use Rattle.dk_core.proofs.Asking.{asked, grammar_is, has_told, if_ok_map, on_ok_if, section_told}
use Rattle.dk_engine.specs.Reading.Levels.{Whole}
use Rattle.dk_hierarchy.specs.Shortcuts.{AreShortcuts}
use Rattle.dk_points.specs.Table.{Point}
use Rattle.dk_blocks.specs.Standing.{points_of as points_in}
use Rattle.dk_core.specs.Keeping.{Keeping}
use Rattle.dk_core.specs.Standing.{Stands}
use Rattle.dk_core.proofs.kept.SessionParts.push_section_by.Goals as goal

pub push_section_by-requires-clause-shortcuts : goal.push_section_by-requires-clause-shortcuts
push_section_by-requires-clause-shortcuts c =
    subst (λ (ps : List Point). AreShortcuts ps c.as_slice.result.now c.args.shortcuts.now) (sym (c.points.ensures.points ∙ ap (λ (x : Keeping). points_in x.reader) c.self.view_is))
    (subst (λ (es : List Whole). AreShortcuts (points_in c.args.self.now.reader) es c.args.shortcuts.now) (sym (c.as_slice.ensures.value ∙ ap (λ (x : Keeping). x.engines) c.self.view_is)) c.requires.shortcuts)

pub returns-clause-has : goal.returns-clause-has
returns-clause-has c h stands =
    let k : Keeping = record { reader = c.self.inside.reader; grammar = c.self.inside.grammar; engines = c.self.inside.engines.items } in
    let own : Stands k h = subst (λ (x : Keeping). Stands x h) (sym c.self.view_is) stands in
    if_ok_map c.push_section_by.result _ _ c.push_section_by.ensures.samples (λ some says. has_told k c.points.result.now h c.args.p.0 some own c.points.ensures.points (says h.samples (asked k c.points.result.now c.as_slice.result.now h own c.points.ensures.points c.as_slice.ensures.value)))

pub returns-clause-text : goal.returns-clause-text
returns-clause-text c h stands =
    let k : Keeping = record { reader = c.self.inside.reader; grammar = c.self.inside.grammar; engines = c.self.inside.engines.items } in
    let own : Stands k h = subst (λ (x : Keeping). Stands x h) (sym c.self.view_is) stands in
    let points : points_in c.self.inside.reader ≡ points_in c.args.self.now.reader = ap (λ (x : Keeping). points_in x.reader) c.self.view_is in
    let within : c.args.p.0 < length (points_in k.reader) = omega (arith, c.requires.point, ap length points) in
    (on_ok_if c.push_section_by.result _ _ c.push_section_by.ensures.text
    (λ says. section_told k c.points.result.now h c.args.p.0 c.args.options.now c.args.text.now c.push_section_by.new.text _ own c.points.ensures.points (grammar_is k c.as_slice.result.now c.args.p.0 c.self.invariant c.as_slice.ensures.value within) (says h.samples (asked k c.points.result.now c.as_slice.result.now h own c.points.ensures.points c.as_slice.ensures.value))))
