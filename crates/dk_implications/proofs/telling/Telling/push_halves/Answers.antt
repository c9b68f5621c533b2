use Rattle.std.specs.Prelude.{◌≡◌, ◌++◌, List, flat_map, false}
use Rattle.std.proofs.Common.{sym, ◌∙◌}
use Rattle.dk_base.specs.declared.values.Value.{Value}
use Rattle.dk_engine.specs.Reading.Levels.{Whole}
use Rattle.dk_hierarchy.specs.Standing.{EngineStandsFor}
use Rattle.dk_implications.proofs.Lines.{both_told, conditions_there, none_told, on_ok}
use Rattle.dk_implications.specs.Implications.{implied_by}
use Rattle.dk_implications.specs.Reports.{implication_line}
use Rattle.dk_implications.specs.Standing.{HalvesStandFor}
use Rattle.dk_implications.specs.Telling.{lines_of}
use Rattle.dk_implications.specs.declared.halves.Halves.{Halves}
use Rattle.dk_implications.proofs.telling.Telling.push_halves.Goals as goal

pub is_first-requires-clause-all : goal.is_first-requires-clause-all
is_first-requires-clause-all c = conditions_there c.args.self.now.whole.now.infos c.args.all.now c.requires.conditions

pub returns-then-not-is_first : goal.returns-then-not-is_first
returns-then-not-is_first c samples stands stand =
    let whole : Whole = c.args.self.now.whole.now in
    none_told whole samples stands c.args.all.now c.requires.conditions c.args.halves.now.condition c.requires.condition c.args.self.now.least
    (sym c.is_first.ensures ∙ c.if-not-is_first.true) c.args.text.now

pub returns : goal.returns
returns c =
    let whole : Whole = c.args.self.now.whole.now in
    let least = c.args.self.now.least in
    let halves : Halves = c.args.halves.now in
    let old = c.args.text.now in
    let first = c.push_half.new.text in
    let second = c.push_half-2.new.text in
    on_ok c.push_half-2.result
    ((samples : List (List Value)) → EngineStandsFor whole samples → HalvesStandFor halves samples
    → second ≡ first ++ flat_map (implication_line whole.infos) (implied_by whole.grammar least whole.infos samples halves.condition false))
    ((samples : List (List Value)) → EngineStandsFor whole samples → HalvesStandFor halves samples
    → second ≡ old ++ lines_of whole.grammar least whole.infos samples halves.condition)
    (λ two samples stands stand.
    both_told whole samples stands c.args.all.now c.requires.conditions halves.condition c.requires.condition least
    (sym c.is_first.ensures ∙ c.if-not-is_first.false) old first second (c.in_ok-push_half.ensures samples stands stand) (two samples stands stand))
    c.push_half-2.ensures
