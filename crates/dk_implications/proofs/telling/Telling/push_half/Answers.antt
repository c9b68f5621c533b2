use Rattle.std.specs.Prelude.{◌≡◌, ◌++◌, ℕ, All, List, flat_map}
use Rattle.std.proofs.Common.{ap, subst, sym, ◌∙◌}
use Rattle.dk_base.specs.declared.values.Value.{Value}
use Rattle.dk_engine.specs.Exact.{AreOfPoint}
use Rattle.dk_engine.specs.Reading.Levels.{Whole}
use Rattle.dk_filters.specs.declared.candidate.Candidate.{Candidate}
use Rattle.dk_hierarchy.specs.Standing.{EngineStandsFor}
use Rattle.dk_implications.proofs.Lines.{IsOneOf, half_instances, half_over, half_told, on_ok}
use Rattle.dk_implications.specs.Implications.{implied_by}
use Rattle.dk_implications.specs.Reports.{implication_line}
use Rattle.dk_implications.specs.Standing.{HalvesStandFor}
use Rattle.dk_implications.specs.Telling.{told_lines}
use Rattle.dk_implications.specs.declared.halves.Halves.{Halves}
use Rattle.dk_implications.proofs.telling.Telling.push_half.Goals as goal

pub kept_alone-requires : goal.kept_alone-requires
kept_alone-requires c =
    let whole : Whole = c.args.self.now.whole.now in
    let halves : Halves = c.args.halves.now in
    subst AreOfPoint (sym (ap (λ (e : Whole). e.infos) c.half.ensures ∙ (half_over whole.grammar whole.infos halves c.args.truth c.requires.over).1)) c.requires.point

pub push_told_lines-requires-clause-list : goal.push_told_lines-requires-clause-list
push_told_lines-requires-clause-list c =
    let whole : Whole = c.args.self.now.whole.now in
    let list : List Candidate = c.in_ok-list.list in
    subst (All (IsOneOf whole)) (sym c.as_slice.ensures)
    (half_instances whole c.args.halves.now c.requires.over c.args.truth c.half.result.now c.half.ensures list c.in_ok-list.ensures.instances)

pub returns : goal.returns
returns c =
    let whole : Whole = c.args.self.now.whole.now in
    let least = c.args.self.now.least in
    let halves : Halves = c.args.halves.now in
    let truth = c.args.truth in
    let list : List Candidate = c.in_ok-list.list in
    let old = c.args.text.now in
    let new = c.push_told_lines.new.text in
    let Told : List Candidate → Type 0 = λ cs. new ≡ old ++ told_lines whole halves.condition truth cs in
    on_ok c.push_told_lines.result (Told c.as_slice.result.now)
    ((samples : List (List Value)) → EngineStandsFor whole samples → HalvesStandFor halves samples
    → new ≡ old ++ flat_map (implication_line whole.infos) (implied_by whole.grammar least whole.infos samples halves.condition truth))
    (λ is samples stands stand.
    subst Told c.as_slice.ensures is
    ∙ ap (λ (t : List ℕ). old ++ t)
    (half_told whole halves c.requires.over truth c.half.result.now c.half.ensures list least c.requires.condition c.in_ok-list.ensures.instances c.all_filters-options.result c.all_filters-options.ensures
    c.in_ok-list.ensures.kept samples stands stand))
    c.push_told_lines.ensures
