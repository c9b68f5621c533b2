use Rattle.std.specs.Prelude.{◌≡◌, ◌++◌, ℕ, All, List, flat_map, length}
use Rattle.std.proofs.Common.{ap, append_assoc, subst, sym, ◌∙◌}
use Rattle.dk_base.specs.declared.values.Value.{Value}
use Rattle.dk_engine.specs.Reading.Levels.{Whole}
use Rattle.dk_hierarchy.specs.Standing.{EngineStandsFor}
use Rattle.dk_presence.specs.Patterns.{capped}
use Rattle.dk_print.specs.Sections.{heading}
use Rattle.dk_implications.proofs.Lines.{all_lines, on_ok}
use Rattle.dk_implications.specs.Implications.{implications_of}
use Rattle.dk_implications.specs.Reports.{implication_line, implications_text}
use Rattle.dk_implications.specs.Standing.{Engines, HalvesStandFor, StandFor}
use Rattle.dk_implications.specs.Telling.{lines_of}
use Rattle.dk_implications.specs.declared.halves.Halves.{Halves}
use Rattle.dk_implications.proofs.splits.Split.push_implications.Goals as goal

pub returns : goal.returns
unfolding implications_text
returns c =
    let whole : Whole = c.self.inside.whole in
    let all : List Halves = c.self.inside.halves.items in
    let least = c.args.least in
    let name = c.args.name.now in
    let old = c.args.text.now in
    let headed = c.push_heading.new.text in
    let new = c.push_all.new.text in
    let inside : Engines = record { whole = whole; halves = all } in
    let lines = λ (samples : List (List Value)) (hs : List Halves). flat_map (λ (halves : Halves). lines_of whole.grammar least whole.infos samples halves.condition) hs in
    on_ok c.push_all.result
    ((samples : List (List Value)) → EngineStandsFor whole samples → All (λ (halves : Halves). HalvesStandFor halves samples) c.as_slice.result.now
    → new ≡ headed ++ lines samples c.as_slice.result.now)
    ((samples : List (List Value)) → StandFor c.args.self.now samples
    → new ≡ old ++ implications_text c.args.self.now.whole.grammar least name c.args.self.now.whole.infos samples)
    (λ told samples stand.
    let stands : StandFor inside samples = subst (λ (e : Engines). StandFor e samples) (sym c.self.view_is) stand in
    let each = subst (All (λ (halves : Halves). HalvesStandFor halves samples)) (sym c.as_slice.ensures.value) stands.halves in
    let first : List ℕ = heading name (capped (length samples)) in
    let rest : List ℕ = flat_map (implication_line whole.infos) (implications_of whole.grammar least whole.infos samples) in
    let head : headed ≡ old ++ first = c.in_ok-push_heading.ensures ∙ ap (λ n. old ++ heading name n) (c.counts.ensures.samples ∙ stands.whole.kept_is.number) in
    subst (λ (e : Engines). new ≡ old ++ implications_text e.whole.grammar least name e.whole.infos samples) c.self.view_is
    (told samples stands.whole each
    ∙ (ap (λ (hs : List Halves). headed ++ lines samples hs) c.as_slice.ensures.value
    ∙ (ap (λ (t : List ℕ). headed ++ t) (all_lines whole.grammar least whole.infos samples all c.self.invariant.conditions)
    ∙ (ap (λ (t : List ℕ). t ++ rest) head ∙ append_assoc old first rest)))))
    c.push_all.ensures
