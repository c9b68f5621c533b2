use Rattle.std.specs.Prelude.{◌≡◌, true, false}
use Rattle.std.proofs.Common.{◌∙◌, ap, sym}
use Rattle.dk_base.specs.Values.{values_of}
use Rattle.dk_engine.specs.Reading.Levels.{Whole}
use Rattle.dk_report.proofs.Reported.{if_ok}
use Rattle.dk_samples.specs.Samples.{value_in}
use Rattle.dk_implications.proofs.Feeding.{Takes, engine_fed, fed_neither, fed_when_false, fed_when_true}
use Rattle.dk_implications.specs.Halves.{is_truth}
use Rattle.dk_implications.specs.Standing.{AreFed}
use Rattle.dk_implications.specs.declared.halves.Halves.{Halves}
use Rattle.dk_implications.proofs.halves.Halves.feed.Goals as goal

pub returns-then-is_truth-clause-fed : goal.returns-then-is_truth-clause-fed
returns-then-is_truth-clause-fed c =
    let halves : Halves = c.args.self.now in
    let sample = values_of c.args.sample.now in
    let fed : Whole = c.feed.new.self in
    let is_true : is_truth true (value_in sample halves.condition) ≡ true =
    ap (is_truth true) (sym c.value_at-value.ensures) ∙ (sym c.is_truth.ensures ∙ c.if-is_truth.true) in
    let says = c.feed.ensures in
    if_ok c.feed.result (λ u. Takes sample halves.when_true fed) (λ u. AreFed sample halves (record halves { when_true = fed }))
    (λ u takes. fed_when_true halves sample fed says.grammar says.infos is_true
    (λ samples stands. engine_fed halves.when_true fed samples sample says.grammar says.infos c.requires.when_true (takes samples) stands))
    says.stands

pub returns-then-is_truth-2-clause-fed : goal.returns-then-is_truth-2-clause-fed
returns-then-is_truth-2-clause-fed c =
    let halves : Halves = c.args.self.now in
    let sample = values_of c.args.sample.now in
    let fed : Whole = c.feed-then-is_truth-2.new.self in
    let not_true : is_truth true (value_in sample halves.condition) ≡ false =
    ap (is_truth true) (sym c.value_at-value.ensures) ∙ (sym c.is_truth.ensures ∙ c.if-is_truth.false) in
    let is_false : is_truth false (value_in sample halves.condition) ≡ true =
    ap (is_truth false) (sym c.value_at-value.ensures) ∙ (sym c.is_truth-2.ensures ∙ c.if-is_truth-2.true) in
    let says = c.feed-then-is_truth-2.ensures in
    if_ok c.feed-then-is_truth-2.result (λ u. Takes sample halves.when_false fed) (λ u. AreFed sample halves (record halves { when_false = fed }))
    (λ u takes. fed_when_false halves sample fed says.grammar says.infos not_true is_false
    (λ samples stands. engine_fed halves.when_false fed samples sample says.grammar says.infos c.requires.when_false (takes samples) stands))
    says.stands

pub returns-clause-fed : goal.returns-clause-fed
returns-clause-fed c =
    let halves : Halves = c.args.self.now in
    let sample = values_of c.args.sample.now in
    fed_neither halves sample
    (ap (is_truth true) (sym c.value_at-value.ensures) ∙ (sym c.is_truth.ensures ∙ c.if-is_truth.false))
    (ap (is_truth false) (sym c.value_at-value.ensures) ∙ (sym c.is_truth-2.ensures ∙ c.if-is_truth-2.false))
