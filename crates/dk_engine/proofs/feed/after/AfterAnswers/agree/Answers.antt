use Rattle.std.specs.Prelude.{◌≡◌, ◌&&◌, true}
use Rattle.std.proofs.Common.{ap, ◌∙◌, sym, rules}
use Rattle.dk_base.specs.Values.{value_of}
use Rattle.dk_samples.specs.Samples.{value_in}
use Rattle.dk_base.proofs.ValueTests.{value_test}
use Rattle.dk_engine.specs.Reading.Levels.{OneMore}
use Rattle.dk_engine.specs.Reading.{agree_read}
use Rattle.dk_base.specs.Values.SameValues.{same_value}
use Rattle.dk_engine.proofs.feed.after.AfterAnswers.agree.Goals as goal

pub returns-then-agree : goal.returns-then-agree
returns-then-agree c =
    let o : OneMore = c.args.self.now in
    let a = value_of c.value_at.result in
    let b = value_of c.value_at-then-agree.result in
    let first : a ≡ value_in o.sample c.args.v = search rules in
    let second : b ≡ value_in o.sample c.args.w = search rules in
    let agree : agree_read o.whole.kept c.args.v c.args.w ≡ true = search rules in
    value_test c.same.result a b c.same.ensures
    ∙ (ap (λ x. same_value x b) first
    ∙ (ap (same_value (value_in o.sample c.args.v)) second ∙ sym (ap (λ t. t && same_value (value_in o.sample c.args.v) (value_in o.sample c.args.w)) agree)))
