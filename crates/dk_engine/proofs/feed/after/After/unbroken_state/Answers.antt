use Rattle.std.specs.Prelude.{◌≡◌}
use Rattle.std.proofs.Common.{ap, ◌∙◌, rules, sym}
use Rattle.std.proofs.lemmas.Result.{IfOk-weaker}
use Rattle.dk_engine.specs.Feeding.{read_after, with_sample}
use Rattle.dk_engine.specs.Reading.{state_read}
use Rattle.dk_engine.specs.Reading.Levels.{OneMore}
use Rattle.dk_engine.proofs.feed.after.After.unbroken_state.Goals as goal

pub returns-then-state_stays-clause-state : goal.returns-then-state_stays-clause-state
unfolding read_after
returns-then-state_stays-clause-state c =
    let o : OneMore = c.args.self.now in
    let row = c.args.row in
    let vars = c.args.vars.now in
    let before : c.in_ok-before.before ≡ state_read o.whole.kept row vars = search rules in
    sym (c.state_stays.ensures.0 c.if-state_stays.true) ∙ ap (with_sample row vars o.sample) before

pub returns-clause-state : goal.returns-clause-state
unfolding read_after
returns-clause-state c =
    let o : OneMore = c.args.self.now in
    let row = c.args.row in
    let vars = c.args.vars.now in
    let before : c.in_ok-before.before ≡ state_read o.whole.kept row vars = search rules in
    IfOk-weaker c.with_sample.result (λ s. s ≡ with_sample row vars o.sample c.in_ok-before.before) (λ s. s ≡ with_sample row vars o.sample (state_read o.whole.kept row vars))
    (λ s e. e ∙ ap (with_sample row vars o.sample) before) c.with_sample.ensures.state
