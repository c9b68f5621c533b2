use Rattle.std.specs.Prelude.{◌≡◌, ◌+◌, true, false, if◌then◌else◌}
use Rattle.std.proofs.Common.{ap, ◌∙◌, sym, arith}
use Rattle.dk_instances.specs.Fits.{is_whole, tuple_in}
use Rattle.dk_presence.specs.Patterns.{capped}
use Rattle.dk_engine.specs.Feeding.{count_after}
use Rattle.dk_engine.specs.Reading.{count_read}
use Rattle.dk_engine.specs.Reading.Levels.{OneMore}
use Rattle.dk_engine.proofs.feed.after.AfterAnswers.count.Goals as goal

pub returns-then-is_whole : goal.returns-then-is_whole
returns-then-is_whole c =
    let o : OneMore = c.args.self.now in
    let n = count_read o.whole.kept c.args.vars.now in
    let whole : is_whole (tuple_in c.args.vars.now o.sample) ≡ true = sym c.is_whole.ensures ∙ c.if-is_whole.true in
    let after : count_after o.whole.kept o.sample c.args.vars.now ≡ capped (n + 1) = ap (λ b. capped (n + (if b then 1 else 0))) whole in
    let before : c.count-before.result ≡ n = c.count-before.ensures ∙ ap (λ (a : OneMore). count_read a.whole.kept c.args.vars.now) c.self.view_is in
    let more = c.saturating_add.ensures in
    omega (arith, after, before, more)

pub returns-else-is_whole : goal.returns-else-is_whole
returns-else-is_whole c =
    let o : OneMore = c.args.self.now in
    let n = count_read o.whole.kept c.args.vars.now in
    let part : is_whole (tuple_in c.args.vars.now o.sample) ≡ false = sym c.is_whole.ensures ∙ c.if-is_whole.false in
    let after : count_after o.whole.kept o.sample c.args.vars.now ≡ capped (n + 0) = ap (λ b. capped (n + (if b then 1 else 0))) part in
    let before : c.count-before.result ≡ n = c.count-before.ensures ∙ ap (λ (a : OneMore). count_read a.whole.kept c.args.vars.now) c.self.view_is in
    omega (arith, after, before)
