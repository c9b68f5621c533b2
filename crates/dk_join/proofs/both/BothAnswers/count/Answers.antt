use Rattle.std.specs.Prelude.{◌≡◌, ◌+◌}
use Rattle.std.proofs.Common.{◌∙◌, ap}
use Rattle.dk_engine.specs.Reading.{count_read}
use Rattle.dk_presence.specs.Patterns.{capped}
use Rattle.dk_join.specs.Joining.{Pair}
use Rattle.dk_join.proofs.both.BothAnswers.count.Goals as goal

pub returns : goal.returns
returns c =
    let pair : Pair = c.args.self.now in
    let vars = c.args.vars.now in
    let one : c.count.result ≡ count_read pair.first.kept vars = c.count.ensures ∙ ap (λ (p : Pair). count_read p.first.kept vars) c.self.view_is in
    let other : c.count-2.result ≡ count_read pair.second.kept vars = c.count-2.ensures ∙ ap (λ (p : Pair). count_read p.second.kept vars) c.self.view_is in
    c.saturating_add.ensures ∙ (ap (λ n. capped (n + c.count-2.result)) one ∙ ap (λ n. capped (count_read pair.first.kept vars + n)) other)
