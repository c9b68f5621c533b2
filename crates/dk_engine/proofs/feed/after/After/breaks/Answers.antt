use Rattle.std.specs.Prelude.{◌≡◌, false, true}
use Rattle.std.proofs.Common.{◌∙◌, sym}
use Rattle.std.proofs.lemmas.Bool.{not-true, true≢false}
use Rattle.dk_template.specs.Templates.{form_of, is_plain}
use Rattle.dk_engine.proofs.Breaking.{holds_is_proper, unheld_breaks}
use Rattle.dk_engine.specs.Feeding.{read_after}
use Rattle.dk_engine.specs.Reading.{state_read}
use Rattle.dk_engine.specs.Reading.Levels.{OneMore}
use Rattle.dk_engine.proofs.feed.after.After.breaks.Goals as goal

pub state_stays-requires-clause-proper : goal.state_stays-requires-clause-proper
state_stays-requires-clause-proper c = holds_is_proper (form_of c.args.row) (sym c.is_plain.ensures ∙ c.if-is_plain.true)

pub returns-then-is_plain : goal.returns-then-is_plain
unfolding read_after
returns-then-is_plain c broken =
    let o : OneMore = c.args.self.now in
    let row = c.args.row in
    let vars = c.args.vars.now in
    let plain : is_plain (form_of row) ≡ true = sym c.is_plain.ensures ∙ c.if-is_plain.true in
    let moves : c.state_stays.result ≡ false = not-true c.state_stays.result broken in
    unheld_breaks row plain vars o.sample (λ stays. true≢false (sym (c.state_stays.ensures.1 stays) ∙ moves)) (state_read o.whole.kept row vars)
