use Rattle.std.specs.Prelude.{◌≡◌, ◌&&◌, ◌||◌, ◌==◌, false}
use Rattle.std.specs.List.{list_any}
use Rattle.std.proofs.Common.{ap, ◌∙◌, sym}
use Rattle.dk_suppress.specs.Rules.{Rule, rules}
use Rattle.dk_engine.proofs.Closers.{asks_for_elements}
use Rattle.dk_engine.specs.Feeding.Step.{asks_elements, is_empty_conclusion}
use Rattle.dk_engine.proofs.feed.changes.can_close.Goals as goal

pub returns-else-is_empty_conclusion : goal.returns-else-is_empty_conclusion
returns-else-is_empty_conclusion c =
    let slot = c.args.slot.now in
    let isnt : is_empty_conclusion slot ≡ false = sym c.is_empty_conclusion.ensures ∙ c.if-is_empty_conclusion.false in
    sym (ap (λ b. b || list_any (λ (r : Rule). r.0.0 == slot.row.0 && asks_elements r) rules) isnt ∙ asks_for_elements slot.row.0)
