use Rattle.std.specs.Prelude.{◌≡◌, false, filter, fold, not}
use Rattle.std.specs.List.{list_any}
use Rattle.std.proofs.Common.{◌∙◌, ap, sym}
use Rattle.dk_engine.proofs.Applying.{all_left, left_by_changes}
use Rattle.dk_engine.proofs.Grown.{found_break, found_folded}
use Rattle.dk_engine.specs.Feeding.{is_broken}
use Rattle.dk_engine.specs.Feeding.Narrow.{found_changes, with_change}
use Rattle.dk_engine.specs.declared.feed.changes.Change.{Change}
use Rattle.dk_engine.specs.declared.slots.slot.Slot.{Slot}
use Rattle.dk_engine.proofs.feed.changing.apply_changes.Goals as goal

pub returns-then-breaks : goal.returns-then-breaks
returns-then-breaks c made are =
    let slots = c.args.slots.now in
    let changes = found_changes slots c.args.found in
    let all : c.change.new.self ≡ fold with_change slots changes = c.change.ensures ∙ found_folded slots c.args.found in
    c.drop_broken.ensures ∙ (ap (filter (λ (s : Slot). not (is_broken s.state))) all ∙ left_by_changes made slots changes are.changes)

pub returns-else-breaks : goal.returns-else-breaks
returns-else-breaks c made are =
    let slots = c.args.slots.now in
    let changes = found_changes slots c.args.found in
    let all : c.change.new.self ≡ fold with_change slots changes = c.change.ensures ∙ found_folded slots c.args.found in
    let none : list_any (λ (d : Change). is_broken d.state) changes ≡ false =
    found_break slots c.args.found are.growths ∙ (sym (c.break_some-breaks.ensures ∙ ap (list_any (λ (d : Change). is_broken d.state)) c.as_slice.ensures) ∙ c.if-breaks.false) in
    all ∙ all_left made slots changes are.changes none
