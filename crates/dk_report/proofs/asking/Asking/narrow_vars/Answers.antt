use Rattle.std.specs.Prelude.{◌≡◌, ◌||◌, List, [], ◌∷◌, filter, map, refl}
use Rattle.std.specs.Borrow.{Bor}
use Rattle.std.specs.List.{list_any}
use Rattle.std.proofs.Common.{◌∙◌, ap}
use Rattle.std.proofs.lemmas.List.Elements.{filter_agree}
use Rattle.dk_base.specs.declared.kinds.VarId.{VarId}
use Rattle.dk_constants.specs.Known.{Entries}
use Rattle.dk_engine.specs.declared.slots.slot.Slot.{Slot}
use Rattle.dk_presence.specs.Patterns.{has}
use Rattle.dk_report.proofs.Reported.{if_ok}
use Rattle.dk_report.specs.Narrowing.{is_fixed, is_left, is_of_row, stands_in}
use Rattle.dk_report.proofs.asking.Asking.narrow_vars.Goals as goal

any-map : (v : VarId) (slots : List (Bor Slot)) → list_any (λ (slot : Bor Slot). has slot.now.leaders v) slots ≡ stands_in (map (λ (slot : Bor Slot). slot.now) slots) v
any-map v [] = refl
any-map v (s ∷ slots) = ap (λ b. has s.now.leaders v || b) (any-map v slots)

pub returns : goal.returns
returns c =
    let kept = c.args.engine.now.kept in
    let row = c.args.row in
    let slots : List (Bor Slot) = c.as_slice.result.now in
    let some : map (λ (slot : Bor Slot). slot.now) slots ≡ filter (is_of_row row) kept.slots =
    ap (λ (ss : List (Bor Slot)). map (λ (slot : Bor Slot). slot.now) ss) c.as_slice.ensures.value ∙ (c.in_ok-slots.ensures ∙ ap (λ (ss : List Slot). filter (is_of_row row) ss) c.slots.ensures) in
    let test = λ (known : Entries) (v : VarId). is_fixed known v || list_any (λ (slot : Bor Slot). has slot.now.leaders v) slots in
    if_ok c.left_of.result (λ list. list ≡ filter (test c.constants.result.now) c.args.of.now) _
    (λ list is. is ∙ (ap (λ (known : Entries). filter (test known) c.args.of.now) c.constants.ensures
    ∙ filter_agree (test kept.known) (is_left kept row) (λ v. ap (λ b. is_fixed kept.known v || b) (any-map v slots ∙ ap (λ (ss : List Slot). stands_in ss v) some)) c.args.of.now))
    c.left_of.ensures
