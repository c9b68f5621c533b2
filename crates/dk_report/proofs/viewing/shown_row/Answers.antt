use Rattle.std.specs.Prelude.{◌≡◌, ◌||◌, Bool, List, [], ◌∷◌, filter, is_some, map, refl}
use Rattle.std.specs.Borrow.{Bor}
use Rattle.std.specs.List.{list_any}
use Rattle.std.proofs.Common.{◌∙◌, ap}
use Rattle.dk_base.specs.declared.kinds.VarId.{VarId}
use Rattle.dk_constants.specs.Known.{Entries, known_at}
use Rattle.dk_engine.specs.declared.slots.slot.Slot.{Slot}
use Rattle.dk_presence.specs.Patterns.{has}
use Rattle.dk_report.proofs.Reported.{if_ok}
use Rattle.dk_report.proofs.Shown.{maps-agree}
use Rattle.dk_report.specs.Narrowing.{stands_in}
use Rattle.dk_report.specs.Viewing.{is_met, is_shown}
use Rattle.dk_report.proofs.viewing.shown_row.Goals as goal

any-map : (v : VarId) (slots : List (Bor Slot)) → list_any (λ (slot : Bor Slot). has slot.now.leaders v) slots ≡ stands_in (map (λ (slot : Bor Slot). slot.now) slots) v
any-map v [] = refl
any-map v (s ∷ slots) = ap (λ b. has s.now.leaders v || b) (any-map v slots)

pub returns : goal.returns
returns c =
    let kept = c.args.engine.now.kept in
    let row = c.args.row in
    let led : List (VarId × VarId) = c.args.led.now in
    let slots : List (Bor Slot) = c.as_slice.result.now in
    let some : map (λ (slot : Bor Slot). slot.now) slots ≡ filter (is_met led row) kept.slots =
    ap (λ (ss : List (Bor Slot)). map (λ (slot : Bor Slot). slot.now) ss) c.as_slice.ensures.value ∙ (c.in_ok-slots.ensures ∙ ap (λ (ss : List Slot). filter (is_met led row) ss) c.slots.ensures) in
    let test : Entries → VarId × VarId → Bool = λ known pair. is_some (known_at known pair.1) || list_any (λ (slot : Bor Slot). has slot.now.leaders pair.1) slots in
    let tested : Entries → VarId × VarId → VarId × Bool = λ known pair. (pair.0, test known pair) in
    if_ok c.shown_by.result (λ list. list ≡ map (tested c.constants.result.now) led) _
    (λ list is. is ∙ (ap (λ (known : Entries). map (tested known) led) c.constants.ensures
    ∙ maps-agree (tested kept.known) (λ (pair : VarId × VarId). (pair.0, is_shown kept led row pair)) led
    (λ pair i. ap (λ (b : Bool). (pair.0, is_some (known_at kept.known pair.1) || b)) (any-map pair.1 slots ∙ ap (λ (ss : List Slot). stands_in ss pair.1) some))))
    c.shown_by.ensures
