use Rattle.std.specs.Prelude.{◌≡◌, ◌++◌, List, filter, flat_map, map}
use Rattle.std.specs.Borrow.{Bor}
use Rattle.std.proofs.Common.{◌∙◌, ap, sym}
use Rattle.std.proofs.lemmas.List.Folds.{flat_map-map}
use Rattle.dk_engine.specs.declared.slots.slot.Slot.{Slot}
use Rattle.dk_filters.specs.declared.candidate.Candidate.{Candidate}
use Rattle.dk_report.proofs.Reported.{if_ok}
use Rattle.dk_report.specs.Asked.{listed_candidates_by}
use Rattle.dk_report.specs.Narrowing.{is_of_row}
use Rattle.dk_report.proofs.asking.Asking.of_slots.Goals as goal

pub returns : goal.returns
returns c =
    let asking = c.args.self.now in
    let kept = c.args.engine.now.kept in
    let row = c.args.row in
    let slots : List (Bor Slot) = c.as_slice.result.now in
    let given : Slot → List Candidate = λ slot. listed_candidates_by asking row slot.leaders in
    let now : Bor Slot → Slot = λ slot. slot.now in
    let some : map now slots ≡ filter (is_of_row row) kept.slots =
    ap (λ (ss : List (Bor Slot)). map now ss) c.as_slice.ensures.value ∙ (c.in_ok-slots.ensures ∙ ap (λ (ss : List Slot). filter (is_of_row row) ss) c.slots.ensures) in
    if_ok c.over_slots.result (λ more. more ≡ c.args.list ++ flat_map (λ (slot : Bor Slot). given (now slot)) slots) _
    (λ more is. is ∙ (ap (λ cs. c.args.list ++ cs) (sym (flat_map-map {A = Bor Slot} {B = Slot} given now slots) ∙ ap (λ (ss : List Slot). flat_map given ss) some)))
    c.over_slots.ensures
