use Rattle.std.specs.Prelude.{◌≡◌, All, IsTrue, map, refl, slice_index_or}
use Rattle.std.proofs.Common.{◌∙◌, ap, subst, sym}
use Rattle.std.proofs.lemmas.List.Elements.{All-map}
use Rattle.std.proofs.lemmas.Result.{IfOk-weaker}
use Rattle.dk_base.specs.declared.kinds.VarId.{VarId}
use Rattle.dk_engine.specs.Reading.Levels.{Whole}
use Rattle.dk_engine.specs.declared.slots.slot.Slot.{Slot}
use Rattle.std.specs.Borrow.{Bor}
use Rattle.dk_join.proofs.Companions.{leaders_of_all}
use Rattle.dk_join.specs.Beside.{IsCompanion, is_beside, slots_at_hand, stands_beside}
use Rattle.dk_join.specs.Numbers.{number_of, numbers_of}
use Rattle.dk_join.specs.declared.beside.Companion.{Companion}
use Rattle.dk_join.proofs.sweeps.Sweep.companions.Goals as goal

pub returns-clause-leaders : goal.returns-clause-leaders
returns-clause-leaders c =
    let F : VarId → Companion = λ w. record { leader = w; numbers = record { first = number_of c.in_ok-first.first.engine.now.kept w; second = number_of c.in_ok-second.second.engine.now.kept w }; by_first = is_beside c.in_ok-first.first w; by_second = is_beside c.in_ok-second.second w } in
    IfOk-weaker c.companions.result (λ list. list.items ≡ map F c.args.leaders.now) (λ list. map (λ w. w.leader) list.items ≡ c.args.leaders.now)
    (λ list e. ap (map (λ (w : Companion). w.leader)) e ∙ leaders_of_all F (λ w. refl) c.args.leaders.now) c.companions.ensures

pub returns-clause-each : goal.returns-clause-each
returns-clause-each c =
    let pair = c.args.self.now.both.now in
    let row = c.args.row in
    let v = c.args.v in
    let leaders = c.args.leaders.now in
    let first = c.in_ok-first.first in
    let second = c.in_ok-second.second in
    let F : VarId → Companion = λ w. record { leader = w; numbers = record { first = number_of first.engine.now.kept w; second = number_of second.engine.now.kept w }; by_first = is_beside first w; by_second = is_beside second w } in
    let by_first : (w : VarId) → IsTrue (stands_beside pair.first.kept row v w) → IsTrue (is_beside first w) = λ w h.
    c.in_ok-first.ensures.all row
    (ap (map (λ (slot : Bor Slot). slot.now)) c.as_slice.ensures.value ∙ (c.requires.hands.first ∙ ap (λ (e : Whole). slots_at_hand row e.kept.slots) (sym c.first.ensures)))
    w (ap (λ (e : Whole). stands_beside e.kept row v w) c.first.ensures ∙ h) in
    let by_second : (w : VarId) → IsTrue (stands_beside pair.second.kept row v w) → IsTrue (is_beside second w) = λ w h.
    c.in_ok-second.ensures.all row
    (ap (map (λ (slot : Bor Slot). slot.now)) c.as_slice-2.ensures.value ∙ (c.requires.hands.second ∙ ap (λ (e : Whole). slots_at_hand row e.kept.slots) (sym c.second.ensures)))
    w (ap (λ (e : Whole). stands_beside e.kept row v w) c.second.ensures ∙ h) in
    let one : first.engine.now ≡ pair.first = c.in_ok-first.ensures.engine ∙ c.first.ensures in
    let other : second.engine.now ≡ pair.second = c.in_ok-second.ensures.engine ∙ c.second.ensures in
    let numbers : (w : VarId) → (F w).numbers ≡ numbers_of pair w = λ w i. record { first = number_of (one i).kept w; second = number_of (other i).kept w } in
    IfOk-weaker c.companions.result (λ list. list.items ≡ map F leaders) (λ list. All (IsCompanion pair row v) list.items)
    (λ list e. subst (All (IsCompanion pair row v)) (sym e)
    (All-map (IsCompanion pair row v) F leaders (λ k d l. record { numbers = numbers (slice_index_or leaders k d); by_first = by_first (slice_index_or leaders k d); by_second = by_second (slice_index_or leaders k d) }))) c.companions.ensures
