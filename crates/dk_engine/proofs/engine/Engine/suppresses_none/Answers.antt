use Rattle.std.specs.Prelude.{◌≡◌, ◌↔◌, All, IsTrue, List, false}
use Rattle.std.proofs.Common.{ap, rules, subst}
use Rattle.dk_base.specs.declared.kinds.VarId.{VarId}
use Rattle.dk_forms.specs.declared.states.State.{State}
use Rattle.dk_suppress.specs.Rules.{is_suppressed}
use Rattle.dk_template.specs.declared.grammar.RowId.{RowId}
use Rattle.dk_engine.specs.Reading.{read_leaders}
use Rattle.dk_engine.specs.Reading.Levels.{Level, Whole}
use Rattle.dk_engine.specs.declared.slots.slot.Slot.{Slot}
use Rattle.dk_engine.proofs.engine.Engine.suppresses_none.Goals as goal

pub returns : goal.returns
returns c =
    let w : Whole = c.args.self.now in
    let r = c.none_suppressed.result in
    let slots : c.as_slice-2.result.now ≡ w.kept.slots = search rules in
    let answered : read_leaders c.over-levels.result.ranks c.over-levels.result.kept ≡ read_leaders 4 w.kept = ap (λ (l : Level). read_leaders l.ranks l.kept) c.over-levels.ensures in
    subst (λ (ss : List Slot). IsTrue r ↔ All (λ slot. is_suppressed (read_leaders 4 w.kept) slot.row slot.leaders ≡ false) ss) slots
    (subst (λ (a : RowId → List VarId → State). IsTrue r ↔ All (λ slot. is_suppressed a slot.row slot.leaders ≡ false) c.as_slice-2.result.now) answered c.none_suppressed.ensures)
