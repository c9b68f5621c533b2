use Rattle.std.specs.Prelude.{◌≡◌, ◌<◌, ◌≤◌, ◌+◌, ◌++◌, ◌∷◌, [], List, flat_map, length, refl}
use Rattle.std.proofs.Common.{ap, ◌∙◌, arith, sym}
use Rattle.std.proofs.lemmas.Bool.{eqb-true}
use Rattle.dk_base.specs.declared.kinds.VarId.{VarId}
use Rattle.dk_template.specs.Templates.{rows_in}
use Rattle.dk_template.specs.declared.grammar.RowId.{RowId}
use Rattle.dk_engine.proofs.Spread.{row_more, rows_all}
use Rattle.dk_engine.proofs.Swept.{none_touched}
use Rattle.dk_engine.specs.Feeding.{read_after}
use Rattle.dk_engine.specs.Sweeps.{touched_slots, with_one}
use Rattle.dk_engine.specs.declared.slots.slot.Slot.{Slot}
use Rattle.dk_engine.proofs.sweeps.Sweep.touched_slots.Goals as goal

pub loop-n-preserved : goal.loop-n-preserved
loop-n-preserved c =
    let s = c.args.self.now in
    let F : RowId → List Slot = λ row. with_one s.infos.now s.known.now (read_after s.answers.now.whole.kept s.answers.now.sample) row c.args.touching.now c.args.others.now c.args.leaders.now.all in
    let test = c.loop-n-test.true in
    let last = c.rows-n-end.ensures in
    let within : c.loop-n.n < rows_in c.args.grammar = omega (arith, test, last) in
    let row : RowId = record { 0 = c.loop-n.n + 1 } in
    let W : List VarId → List VarId → List Slot = λ of before. with_one s.infos.now s.known.now (read_after s.answers.now.whole.kept s.answers.now.sample) row of before c.args.leaders.now.all in
    c.in_ok-with_one.ensures
    ∙ (ap (λ l. c.loop-n.slots ++ W l c.in_ok-before.before.all) c.in_ok-of.ensures.all
    ∙ (ap (λ l. c.loop-n.slots ++ W c.args.touching.now l) c.in_ok-before.ensures.all
    ∙ (ap (λ ss. ss ++ F row) c.loop-n.invariant ∙ row_more F c.args.grammar c.loop-n.n within)))

pub returns : goal.returns
unfolding touched_slots
returns c =
    let s = c.args.self.now in
    let F : RowId → List Slot = λ row. with_one s.infos.now s.known.now (read_after s.answers.now.whole.kept s.answers.now.sample) row c.args.touching.now c.args.others.now c.args.leaders.now.all in
    let test = c.loop-n-test.false in
    let last = c.rows-n-end.ensures in
    let past : rows_in c.args.grammar ≤ c.loop-n.n = omega (arith, test, last) in
    c.loop-n.invariant ∙ ap (flat_map F) (rows_all c.args.grammar c.loop-n.n past)

none : (vars : List VarId) → length vars ≡ 0 → vars ≡ []
none [] e = refl
none (v ∷ vars) e = absurd (omega (arith, e))

pub returns-then-is_empty : goal.returns-then-is_empty
returns-then-is_empty c =
    let s = c.args.self.now in
    let touching = c.args.touching.now in
    let answered = read_after s.answers.now.whole.kept s.answers.now.sample in
    let empty : touching ≡ [] = none touching (eqb-true (length touching) 0 (sym c.is_empty.ensures ∙ c.if-is_empty.true)) in
    c.new-slots.ensures
    ∙ sym (ap (λ ts. touched_slots c.args.grammar s.infos.now s.known.now answered ts c.args.others.now c.args.leaders.now.all) empty ∙ none_touched c.args.grammar s.infos.now s.known.now answered c.args.others.now c.args.leaders.now.all)
