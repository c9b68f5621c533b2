use Rattle.std.specs.Prelude.{◌≡◌, ◌<◌, ◌-◌, true}
use Rattle.std.proofs.Common.{ap, ◌∙◌, subst, sym, rules, arith}
use Rattle.dk_template.proofs.WrittenOrder.{written_tuples_are_admitted}
use Rattle.dk_template.specs.Admitted.{admits}
use Rattle.dk_template.specs.Exchange.{turned_state, written_order}
use Rattle.dk_template.specs.Proper.{IsProper}
use Rattle.dk_template.specs.Templates.{form_of}
use Rattle.dk_engine.proofs.LevelFacts.{level_is}
use Rattle.dk_engine.proofs.Readings.{row_is}
use Rattle.dk_engine.proofs.WellKept.{read_written_proper}
use Rattle.dk_engine.specs.Reading.{read_leaders, read_written}
use Rattle.dk_engine.specs.Reading.Levels.{Level}
use Rattle.dk_engine.specs.Saved.Conditions.{CanBeRead}
use Rattle.dk_engine.proofs.over.Over.state_turned.Goals as goal

pub state_written-requires-clause-vars : goal.state_written-requires-clause-vars
state_written-requires-clause-vars g c =
    let l = c.args.self.now in
    let ordered : c.as_slice.result.now ≡ written_order c.args.row c.args.vars.now = search rules in
    subst (λ t. admits c.args.row l.infos t ≡ true) (sym ordered) (written_tuples_are_admitted c.args.row (row_is l.grammar c.args.row c.requires.row) l.infos c.args.vars.now c.requires.vars)

pub turn_state-requires-clause-state : goal.turn_state-requires-clause-state
turn_state-requires-clause-state g c =
    let l : Level = c.args.self.now in
    let are : CanBeRead l.infos l.kept = subst (λ (m : Level). CanBeRead m.infos m.kept) c.self.view_is c.self.invariant.0 in
    let ordered : c.as_slice.result.now ≡ written_order c.args.row c.args.vars.now = search rules in
    let admitted = written_tuples_are_admitted c.args.row (row_is l.grammar c.args.row c.requires.row) l.infos c.args.vars.now c.requires.vars in
    let lower = read_leaders (l.ranks - 1) l.kept in
    subst (λ s. IsProper (form_of c.args.row) s) (sym (c.in_ok-state.ensures.state ∙ ap (read_written l.kept lower c.args.row) ordered))
    (read_written_proper l.grammar l.infos l.kept are lower c.args.row (written_order c.args.row c.args.vars.now) c.requires.row admitted)

pub returns-clause-state : goal.returns-clause-state
returns-clause-state g c =
    let l : Level = c.args.self.now in
    let ordered : c.as_slice.result.now ≡ written_order c.args.row c.args.vars.now = search rules in
    let some : 0 < l.ranks = subst (λ (m : Level). 0 < m.ranks) c.self.view_is (omega arith) in
    c.turn_state.ensures.value
    ∙ (ap (turned_state c.args.row c.args.vars.now) (c.in_ok-state.ensures.state ∙ ap (read_written l.kept (read_leaders (l.ranks - 1) l.kept) c.args.row) ordered)
    ∙ level_is l.ranks some l.kept c.args.row c.args.vars.now)
