use Rattle.std.specs.Prelude.{◌≡◌, ◌↔◌, IfOk, IsTrue, OnOk, not}
use Rattle.std.proofs.Common.{subst, sym}
use Rattle.std.proofs.lemmas.Result.{IfOk-weaker, on_ok_weaker}
use Rattle.dk_base.specs.Values.{values_of}
use Rattle.dk_forms.specs.declared.states.State.TheVariants as state
use Rattle.dk_expr.specs.Violations.{IsUpheld, IsViolated, kept_state, with_tuple}
use Rattle.dk_expr.proofs.Violating.{first_upheld, is_other, kept_proper, other_kept, other_upheld, other_violated}
use Rattle.dk_expr.proofs.assertions.Assertion.test.Goals as goal

pub test_first-requires-clause-state : goal.test_first-requires-clause-state
test_first-requires-clause-state c = c.is_unknown.ensures.0 c.if-is_unknown.true

pub returns-then-is_unknown-clause-violated : goal.returns-then-is_unknown-clause-violated
returns-then-is_unknown-clause-violated c =
    subst (λ s. IfOk c.test_first.result (λ violated. IsTrue violated ↔ IsViolated s (with_tuple c.args.self.now.row s (values_of c.args.tuple.now))))
    (sym (c.is_unknown.ensures.0 c.if-is_unknown.true)) c.test_first.ensures.violated

pub returns-then-is_unknown-clause-upheld : goal.returns-then-is_unknown-clause-upheld
returns-then-is_unknown-clause-upheld c =
    subst (λ s. IfOk c.test_first.result (λ violated. IsTrue (not violated) → IsUpheld s (with_tuple c.args.self.now.row s (values_of c.args.tuple.now))))
    (sym (c.is_unknown.ensures.0 c.if-is_unknown.true))
    (IfOk-weaker c.test_first.result _ _
    (λ violated tells. first_upheld (with_tuple c.args.self.now.row state.Empty (values_of c.args.tuple.now)) violated tells) c.test_first.ensures.violated)

pub returns-then-is_unknown-clause-state : goal.returns-then-is_unknown-clause-state
returns-then-is_unknown-clause-state c =
    subst (λ s. OnOk c.test_first.result (c.test_first.new.self.state ≡ kept_state s (with_tuple c.args.self.now.row s (values_of c.args.tuple.now))))
    (sym (c.is_unknown.ensures.0 c.if-is_unknown.true)) c.test_first.ensures.state

pub returns-then-is_unknown-clause-proper : goal.returns-then-is_unknown-clause-proper
returns-then-is_unknown-clause-proper c =
    on_ok_weaker c.test_first.result
    (λ state. kept_proper c.args.self.now.row c.requires.row (values_of c.args.tuple.now) c.requires.tuple c.test_first.new.self.row c.test_first.new.self.state c.test_first.ensures.row state)
    c.test_first.ensures.state

pub returns-clause-violated : goal.returns-clause-violated
returns-clause-violated c =
    other_violated c.args.self.now.state (with_tuple c.args.self.now.row c.args.self.now.state (values_of c.args.tuple.now)) c.stays.result
    (is_other c.is_unknown.result c.args.self.now.state state.Empty c.if-is_unknown.false c.is_unknown.ensures) c.stays.ensures

pub returns-clause-upheld : goal.returns-clause-upheld
returns-clause-upheld c =
    other_upheld c.args.self.now.state (with_tuple c.args.self.now.row c.args.self.now.state (values_of c.args.tuple.now)) c.stays.result
    (is_other c.is_unknown.result c.args.self.now.state state.Empty c.if-is_unknown.false c.is_unknown.ensures) c.stays.ensures

pub returns-clause-state : goal.returns-clause-state
returns-clause-state c =
    sym (other_kept c.args.self.now.state (with_tuple c.args.self.now.row c.args.self.now.state (values_of c.args.tuple.now))
    (is_other c.is_unknown.result c.args.self.now.state state.Empty c.if-is_unknown.false c.is_unknown.ensures))
