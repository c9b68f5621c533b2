use Rattle.std.proofs.Common.{◌≡◌, ◌≤◌, ◌+◌, ◌-◌, ◌∷◌, ℕ, List, length, take, drop, get_or, Some, refl, subst, arith, rules}
use Rattle.std.specs.Prelude.{slice_get}
use Rattle.std.proofs.lemmas.Option.{slice_get_read}
use Rattle.dk_base.specs.Values.{values_of as shown_by}
use Rattle.dk_base.specs.declared.values.View.{View}
use Rattle.dk_trace.specs.Whole.{ValuesSoFar, ValuesStand}
use Rattle.dk_trace.proofs.InPlace.{constant_more, count_within, values_stand, variable_more}
use Rattle.dk_trace.proofs.Bare.{one_bare}
use Rattle.dk_base.proofs.Digits.{one_front}
use Rattle.dk_trace.proofs.whole.read_values.Goals as goal
use Rattle.dk_trace.proofs.whole.read_values.Goals.{then-var+in_ok-push_constant, else-var+in-Ok-Some}

pub read_variable-requires : goal.read_variable-requires
read_variable-requires c = one_bare c.args.vars.now c.loop-var.var-index c.var-item.result c.requires c.loop-var-test.true c.var-item.is

pub overflow_add-count : goal.overflow_add-count
overflow_add-count c =
    let at : slice_get c.args.vars.now c.loop-var.var-index ≡ Some c.var-item.result = slice_get_read c.args.vars.now (length c.args.vars.now) c.loop-var.var-index c.var-item.result refl c.loop-var-test.true c.var-item.is in
    let next = variable_more c.args.vars.now c.loop-var.var-index c.var-item.result c.args.bytes.now c.loop-var.left.now c.in-Ok-Some.rest.now (shown_by c.loop-var.values.items) (shown_by c.read_variable.new.values.items)
    c.loop-var.count at c.if-var.false (rw c.in-Ok-Some.field-0-is at c.in-Ok-Some.ensures) c.loop-var.invariant in
    let within : c.loop-var.count + 3 + length c.in-Ok-Some.rest.now ≤ length c.args.bytes.now =
    count_within c.args.vars.now (c.loop-var.var-index + 1) c.args.bytes.now c.in-Ok-Some.rest.now (shown_by c.read_variable.new.values.items) (c.loop-var.count + 3) next in
    omega (arith, within)

pub loop-var-preserved : goal.loop-var-preserved
loop-var-preserved c =
    let at : slice_get c.args.vars.now c.loop-var.var-index ≡ Some c.var-item.result = slice_get_read c.args.vars.now (length c.args.vars.now) c.loop-var.var-index c.var-item.result refl c.loop-var-test.true c.var-item.is in
    elim c.if-var.branch [
      | then-var+in_ok-push_constant w ↦ rw (w.values-is, w.left-is, w.count-is)
          (constant_more c.args.vars.now c.loop-var.var-index c.var-item.result c.args.bytes.now c.loop-var.left.now (shown_by c.loop-var.values.items) (shown_by w.push_constant.new.values.items)
          c.loop-var.count at w.if-var.true (search rules) c.loop-var.invariant)
      | else-var+in-Ok-Some w ↦ rw (w.values-is, w.left-is, w.count-is)
          (variable_more c.args.vars.now c.loop-var.var-index c.var-item.result c.args.bytes.now c.loop-var.left.now w.in-Ok-Some.rest.now (shown_by c.loop-var.values.items) (shown_by w.read_variable.new.values.items)
          c.loop-var.count at w.if-var.false (rw w.in-Ok-Some.field-0-is at w.in-Ok-Some.ensures) c.loop-var.invariant)
    ]

pub returns-in-10 : goal.returns-in-10
returns-in-10 c =
    let rest : List ℕ = take (length c.loop-var.left.now - 1) (drop 1 c.loop-var.left.now) in
    let lf : get_or c.loop-var.left.now 0 0 ≡ 10 = search rules in
    let left : c.loop-var.left.now ≡ 10 ∷ rest = one_front c.loop-var.left.now 10 (omega (arith, c.in-10.len_at_least)) lf in
    subst (λ (vs : List View). ValuesStand c.args.vars.now c.args.bytes.now (shown_by vs) rest c.loop-var.count) (search rules)
    (values_stand c.args.vars.now c.loop-var.var-index c.args.bytes.now rest (shown_by c.loop-var.values.items) c.loop-var.count (omega (arith, c.loop-var-test.false))
    (subst (λ (l : List ℕ). ValuesSoFar c.args.vars.now c.loop-var.var-index c.args.bytes.now (shown_by c.loop-var.values.items) l c.loop-var.count) left c.loop-var.invariant))
