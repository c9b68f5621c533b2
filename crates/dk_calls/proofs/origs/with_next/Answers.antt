use Rattle.std.proofs.Common.{◌∙◌, ◌+◌, List, drop, sym}
use Rattle.dk_base.specs.Values.{values_of}
use Rattle.dk_base.specs.declared.kinds.VarInfo.{VarInfo}
use Rattle.dk_base.specs.declared.values.Value.{Value}
use Rattle.dk_calls.proofs.Passing.{drop_one, passed_by, passed_own}
use Rattle.dk_calls.proofs.origs.with_next.Goals as goal

pub returns-in_ok-more : goal.returns-in_ok-more
returns-in_ok-more c = λ (exit vars : List VarInfo) (left whole : List Value) p.
    passed_own exit c.args.var.now vars c.args.value.now left (drop c.args.place c.args.origs.now) (drop (c.args.place + 1) c.args.origs.now)
    (values_of c.args.values.items) (values_of c.in_ok-more.more.items) whole
    (sym c.is_next.ensures.next ∙ c.if-is_next.true) (drop_one c.args.origs.now c.args.place) c.in_ok-more.ensures p

pub returns-else-is_next : goal.returns-else-is_next
returns-else-is_next c = λ (exit vars : List VarInfo) (left whole : List Value) p.
    passed_by exit c.args.var.now vars c.args.value.now left (drop c.args.place c.args.origs.now) (values_of c.args.values.items) whole
    (sym c.is_next.ensures.next ∙ c.if-is_next.false) p
