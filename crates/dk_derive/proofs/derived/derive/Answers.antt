use Rattle.std.proofs.Common.{◌∙◌, ◌++◌, length, refl, sym, ap, subst, arith}
use Rattle.std.proofs.lemmas.Option.{slice_get_read}
use Rattle.dk_base.specs.Shapes.{AreWithDerived}
use Rattle.dk_derive.proofs.Deriving.{all_pushed, are_with_derived, length_with_derived, none_left, sequences_left}
use Rattle.dk_derive.proofs.derived.derive.Goals as goal

pub loop-place-init : goal.loop-place-init
loop-place-init c = ap (λ l. l ++ sequences_left c.args.base.now 0) c.in_ok-vars.ensures ∙ all_pushed c.args.base.now

pub push_of_sequence-requires-clause-there : goal.push_of_sequence-requires-clause-there
push_of_sequence-requires-clause-there c = slice_get_read c.args.base.now (length c.args.base.now) c.loop-place.place c.index-base-place.result refl c.loop-place-test.true c.index-base-place.is

pub returns-clause-shapes : goal.returns-clause-shapes
returns-clause-shapes c =
    subst AreWithDerived (sym (none_left c.args.base.now c.loop-place.vars c.loop-place.place (omega arith) c.loop-place.invariant)) (are_with_derived c.args.base.now c.requires.base)

pub returns-clause-len : goal.returns-clause-len
returns-clause-len c =
    ap length (none_left c.args.base.now c.loop-place.vars c.loop-place.place (omega arith) c.loop-place.invariant) ∙ length_with_derived c.args.base.now
