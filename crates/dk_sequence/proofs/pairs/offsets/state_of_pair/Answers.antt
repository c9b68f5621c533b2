use Rattle.std.proofs.Common.{arith, FitsSigned, ap, sym, ◌∙◌}
use Rattle.std.specs.Int.{w128}
use Rattle.std.proofs.lemmas.Int.{fits_signed_from_abs, to_z-of_z}
use Rattle.dk_forms.specs.declared.states.State.TheVariants as state
use Rattle.dk_sequence.proofs.PairRows.Shifts.{shift_is_offset, state_of_shift}
use Rattle.dk_sequence.proofs.pairs.offsets.state_of_pair.Goals as goal

pub returns-in-Unequal : goal.returns-in-Unequal
returns-in-Unequal c = sym (ap state_of_shift c.in-Unequal.is) ∙ ap state_of_shift c.offset.ensures.value ∙ shift_is_offset c.args.s.now c.args.t.now

pub returns-in-Empty : goal.returns-in-Empty
returns-in-Empty c = sym (ap state_of_shift c.in-Empty.is) ∙ ap state_of_shift c.offset.ensures.value ∙ shift_is_offset c.args.s.now c.args.t.now

pub returns-in-Const : goal.returns-in-Const
returns-in-Const c =
    let k = c.in-Const.k in
    let bounded = c.in-Const.ensures.bounded in
    let fits : FitsSigned w128 k = fits_signed_from_abs w128 k (omega (arith, bounded)) in
    ap (λ d. state.Offset d) (to_z-of_z w128 k fits) ∙ sym (ap state_of_shift c.in-Const.is) ∙ ap state_of_shift c.offset.ensures.value ∙ shift_is_offset c.args.s.now c.args.t.now
