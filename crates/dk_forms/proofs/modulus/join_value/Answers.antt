use Rattle.std.proofs.Common.{◌≡◌, pos, ap, sym, ◌∙◌, arith, w64}
use Rattle.std.proofs.lemmas.Int.{ints, to_z-of_z}
use Rattle.dk_arith.specs.Gcd.{gcd}
use Rattle.dk_forms.specs.Modulus.{apart, class, modulus_state, remainder}
use Rattle.dk_forms.proofs.ModulusLaws.{class_meet-value, gcd_some}
use Rattle.dk_forms.proofs.modulus.join_value.Goals as goal

pub class_state-requires : goal.class_state-requires
class_state-requires c = omega (arith, c.gcd_of.ensures, gcd_some c.args.m c.abs_diff.result (omega arith))

pub returns : goal.returns
returns c =
    let m = c.args.m in let r = c.args.r in let w = c.args.w in
    let s = c.remainder_of-s.result in
    let rest : pos s ≡ remainder m w = c.remainder_of-s.ensures ∙ ap (remainder m) (to_z-of_z w64 w c.ranges.w) in
    let distance : c.abs_diff.result ≡ apart (pos r) (pos s) = omega (arith, ints) in
    let divisor : c.gcd_of.result ≡ gcd m (apart (pos r) (remainder m w)) =
    c.gcd_of.ensures ∙ ap (gcd m) distance ∙ ap (λ x. gcd m (apart (pos r) x)) rest in
    c.class_state.ensures ∙ ap modulus_state (ap (λ k. class k (pos r)) divisor ∙ sym (class_meet-value m (pos r) w))
