use Rattle.std.proofs.Common.{◌≡◌, pos, ap, sym, ◌∙◌, w64}
use Rattle.std.proofs.lemmas.Int.{to_z-of_z}
use Rattle.dk_forms.specs.declared.states.State.TheVariants.{One}
use Rattle.dk_forms.specs.Modulus.{apart, class, modulus_state, remainder}
use Rattle.dk_forms.proofs.ModulusLaws.{class_meet-values, class_of-one, class-remainder}
use Rattle.dk_forms.proofs.modulus.join_values.Goals as goal

pub returns-then-distance-eq0 : goal.returns-then-distance-eq0
returns-then-distance-eq0 c =
    let v = c.args.v in let w = c.args.w in
    let distance : c.abs_diff-distance.result ≡ apart v w = simp (to_z-of_z w64 v c.ranges.v, to_z-of_z w64 w c.ranges.w) at c.abs_diff-distance.ensures in
    let near : apart v w ≡ 0 = sym distance ∙ c.if-distance-eq0.true in
    ap One (to_z-of_z w64 v c.ranges.v)
    ∙ sym (ap modulus_state (class_meet-values v w ∙ ap (λ m. class m v) near ∙ class_of-one v))

pub returns-else-distance-eq0 : goal.returns-else-distance-eq0
returns-else-distance-eq0 c =
    let v = c.args.v in let w = c.args.w in
    let m = c.abs_diff-distance.result in
    let distance : m ≡ apart v w = simp (to_z-of_z w64 v c.ranges.v, to_z-of_z w64 w c.ranges.w) at c.abs_diff-distance.ensures in
    let rest : pos c.remainder_of.result ≡ remainder m v = c.remainder_of.ensures ∙ ap (remainder m) (to_z-of_z w64 v c.ranges.v) in
    c.class_state.ensures
    ∙ ap modulus_state (ap (class m) rest ∙ class-remainder m v ∙ ap (λ k. class k v) distance ∙ sym (class_meet-values v w))
