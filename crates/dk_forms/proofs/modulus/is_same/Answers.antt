use Rattle.std.proofs.Common.{◌≡◌, ap, sym, subst, ◌∙◌, to_z, of_z, w64}
use Rattle.std.proofs.lemmas.Bool.{eqb-true}
use Rattle.std.proofs.lemmas.Int.{to_z-of_z}
use Rattle.dk_forms.specs.declared.states.State.TheVariants.{One}
use Rattle.dk_forms.specs.Modulus.{modulus_join}
use Rattle.dk_forms.proofs.ModulusLaws.{modulus_laws}
use Rattle.dk_forms.proofs.modulus.is_same.Goals as goal

pub returns : goal.returns
returns c = λ equal.
    let v = c.args.v in let w = c.args.w in
    let same : v ≡ w = sym (to_z-of_z w64 v c.ranges.v) ∙ ap (to_z w64) (eqb-true (of_z w64 v) (of_z w64 w) equal) ∙ to_z-of_z w64 w c.ranges.w in
    subst (λ x. modulus_join (One v) (One x) ≡ One v) same (modulus_laws.idem (One v) tt)
