use Rattle.std.proofs.Common.{ap, sym, ◌∙◌, w64}
use Rattle.std.proofs.lemmas.Int.{to_z-of_z}
use Rattle.dk_forms.specs.declared.states.State.TheVariants.{One, Modulus}
use Rattle.dk_forms.specs.Modulus.{modulus_join}
use Rattle.dk_forms.proofs.ModulusLaws.{modulus_laws}
use Rattle.dk_forms.proofs.modulus.join_to_value.Goals as goal

pub returns : goal.returns
returns c =
    let v = c.args.v in
    let class = Modulus c.args.m c.args.r in
    c.join_value.ensures ∙ ap (λ x. modulus_join class (One x)) (to_z-of_z w64 v c.ranges.v) ∙ sym (modulus_laws.comm (One v) class tt c.requires)
