use Rattle.std.proofs.Common.{rules, FitsSigned, w64, [], ◌∷◌, ap, sym, ◌∙◌}
use Rattle.std.proofs.lemmas.Int.{to_z-of_z}
use Rattle.dk_base.specs.Values.{values_of}
use Rattle.dk_forms.specs.Modulus.{modulus_of}
use Rattle.dk_unary.proofs.Points.{modulus_of_one}
use Rattle.dk_unary.proofs.Takes.{modulus_takes}
use Rattle.dk_unary.proofs.modulus.ModulusRow.point.Goals as goal

pub int_at-requires-clause-kind : goal.int_at-requires-clause-kind
int_at-requires-clause-kind c = modulus_takes (values_of c.args.tuple.now) c.requires

pub returns-clause-state : goal.returns-clause-state
returns-clause-state c =
    let x = c.int_at.result in
    let fits : FitsSigned w64 x = search rules in
    c.modulus_point.ensures.value ∙ ap (λ x. modulus_of (x ∷ [])) (to_z-of_z w64 x fits ∙ c.int_at.ensures) ∙ sym (modulus_of_one (values_of c.args.tuple.now))
