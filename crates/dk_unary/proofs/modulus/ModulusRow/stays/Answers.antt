use Rattle.std.proofs.Common.{rules, FitsSigned, w64, [], ◌∷◌, ap, sym, ◌∙◌}
use Rattle.std.proofs.lemmas.Int.{to_z-of_z}
use Rattle.dk_base.specs.Values.{values_of}
use Rattle.dk_forms.specs.Modulus.{modulus_of}
use Rattle.dk_template.proofs.Staying.{proper_by, stays_as}
use Rattle.dk_unary.proofs.Points.{modulus_of_one}
use Rattle.dk_unary.proofs.Takes.{modulus_form, modulus_takes}
use Rattle.dk_unary.proofs.modulus.ModulusRow.stays.Goals as goal

pub int_at-requires-clause-kind : goal.int_at-requires-clause-kind
int_at-requires-clause-kind c = modulus_takes (values_of c.args.tuple.now) c.requires.tuple

pub modulus_stays-requires : goal.modulus_stays-requires
modulus_stays-requires c = proper_by modulus_form c.args.state.now c.requires.state

pub returns : goal.returns
returns c =
    let x = c.int_at.result in
    let fits : FitsSigned w64 x = search rules in
    stays_as c.args.state.now modulus_form (modulus_of_one (values_of c.args.tuple.now) ∙ ap (λ x. modulus_of (x ∷ [])) (sym (to_z-of_z w64 x fits ∙ c.int_at.ensures))) c.modulus_stays.ensures
