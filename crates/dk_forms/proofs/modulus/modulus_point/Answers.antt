use Rattle.std.proofs.Common.{ap, sym, ◌∙◌, w64}
use Rattle.std.proofs.lemmas.Int.{to_z-of_z}
use Rattle.dk_forms.specs.declared.states.State.TheVariants.{One}
use Rattle.dk_forms.specs.Modulus.{modulus_state}
use Rattle.dk_forms.proofs.ModulusLaws.{class_of-one}
use Rattle.dk_forms.proofs.modulus.modulus_point.Goals as goal

pub returns-clause-value : goal.returns-clause-value
returns-clause-value c = ap One (to_z-of_z w64 c.args.x c.ranges.x) ∙ sym (ap modulus_state (class_of-one c.args.x))
