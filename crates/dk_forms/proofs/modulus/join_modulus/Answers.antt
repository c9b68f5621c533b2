use Rattle.std.proofs.Common.{sym, subst}
use Rattle.dk_forms.specs.Modulus.{IsModulusState}
use Rattle.dk_forms.proofs.ModulusLaws.{modulus_laws}
use Rattle.dk_forms.proofs.modulus.join_modulus.Goals as goal

pub returns-else-adds_nothing-clause-formed : goal.returns-else-adds_nothing-clause-formed
returns-else-adds_nothing-clause-formed c = subst IsModulusState (sym c.joined_modulus.ensures) (modulus_laws.closed c.args.left c.args.right.now c.requires.left c.requires.right)
