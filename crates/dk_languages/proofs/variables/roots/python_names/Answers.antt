use Rattle.std.proofs.Common.{refl}
use Rattle.dk_languages.specs.Bases.Roots.{python_names}
use Rattle.dk_languages.proofs.variables.roots.python_names.Goals as goal

pub returns : goal.returns
unfolding python_names
returns c = refl
