use Rattle.std.proofs.Common.{refl}
use Rattle.dk_languages.specs.Bases.Roots.{python_keywords}
use Rattle.dk_languages.proofs.variables.roots.python_keywords.Goals as goal

pub returns : goal.returns
unfolding python_keywords
returns c = refl
