use Rattle.std.proofs.Common.{refl}
use Rattle.dk_languages.specs.Bases.Roots.{c_keywords}
use Rattle.dk_languages.proofs.variables.roots.c_keywords.Goals as goal

pub returns : goal.returns
unfolding c_keywords
returns c = refl
