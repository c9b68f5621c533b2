use Rattle.std.proofs.Common.{◌∙◌, subst, sym}
use Rattle.dk_samples.specs.Leaders.{VarsAscend}
use Rattle.dk_classes.proofs.OwnLeaders.{own_ascend}
use Rattle.dk_classes.proofs.class.Classes.leaders.Goals as goal

pub returns-clause-ascend : goal.returns-clause-ascend
returns-clause-ascend c = subst VarsAscend (sym (c.as_slice.ensures.value ∙ c.self.invariant.1)) (own_ascend c.self.inside.leaders.items)
