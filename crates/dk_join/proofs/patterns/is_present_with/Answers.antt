use Rattle.std.proofs.Common.{◌∙◌, ap}
use Rattle.dk_classes.specs.Leaders.{var}
use Rattle.dk_presence.specs.Patterns.{has}
use Rattle.dk_join.proofs.patterns.is_present_with.Goals as goal

pub returns : goal.returns
returns c = c.contains.ensures ∙ ap (has c.args.present.now) (ap var c.leader.ensures)
