use Rattle.std.proofs.Common.{subst}
use Rattle.dk_presence.specs.Patterns.{AreHeld}
use Rattle.dk_merging.proofs.engines.tell_sound.Goals as goal

pub returns : goal.returns
returns c = record { fed = c.kept.ensures.fed; held = subst AreHeld c.presence.ensures c.held.ensures.held }
