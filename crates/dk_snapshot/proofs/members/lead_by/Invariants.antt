use Rattle.std.proofs.Common.{◌≡◌, drop}
use Rattle.dk_snapshot.specs.Restored.{led_by}
use Rattle.dk_snapshot.proofs.members.lead_by.Given as goal

abbrev pub invariant-loop-member : goal.invariant-loop-member
invariant-loop-member l = led_by l.leader (drop l.member-index l.members) l.heads.items ≡ led_by l.leader l.members l.initial.heads.items
