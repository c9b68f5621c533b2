use Rattle.std.specs.Prelude.{◌≡◌, take}
use Rattle.dk_hierarchy.specs.Ways.{partners_below}
use Rattle.dk_hierarchy.proofs.composing.onward.Given as goal

abbrev pub invariant-loop-partner : goal.invariant-loop-partner
invariant-loop-partner l = l.next ≡ partners_below l.below (take l.partner-index l.partners)
