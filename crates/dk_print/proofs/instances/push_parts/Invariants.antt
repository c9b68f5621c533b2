use Rattle.std.proofs.Common.{◌≡◌, ◌++◌, take}
use Rattle.std.specs.List.{flat_map}
use Rattle.dk_print.specs.Parts.{part_text}
use Rattle.dk_print.specs.Shown.{part_shown}
use Rattle.dk_print.specs.Texts.{var_names}
use Rattle.dk_print.proofs.instances.push_parts.Given as goal

abbrev pub invariant-loop-part : goal.invariant-loop-part
invariant-loop-part l = l.text ≡ l.fn.text ++ flat_map (λ p. part_text (var_names l.vars l.tuple) l.state (part_shown p)) (take l.part-index l.parts)
