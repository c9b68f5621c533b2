use Rattle.std.proofs.Common.{◌≡◌, ◌++◌, take}
use Rattle.std.specs.List.{flat_map}
use Rattle.dk_page.specs.Pages.{part}
use Rattle.dk_page.proofs.pages.push_parts.Given as goal

abbrev pub invariant-loop-group : goal.invariant-loop-group
invariant-loop-group l = l.text ≡ l.fn.text ++ flat_map (part l.here l.lines) (take l.group-index l.all)
