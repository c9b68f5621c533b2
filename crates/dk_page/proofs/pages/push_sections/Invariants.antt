use Rattle.std.proofs.Common.{◌≡◌, ◌++◌, take}
use Rattle.std.specs.List.{flat_map}
use Rattle.dk_page.specs.Pages.{section}
use Rattle.dk_page.proofs.pages.push_sections.Given as goal

abbrev pub invariant-loop-told : goal.invariant-loop-told
invariant-loop-told l = l.text ≡ l.fn.text ++ flat_map section (take l.told-index l.sections)
