use Rattle.std.proofs.Common.{◌≡◌, ◌++◌, take}
use Rattle.dk_page.specs.Pages.{items}
use Rattle.dk_page.proofs.pages.push_items.Given as goal

abbrev pub invariant-loop-line : goal.invariant-loop-line
invariant-loop-line l = l.text ≡ l.fn.text ++ items l.here l.group (take l.line-index l.lines)
