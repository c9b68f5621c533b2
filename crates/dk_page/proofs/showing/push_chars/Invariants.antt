use Rattle.std.proofs.Common.{◌≡◌, ◌++◌}
use Rattle.std.specs.List.{flat_map}
use Rattle.dk_page.specs.Showing.{shown_char}
use Rattle.dk_page.proofs.showing.push_chars.Given as goal

abbrev pub invariant-loop-character : goal.invariant-loop-character
invariant-loop-character l = l.text ≡ l.fn.text ++ flat_map (shown_char l.stop) l.yielded
