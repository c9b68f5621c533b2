use Rattle.std.proofs.Common.{◌≡◌, ◌++◌, take}
use Rattle.std.specs.List.{flat_map}
use Rattle.dk_page.specs.Showing.{numbered}
use Rattle.dk_page.proofs.showing.push_each_numbered.Given as goal

abbrev pub invariant-loop-byte : goal.invariant-loop-byte
invariant-loop-byte l = l.text ≡ l.fn.text ++ flat_map numbered (take l.byte-index l.bytes)
