use Rattle.std.proofs.Common.{◌≡◌, ◌++◌, ◌==◌, map, take}
use Rattle.std.specs.Fmt.{decimal}
use Rattle.std.specs.List.{join_with_byte}
use Rattle.dk_generate.proofs.records.push_joined.Given as goal

abbrev pub invariant-loop-item : goal.invariant-loop-item
invariant-loop-item l = record {
  begun : l.is_first ≡ (l.item-index == 0);
  so_far : l.text ≡ l.fn.text ++ join_with_byte 32 (map decimal (take l.item-index l.items));
}
