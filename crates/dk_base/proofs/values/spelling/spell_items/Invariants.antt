use Rattle.std.proofs.Common.{◌≡◌, ◌++◌, ◌==◌, map, take}
use Rattle.std.specs.List.{join_with_byte}
use Rattle.dk_base.proofs.values.spelling.spell_items.Given as goal

abbrev pub invariant-loop-item : goal.invariant-loop-item
invariant-loop-item g l = record {
  begun : l.is_first ≡ (l.item-index == 0);
  so_far : l.text ≡ l.fn.text ++ join_with_byte 32 (map g.T.Spelled.text_of (take l.item-index l.items));
}
