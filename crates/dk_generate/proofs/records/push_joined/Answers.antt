use Rattle.std.proofs.Common.{◌+◌, arith, slice_index, sym}
use Rattle.std.specs.Fmt.{decimal}
use Rattle.std.proofs.lemmas.Bool.{ne_eqb}
use Rattle.std.proofs.lemmas.List.{get_or_default}
use Rattle.dk_base.proofs.Joining.{item_more}
use Rattle.dk_generate.proofs.records.push_joined.Goals as goal

pub loop-item-preserved : goal.loop-item-preserved
loop-item-preserved c = record {
  begun = sym (ne_eqb (c.loop-item.item-index + 1) 0 (λ e. absurd (omega arith)));
  so_far = item_more decimal c.args.items.now c.loop-item.item-index (slice_index c.args.items.now c.loop-item.item-index) c.args.text.now c.loop-item.text
      c.push_next.new.text c.loop-item.is_first c.loop-item-test.true (get_or_default c.args.items.now c.loop-item.item-index 0 _ c.loop-item-test.true) c.loop-item.invariant.begun c.loop-item.invariant.so_far c.in_ok-push_next.ensures;
}
