use Rattle.std.proofs.Common.{◌+◌, arith, sym}
use Rattle.std.proofs.lemmas.Bool.{ne_eqb}
use Rattle.dk_base.proofs.Joining.{item_more}
use Rattle.dk_base.proofs.values.spelling.spell_items.Goals as goal

pub loop-item-preserved : goal.loop-item-preserved
loop-item-preserved g c = record {
  begun = sym (ne_eqb (c.loop-item.item-index + 1) 0 (λ e. absurd (omega arith)));
  so_far = item_more g.T.Spelled.text_of c.args.items.now c.loop-item.item-index c.item-item.result c.args.text.now c.loop-item.text c.spell_next.new.text
      c.loop-item.is_first c.loop-item-test.true c.item-item.is c.loop-item.invariant.begun c.loop-item.invariant.so_far c.in_ok-spell_next.ensures;
}
