use Rattle.std.proofs.Common.{arith, rules}
use Rattle.dk_table.proofs.Masks.{block_passed}
use Rattle.dk_table.proofs.rows.marks.Marks.found.Goals as goal

pub blocks-2-preserved : goal.blocks-2-preserved
blocks-2-preserved c = record {
  ahead = block_passed c.args.separator c.args.bytes.now c.blocks-2.marks c.blocks-2.invariant.ahead c.mask_of.result (search rules) (omega (arith, c.if-bytes-marks-gt-BLOCK.true)) c.mask_of.ensures;
  place = c.blocks-2.invariant.place;
}
