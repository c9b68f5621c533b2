use Rattle.dk_table.proofs.Masks.{mask_joined}
use Rattle.dk_table.proofs.rows.marks.mask_of_block.Goals as goal

pub returns : goal.returns
returns c =
    mask_joined c.args.separator c.args.bytes.now c.args.block c.lanes_of-lanes.result c.mask_of_byte.result c.mask_of_byte-2.result c.mask_of_byte-3.result
    c.lanes_of-lanes.ensures c.requires c.mask_of_byte.ensures c.mask_of_byte-2.ensures c.mask_of_byte-3.ensures
