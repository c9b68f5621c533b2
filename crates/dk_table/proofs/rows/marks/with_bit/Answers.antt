use Rattle.std.proofs.Common.{w64}
use Rattle.std.proofs.lemmas.Nat.Bits.{bit_at_set_other, bit_at_set_same}
use Rattle.dk_table.proofs.rows.marks.with_bit.Goals as goal

pub returns-clause-set : goal.returns-clause-set
returns-clause-set c = bit_at_set_same w64 c.args.mask c.args.bit c.requires

pub returns-clause-kept : goal.returns-clause-kept
returns-clause-kept c k apart = bit_at_set_other w64 c.args.mask c.args.bit c.requires k apart
