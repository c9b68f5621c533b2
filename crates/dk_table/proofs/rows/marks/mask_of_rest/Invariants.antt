use Rattle.std.proofs.Common.{◌≡◌, ◌+◌, ◌<◌, get_or, true, ℕ}
use Rattle.std.specs.Int.{bit_at}
use Rattle.dk_table.specs.Tables.Marks.{ends_cell}
use Rattle.dk_table.proofs.rows.marks.mask_of_rest.Given as goal

abbrev pub invariant-loop-bit : goal.invariant-loop-bit
invariant-loop-bit l = record {
  seen : (k : ℕ) → k < l.bit → ends_cell l.separator (get_or l.bytes (l.block + k) 0) ≡ true → bit_at l.mask k ≡ 1;
  within : (k : ℕ) → k < 64 → bit_at l.mask k ≡ 1 → k < l.bit;
  ends : (k : ℕ) → k < 64 → bit_at l.mask k ≡ 1 → ends_cell l.separator (get_or l.bytes (l.block + k) 0) ≡ true;
}
