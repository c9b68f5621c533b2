use Rattle.std.proofs.Common.{subst, ◌+◌, ℕ, length}
use Rattle.dk_table.specs.Tables.Marks.{IsNextEnd}
use Rattle.dk_table.proofs.Masks.{lowest_ends, none_ends}
use Rattle.dk_table.proofs.rows.marks.Marks.next.Goals as goal

pub returns-then-marks-eq0-clause-end : goal.returns-then-marks-eq0-clause-end
returns-then-marks-eq0-clause-end c =
    let s = c.args.separator in
    let bytes = c.args.bytes.now in
    let found = c.found-marks in
    subst (λ (p : ℕ). IsNextEnd s bytes p (length bytes)) found.ensures.place
    (none_ends s bytes found.result found.ensures.ahead c.if-marks-eq0.true (found.ensures.last c.if-marks-eq0.true))

pub returns-clause-end : goal.returns-clause-end
returns-clause-end c =
    let s = c.args.separator in
    let bytes = c.args.bytes.now in
    let found = c.found-marks in
    subst (λ (p : ℕ). IsNextEnd s bytes p (found.result.block + c.lowest-bit.result)) found.ensures.place
    (lowest_ends s bytes found.result found.ensures.ahead c.lowest-bit.result c.lowest-bit.ensures.bound c.lowest-bit.ensures.set c.lowest-bit.ensures.below)
