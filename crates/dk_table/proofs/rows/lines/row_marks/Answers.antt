use Rattle.std.proofs.Common.{◌≡◌, ◌<◌, ◌+◌, ◌∙◌, ap, arith, get_or, length, sym, true, ℕ}
use Rattle.csv.specs.Machine.{ends_with}
use Rattle.csv.specs.declared.parser.Terminator.TheVariants as term
use Rattle.dk_table.proofs.Cutting.{blank_next, blank_passed}
use Rattle.dk_table.proofs.rows.lines.row_marks.Goals as goal

pub blank-preserved : goal.blank-preserved
blank-preserved c =
    let separator = c.args.separator in
    let bytes = c.args.bytes.now in
    let place : ℕ = c.blank.ahead.place in
    let lt : place < length bytes = omega (arith, c.place.ensures, c.blank-test.true) in
    let ends : ends_with term.CRLF (get_or bytes place 0) ≡ true =
    ap (λ (n : ℕ). ends_with term.CRLF (get_or bytes n 0)) (sym c.place-in-blank.ensures) ∙ sym c.ends_line.ensures ∙ c.if-ends_line.true in
    let next : c.next-end.new.self.place ≡ place + 1 =
    blank_next separator bytes place c.next-end.result c.next-end.new.self.place c.next-end.ensures.end lt ends c.next-end.ensures.place in
    record {
      ahead = c.next-end.ensures.ahead;
      later = omega (arith, next, c.blank.invariant.later);
      same = blank_passed separator bytes place c.next-end.new.self.place lt ends next ∙ c.blank.invariant.same;
    }
