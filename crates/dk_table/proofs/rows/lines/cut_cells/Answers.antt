use Rattle.std.proofs.Common.{◌<◌, ap, arith, inl, inr, length, map, List, ℕ}
use Rattle.std.specs.Borrow.{Bor}
use Rattle.dk_table.proofs.Cutting.{cell_cut, cuts_none, pushed, row_cut}
use Rattle.dk_table.proofs.rows.lines.cut_cells.Goals.{then-end-bytes-via-then-end-bytes, then-end-bytes-via-else-end-bytes+then-bytes-end}
use Rattle.dk_table.proofs.rows.lines.cut_cells.Goals as goal

pub cells-init : goal.cells-init
cells-init c = record {
  ahead = c.requires.ahead;
  later = omega arith;
  cut = cuts_none c.args.separator c.args.bytes.now c.args.marks.place _ (ap (map (λ (x : Bor (List ℕ)). x.now)) c.requires.none);
}

pub returns-then-end-bytes-clause-cells : goal.returns-then-end-bytes-clause-cells
returns-then-end-bytes-clause-cells c =
    row_cut c.args.separator c.args.bytes.now c.args.marks.place _ _ c.cells.ahead.place c.place-start.result c.next-end.result c.next-end.new.self.place c.requires.unquoted
    c.cells.invariant.cut c.next-end.ensures.end c.place-start.ensures (pushed c.cells.cells.items _ _ c.in_ok-push.ensures.items) c.next-end.ensures.place
    (elim c.then-end-bytes.branch [
      | then-end-bytes-via-then-end-bytes w ↦ inl (omega (arith, w.if-end-bytes.true))
      | then-end-bytes-via-else-end-bytes+then-bytes-end w ↦ inr (omega (arith, w.if-end-bytes.false), w.if-bytes-end.true)
    ])

pub cells-preserved : goal.cells-preserved
cells-preserved c =
    let lt : c.next-end.result < length c.args.bytes.now = omega (arith, c.if-end-bytes.false) in
    record {
      ahead = c.next-end.ensures.ahead;
      later = omega (arith, c.cells.invariant.later, c.next-end.ensures.end.low, c.next-end.ensures.place, lt);
      cut =
          cell_cut c.args.separator c.args.bytes.now c.args.marks.place _ _ c.cells.ahead.place c.place-start.result c.next-end.result c.next-end.new.self.place c.requires.unquoted
          c.cells.invariant.cut c.next-end.ensures.end c.place-start.ensures (pushed c.cells.cells.items _ _ c.in_ok-push.ensures.items) c.next-end.ensures.place lt c.if-bytes-end.false;
    }
