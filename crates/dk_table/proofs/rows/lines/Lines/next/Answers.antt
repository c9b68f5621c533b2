use Rattle.std.proofs.Common.{◌≤◌, ◌<◌, ◌+◌, ◌∙◌, ap, arith, length, List, map, refl, sym, ℕ}
use Rattle.dk_table.specs.Tables.Cursors.{Cursor, line_row}
use Rattle.dk_table.proofs.Cutting.{moves, no_row, one_row, stays}
use Rattle.dk_table.proofs.rows.lines.Lines.next.Goals as goal

pub returns-then-place-self : goal.returns-then-place-self
returns-then-place-self c =
    let own = c.self.inside in
    let bytes : List ℕ = own.bytes.now in
    let found = c.row_marks-marks in
    let past : length bytes ≤ c.row_marks-marks.result.place = omega (arith, c.place.ensures, c.if-place-self.true) in
    stays own.separator c.args.self.now.left _
    (ap (λ (r : Cursor). r.left) (sym c.self.view_is)
    ∙ no_row own.separator own.file own.number (map (λ x. x.now) own.cells.items) bytes own.marks.place found.result.place found.ensures.same past)
    (no_row own.separator own.file own.number (map (λ x. x.now) c.clear.new.self.items) bytes found.result.place found.result.place refl past)

pub returns : goal.returns
returns c =
    let own = c.self.inside in
    let bytes : List ℕ = own.bytes.now in
    let found = c.row_marks-marks in
    let cells : List (List ℕ) = map (λ x. x.now) c.cut_cells.new.cells.items in
    let some : c.row_marks-marks.result.place < length bytes = omega (arith, c.place.ensures, c.if-place-self.false) in
    moves own.separator c.args.self.now.left (line_row own.file (own.number + 1) cells) _
    (ap (λ (r : Cursor). r.left) (sym c.self.view_is)
    ∙ one_row own.separator own.file own.number (map (λ x. x.now) own.cells.items) cells bytes own.marks.place found.result.place c.in_ok-self-inside.field-0.place found.ensures.same some
    (found.ensures.begins some) c.in_ok-self-inside.ensures.cells)
