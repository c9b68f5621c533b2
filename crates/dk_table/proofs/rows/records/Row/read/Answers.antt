use Rattle.std.proofs.Common.{◌≡◌, ◌∙◌, [], arith, inl, List, subst, sym, true, ℕ}
use Rattle.csv.specs.Records.{fields_of}
use Rattle.dk_table.specs.Tables.Cursors.{Cursor, IsReading, Moves, rows_left}
use Rattle.dk_table.specs.Tables.PlacedRows.{Placed}
use Rattle.dk_table.proofs.Moving.{moves, next_fits, next_row, none_left, still_between, still_numbered}
use Rattle.dk_table.proofs.rows.records.Row.read.Goals as goal

pub overflow_add-self : goal.overflow_add-self
overflow_add-self c =
    let a = c.args.reader.now in
    let b = c.read_byte_record.new.self in
    let row : Placed = record { file = c.self.inside.file; number = c.self.inside.number; cells = fields_of c.self.inside.cells } in
    let P : Placed → Type 0 = λ p. IsReading p a in
    let reading : IsReading row a = subst P (sym c.self.view_is) c.requires in
    let r = rw c.if-not-found.false at (c.in-Ok.ensures.reads reading.untrimmed reading.ready) in
    omega (arith, next_fits row a b (fields_of c.read_byte_record.new.row) reading r)

pub returns-clause-moves : goal.returns-clause-moves
returns-clause-moves c e =
    let a = c.args.reader.now in
    let b = c.read_byte_record.new.self in
    let cells : List (List ℕ) = fields_of c.read_byte_record.new.row in
    let row : Placed = record { file = c.self.inside.file; number = c.self.inside.number; cells = fields_of c.self.inside.cells } in
    let P : Placed → Type 0 = λ p. IsReading p a in
    let reading : IsReading row a = subst P (sym c.self.view_is) c.requires in
    let r = rw c.if-not-found.false at (c.in-Ok.ensures.reads reading.untrimmed reading.ready) in
    let after : Cursor = record { row = next_row row cells; left = rows_left (next_row row cells) b } in
    let Q : Placed → Type 0 = λ p. Moves (rows_left p a) after true in
    subst Q c.self.view_is (moves row a b cells reading r)

pub returns-clause-reads : goal.returns-clause-reads
returns-clause-reads c e =
    let a = c.args.reader.now in
    let b = c.read_byte_record.new.self in
    let cells : List (List ℕ) = fields_of c.read_byte_record.new.row in
    let row : Placed = record { file = c.self.inside.file; number = c.self.inside.number; cells = fields_of c.self.inside.cells } in
    let P : Placed → Type 0 = λ p. IsReading p a in
    let reading : IsReading row a = subst P (sym c.self.view_is) c.requires in
    let r = rw c.if-not-found.false at (c.in-Ok.ensures.reads reading.untrimmed reading.ready) in
    record {
      going = c.in-Ok.ensures.goes ∙ reading.going;
      untrimmed = r.3 ∙ reading.untrimmed;
      ready = inl (c.in-Ok.ensures.ready reading.untrimmed);
      flexible = c.in-Ok.ensures.flexible ∙ reading.flexible;
      between = still_between row a b cells reading r;
      numbered = still_numbered row a b cells reading r;
    }

pub returns-then-not-found-clause-none : goal.returns-then-not-found-clause-none
returns-then-not-found-clause-none c e =
    let a = c.args.reader.now in
    let row : Placed = record { file = c.self.inside.file; number = c.self.inside.number; cells = fields_of c.self.inside.cells } in
    let P : Placed → Type 0 = λ p. IsReading p a in
    let reading : IsReading row a = subst P (sym c.self.view_is) c.requires in
    let r = rw c.if-not-found.true at (c.in-Ok.ensures.reads reading.untrimmed reading.ready) in
    let N : Placed → Type 0 = λ p. rows_left p a ≡ [] in
    subst N c.self.view_is (none_left row a c.read_byte_record.new.self (fields_of c.read_byte_record.new.row) reading r)
