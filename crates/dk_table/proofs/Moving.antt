-- Going through the rows of a file.
use Rattle.std.proofs.Common.{◌≡◌, ◌≤◌, ◌<◌, ◌+◌, ◌^◌, ◌∙◌, ◌==◌, ◌&&◌, ◌∷◌, ◌++◌, [], ℕ, Bool, true, false, List, Option, Some, None, drop, length, take, refl, sym, ap, subst, arith, if◌then◌else◌}
use Rattle.std.specs.Prelude.{not, option_map}
use Rattle.std.specs.Io.KnownBytes.{prepend_known}
use Rattle.csv.specs.Machine.{Read, ends_at_end, next_record}
use Rattle.csv.specs.Reading.{Reached, ReadRecord, has_failed, is_bom, reader_config, reader_state, records, records_from, strip_bom, unread_of}
use Rattle.csv.specs.declared.parser.Config.{Config}
use Rattle.csv.specs.declared.parser.State.{State}
use Rattle.csv.specs.declared.parser.State.TheVariants as st
use Rattle.csv.specs.declared.reader.Reader.{Reader}
use Rattle.csv.proofs.ReadFacts.{rows-end, rows-more}
use Rattle.dk_table.specs.Tables.Cursors.{Bytes, Cursor, IsReading, Moves, bytes_in, bytes_left, rows_left, rows_of_bytes}
use Rattle.dk_table.specs.Tables.PlacedRows.{Placed}
use Rattle.dk_table.specs.Tables.{placed_from}
use Rattle.dk_table.proofs.AllRecords.{few_records, placed_length, records_end, records_more, shrinks}

-- ---- the bytes that are left are known
in_chain : (bytes : Bytes) → (zs : List ℕ) × (bytes_in bytes ≡ Some zs)
in_chain bytes = go bytes.is_first_done
  where
    go : (b : Bool) → (zs : List ℕ) × ((if b then Some bytes.b_done.now else Some (bytes.a_done.now ++ bytes.b_done.now)) ≡ Some zs)
    go true = (bytes.b_done.now, refl)
    go false = (bytes.a_done.now ++ bytes.b_done.now, refl)

either_known : (b : Bool) (xs ys : List ℕ) → (zs : List ℕ) × ((if b then Some xs else Some ys) ≡ Some zs)
either_known true xs ys = (xs, refl)
either_known false xs ys = (ys, refl)

known : (r : Reader Bytes) → has_failed r ≡ false → (zs : List ℕ) × (bytes_left r ≡ Some zs)
known r going =
    let fresh : Bool = not r.bom_checked && (r.at == 0) && (r.filled == 0) in
    let held : List ℕ = drop r.at (take r.filled r.buffer) in
    let under = in_chain r.rdr in
    let e = either_known fresh (strip_bom under.0) (held ++ under.0) in (
      e.0,
      ap (λ (b : Bool). if b then None else unread_of bytes_in r) going
          ∙ ap (λ (o : Option (List ℕ)). if fresh then option_map strip_bom o else prepend_known held o) under.1 ∙ e.1,
    )

-- the row behind a row, with these cells
abbrev pub next_row : Placed → List (List ℕ) → Placed
next_row row cells = record { file = row.file; number = row.number + 1; cells = cells }

-- ---- a read that found a record
pub record IsFound (row : Placed) (a b : Reader Bytes) (cells : List (List ℕ)) : Type 0 where
  pub bytes : List ℕ
  pub left : bytes_left a ≡ Some bytes
  pub behind : Read
  pub read : next_record (reader_config a) (reader_state a) [] [] bytes ≡ Some behind
  pub cells_are : cells ≡ behind.0
  pub state_is : behind.1 ≡ reader_state b
  pub rest_is : bytes_left b ≡ Some behind.2
  pub config_is : reader_config b ≡ reader_config a

found : (row : Placed) (a b : Reader Bytes) (cells : List (List ℕ)) → has_failed a ≡ false → ReadRecord bytes_in a b true cells → IsFound row a b cells
unfolding Reached
found row a b cells going r =
    let (y, e) = known a going in
    let m = rows-more bytes_in a b cells (reader_config a) (reader_state a) y y [] refl e (refl, refl) r in
    let h = m.2 in
    record {
      bytes = y;
      left = e;
      behind = h.0;
      read = h.1;
      cells_are = h.2;
      state_is = h.3.0;
      rest_is = m.1 ∙ ap (λ (l : List ℕ). Some l) (sym h.3.1);
      config_is = r.2;
    }

module _ (row : Placed) (a b : Reader Bytes) (cells : List (List ℕ)) (reading : IsReading row a) (r : ReadRecord bytes_in a b true cells) where
  at : IsFound row a b cells
  at = found row a b cells reading.going r

  pub still_between : ends_at_end (reader_state b) ≡ false
  still_between =
      ap ends_at_end (sym at.state_is) ∙ (shrinks (reader_config a) (reader_state a) [] [] at.bytes at.behind at.read).fine

  -- the rows that were left are this one and those that are left
  one_less : rows_left row a ≡ next_row row cells ∷ rows_left (next_row row cells) b
  one_less =
      let cfg : Config = reader_config a in
      let tail : List (List (List ℕ)) → List Placed = λ more. placed_from row.file (row.number + 1 + 1) more in
      let behind : List Placed = tail (records_from cfg (length at.behind.2 + 1) at.behind.1 at.behind.2) in
      let ahead : behind ≡ rows_left (next_row row cells) b =
      ap (λ (s : State). tail (records_from cfg (length at.behind.2 + 1) s at.behind.2)) at.state_is
      ∙ ap (λ (k : Config). tail (records_from k (length at.behind.2 + 1) (reader_state b) at.behind.2)) (sym at.config_is)
      ∙ ap (rows_of_bytes (next_row row cells) (reader_config b) (reader_state b)) (sym at.rest_is) in
      ap (rows_of_bytes row cfg (reader_state a)) at.left
      ∙ ap (placed_from row.file (row.number + 1)) (records_more cfg (length at.bytes + 1) (reader_state a) at.bytes at.behind (omega arith) reading.between at.read)
      ∙ ap (λ (c : List (List ℕ)). next_row row c ∷ behind) (sym at.cells_are)
      ∙ ap (λ (l : List Placed). next_row row cells ∷ l) ahead

  pub still_numbered : row.number + 1 + length (rows_left (next_row row cells) b) < 2 ^ 64
  still_numbered = omega (arith, ap length one_less, reading.numbered)

  pub next_fits : row.number + 1 < 2 ^ 64
  next_fits = omega (arith, still_numbered)

  pub moves : Moves (rows_left row a) (record { row = next_row row cells; left = rows_left (next_row row cells) b }) true
  moves =
      let after : Cursor = record { row = next_row row cells; left = rows_left (next_row row cells) b } in
      let P : List Placed → Type 0 = λ l. Moves l after true in
      subst P (sym one_less) (refl, refl)

-- ---- a read that found none
pub none_left : (row : Placed) (a b : Reader Bytes) (cells : List (List ℕ)) → IsReading row a → ReadRecord bytes_in a b false cells → rows_left row a ≡ []
none_left row a b cells reading r =
    let (y, e) = known a reading.going in
    let none : next_record (reader_config a) (reader_state a) [] [] y ≡ None = rows-end bytes_in a b cells (reader_config a) y refl e r in
    ap (rows_of_bytes row (reader_config a) (reader_state a)) e ∙ ap (placed_from row.file (row.number + 1)) (records_end (reader_config a) (length y + 1) (reader_state a) y none)

-- ---- what a step says
pub moved : (left : List Placed) (after : Cursor) → Moves left after true → left ≡ after.row ∷ after.left
moved [] after m = absurd (cc m.0)
moved (row ∷ more) after m = ap (λ (c : Cursor). c.row ∷ c.left) (sym m.1)

pub ended : (left : List Placed) (after : Cursor) → Moves left after false → left ≡ []
ended [] after m = refl
ended (row ∷ more) after m = absurd (cc m.0)

-- one row is behind, where there was one
pub one_behind : (left : List Placed) (after : Cursor) (found : Bool) → Moves left after found → after.left ≡ drop 1 left
one_behind [] after found m = m.1
one_behind (row ∷ more) after found m = ap (λ (c : Cursor). c.left) m.1

-- ---- all rows of some bytes
pub strip_short : (xs : List ℕ) → length (strip_bom xs) ≤ length xs
unfolding strip_bom
strip_short [] = omega arith
strip_short (a ∷ []) = omega arith
strip_short (a ∷ b ∷ []) = omega arith
strip_short (a ∷ b ∷ c ∷ more) = go (is_bom a b c)
  where
    go : (t : Bool) → length (if t then more else a ∷ b ∷ c ∷ more) ≤ length (a ∷ b ∷ c ∷ more)
    go true = omega arith
    go false = omega arith

-- there are at most as many rows as bytes
pub all_few : (cfg : Config) (bytes : List ℕ) → length (records cfg bytes) ≤ length bytes
all_few cfg bytes = few_records cfg (length bytes + 1) st.StartRecord bytes refl

pub few_rows : (cfg : Config) (bytes : List ℕ) → length (records cfg (strip_bom bytes)) ≤ length bytes
few_rows cfg bytes = omega (arith, all_few cfg (strip_bom bytes), strip_short bytes)

module _ (row : Placed) (r : Reader Bytes) (cfg : Config) (bytes : List ℕ) (left : bytes_left r ≡ Some bytes) (start : reader_state r ≡ st.StartRecord)
    (is : reader_config r ≡ cfg) where
  pub all_left : rows_left row r ≡ placed_from row.file (row.number + 1) (records cfg bytes)
  all_left =
      ap (rows_of_bytes row (reader_config r) (reader_state r)) left
      ∙ ap (λ (s : State). placed_from row.file (row.number + 1) (records_from (reader_config r) (length bytes + 1) s bytes)) start
      ∙ ap (λ (c : Config). placed_from row.file (row.number + 1) (records c bytes)) is

  pub all_numbered : row.number + length (records cfg bytes) < 2 ^ 64 → row.number + length (rows_left row r) < 2 ^ 64
  all_numbered fits = omega (arith, ap length all_left, placed_length row.file (row.number + 1) (records cfg bytes), fits)
