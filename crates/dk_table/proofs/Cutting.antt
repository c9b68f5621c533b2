-- Cutting rows of bytes without quotes into cells.
use Rattle.std.proofs.Common.{◌≡◌, ◌≢◌, ◌≤◌, ◌<◌, ◌+◌, ◌-◌, ◌∙◌, ◌==◌, ◌||◌, ◌⊎◌, inl, inr, ◌∷◌, ◌++◌, [], ℕ, zero, suc, Bool, true, false, List, Some, None, drop, get_or, length, length-drop, map, take, refl, sym, ap, subst, arith, if◌then◌else◌}
use Rattle.std.specs.Borrow.{Bor}
use Rattle.std.specs.Prelude.{◌%◌, count_by, min}
use Rattle.std.proofs.lemmas.Bool.Decides.{nat_tests}
use Rattle.std.proofs.lemmas.Bool.{cases_lt, eqb-false, false≢true, ne_eqb}
use Rattle.std.proofs.lemmas.List.{map-append, drop_all, drop_more, get_or-drop, take_more}
use Rattle.csv.specs.Machine.{Read, after_end, ends_at_end, ends_with, in_field, next_record, step}
use Rattle.csv.specs.Reading.{is_bom, records_from, records_next, strip_bom}
use Rattle.csv.specs.declared.parser.Config.{Config}
use Rattle.csv.specs.declared.parser.State.{State}
use Rattle.csv.specs.declared.parser.State.TheVariants as st
use Rattle.csv.specs.declared.parser.Terminator.TheVariants as term
use Rattle.dk_table.specs.Tables.Cursors.{Cursor, Moves, line_row, rows_of_bytes}
use Rattle.dk_table.specs.Tables.Cutting.{IsCut, IsUnquoted}
use Rattle.dk_table.specs.Tables.Marks.{IsNextEnd, ends_cell}
use Rattle.dk_table.specs.Tables.PlacedRows.{Placed}
use Rattle.dk_table.specs.Tables.{are_paired, config_by, placed_from}
use Rattle.dk_table.proofs.AllRecords.{behind_end, records_end, records_more}

-- ---- bytes without quotes
pub unquoted_drop : (k : ℕ) (bytes : List ℕ) → IsUnquoted bytes → IsUnquoted (drop k bytes)
unquoted_drop zero bytes h = h
unquoted_drop (suc k) [] h = λ i lt. absurd (omega arith)
unquoted_drop (suc k) (b ∷ bs) h = unquoted_drop k bs (λ i lt. h (suc i) (omega arith))

none_counted : (bytes : List ℕ) → IsUnquoted bytes → count_by (λ b. b == 34) bytes ≡ 0
none_counted [] h = refl
none_counted (b ∷ bs) h = rw (ne_eqb b 34 (h 0 (omega arith))) (none_counted bs (λ k lt. h (suc k) (omega arith)))

-- so quotes go in pairs
pub unquoted_paired : (bytes : List ℕ) → IsUnquoted bytes → true ≡ are_paired bytes
unquoted_paired bytes h = sym (ap (λ (n : ℕ). n % 2 == 0) (none_counted bytes h))

pub unquoted_behind : (bytes : List ℕ) → IsUnquoted bytes → IsUnquoted (strip_bom bytes)
unfolding strip_bom
unquoted_behind [] h = h
unquoted_behind (a ∷ []) h = h
unquoted_behind (a ∷ b ∷ []) h = h
unquoted_behind (a ∷ b ∷ c ∷ more) h = go (is_bom a b c)
  where
    go : (t : Bool) → IsUnquoted (if t then more else a ∷ b ∷ c ∷ more)
    go true = unquoted_drop 3 (a ∷ b ∷ c ∷ more) h
    go false = h

pub equal : (a b : ℕ) → a ≡ b → (a == b) ≡ true
equal a b e = grind (arith, nat_tests)

-- what a push adds
pub pushed : (items more : List (Bor (List ℕ))) (x : Bor (List ℕ)) → more ≡ items ++ x ∷ [] → map (λ c. c.now) more ≡ map (λ c. c.now) items ++ x.now ∷ []
pushed items more x is = ap (map (λ (c : Bor (List ℕ)). c.now)) is ∙ map-append (λ (c : Bor (List ℕ)). c.now) items (x ∷ [])

or_parts_false : (a b : Bool) → (a || b) ≡ false → (a ≡ false) × (b ≡ false)
or_parts_false false false h = (refl, refl)
or_parts_false true b h = absurd (false≢true (sym h))
or_parts_false false true h = absurd (false≢true (sym h))

or_right : (a b : Bool) → a ≡ false → (a || b) ≡ true → b ≡ true
or_right true b h is = absurd (cc h)
or_right false b h is = is

pub no_quote : (c : ℕ) → c ≢ 34 → (c == 34) ≡ false
no_quote c h = ne_eqb c 34 h

-- ---- the states within a row
abbrev pub InRow : State → Type 0
InRow s = (s ≡ st.StartField) ⊎ (s ≡ st.InField)

module _ (separator : ℕ) where
  abbrev cfg : Config
  cfg = config_by separator

  starting : (c : ℕ) → (c == 34) ≡ false → step cfg st.StartField c ≡ in_field cfg c
  starting c h = rw h refl

  within : (s : State) (c : ℕ) → InRow s → (c == 34) ≡ false → step cfg s c ≡ in_field cfg c
  within s c inside h = elim inside [ inl e ↦ ap (λ (t : State). step cfg t c) e ∙ starting c h | inr e ↦ ap (λ (t : State). step cfg t c) e ]

  at_separator : (s : State) (fields : List (List ℕ)) (field rest : List ℕ) (c : ℕ) → InRow s → (c == 34) ≡ false → (c == separator) ≡ true
      → next_record cfg s fields field (c ∷ rest) ≡ next_record cfg st.StartField (fields ++ field ∷ []) [] rest
  unfolding next_record
  at_separator s fields field rest c inside h is = rw (within s c inside h, is) refl

  at_end : (s : State) (fields : List (List ℕ)) (field rest : List ℕ) (c : ℕ) → InRow s → (c == 34) ≡ false → (c == separator) ≡ false → ends_with term.CRLF c ≡ true
      → next_record cfg s fields field (c ∷ rest) ≡ Some (fields ++ field ∷ [], after_end term.CRLF c, rest)
  unfolding next_record
  at_end s fields field rest c inside h other is = rw (within s c inside h, other, is) refl

  at_byte : (s : State) (fields : List (List ℕ)) (field rest : List ℕ) (c : ℕ) → InRow s → (c == 34) ≡ false → (c == separator) ≡ false → ends_with term.CRLF c ≡ false
      → next_record cfg s fields field (c ∷ rest) ≡ next_record cfg st.InField fields (field ++ c ∷ []) rest
  unfolding next_record
  at_byte s fields field rest c inside h other none = rw (within s c inside h, other, none) refl

  at_close : (s : State) (fields : List (List ℕ)) (field : List ℕ) → InRow s → next_record cfg s fields field [] ≡ Some (fields ++ field ∷ [], st.StartRecord, [])
  unfolding next_record
  at_close s fields field inside =
      elim inside [
        | inl e ↦ ap (λ (t : State). if ends_at_end t then Some (fields ++ field ∷ [], st.StartRecord, []) else None) e
        | inr e ↦ ap (λ (t : State). if ends_at_end t then Some (fields ++ field ∷ [], st.StartRecord, []) else None) e
      ]

  -- ---- in front of a row
  passed : (c : ℕ) (rest : List ℕ) → ends_with term.CRLF c ≡ true → next_record cfg st.StartRecord [] [] (c ∷ rest) ≡ next_record cfg st.StartRecord [] [] rest
  unfolding next_record
  passed c rest is = rw is refl

  pub begins : (c : ℕ) (rest : List ℕ) → ends_with term.CRLF c ≡ false → next_record cfg st.StartRecord [] [] (c ∷ rest) ≡ next_record cfg st.StartField [] [] (c ∷ rest)
  unfolding next_record
  begins c rest none = rw none refl

  pub passed_at : (bytes : List ℕ) (k : ℕ) → k < length bytes → ends_with term.CRLF (get_or bytes k 0) ≡ true
      → next_record cfg st.StartRecord [] [] (drop (k + 1) bytes) ≡ next_record cfg st.StartRecord [] [] (drop k bytes)
  passed_at bytes k lt is =
      sym (passed (get_or bytes k 0) (drop (k + 1) bytes) is) ∙ ap (next_record cfg st.StartRecord [] []) (sym (drop_more bytes k 0 lt))

  -- behind CR a row begins as anywhere
  pub behind_cr : (c : ℕ) → step cfg st.AfterCr c ≡ step cfg st.StartRecord c
  behind_cr c = go (c == 10) (c == 13) refl refl
    where
      go : (x y : Bool) → (c == 10) ≡ x → (c == 13) ≡ y → step cfg st.AfterCr c ≡ step cfg st.StartRecord c
      go true true e f = rw (e, f) refl
      go true false e f = rw (e, f) refl
      go false true e f = rw (e, f) refl
      go false false e f = rw (e, f) refl

  next_behind_cr : (bytes : List ℕ) → next_record cfg st.AfterCr [] [] bytes ≡ next_record cfg st.StartRecord [] [] bytes
  unfolding next_record
  next_behind_cr [] = refl
  next_behind_cr (c ∷ rest) = rw (behind_cr c) refl

  pub next_between : (s : State) (bytes : List ℕ) → ends_at_end s ≡ false → next_record cfg s [] [] bytes ≡ next_record cfg st.StartRecord [] [] bytes
  next_between st.StartRecord bytes h = refl
  next_between st.AfterCr bytes h = next_behind_cr bytes
  next_between st.StartField bytes h = absurd (cc h)
  next_between st.InField bytes h = absurd (cc h)
  next_between st.InQuoted bytes h = absurd (cc h)
  next_between st.AfterQuote bytes h = absurd (cc h)
  next_between st.InEscape bytes h = absurd (cc h)
  next_between st.InComment bytes h = absurd (cc h)

  records_between : (n : ℕ) (s : State) (bytes : List ℕ) → ends_at_end s ≡ false → records_from cfg n s bytes ≡ records_from cfg n st.StartRecord bytes
  unfolding records_from
  records_between zero s bytes h = refl
  records_between (suc n) s bytes h = ap (records_next (records_from cfg n)) (next_between s bytes h)

  -- ---- the cells so far
  -- In front of a place in the row that begins at another one these cells were cut, and the last one begins at the start.
  pub record Cuts (bytes : List ℕ) (from : ℕ) (cells : List (List ℕ)) (start place : ℕ) : Type 0 where
    pub state : State
    pub in_row : InRow state
    pub ordered : start ≤ place
    pub goes_on : next_record cfg st.StartField [] [] (drop from bytes) ≡ next_record cfg state cells (take (place - start) (drop start bytes)) (drop place bytes)

  none_taken : (n : ℕ) (xs : List ℕ) → take (n - n) xs ≡ []
  none_taken n xs = let none : n - n ≡ 0 = omega arith in ap (λ (k : ℕ). take k xs) none

  pub cuts_none : (bytes : List ℕ) (from : ℕ) (cells : List (List ℕ)) → cells ≡ [] → Cuts bytes from cells from from
  cuts_none bytes from cells none = record {
    state = st.StartField;
    in_row = inl refl;
    ordered = omega arith;
    goes_on =
        ap (λ (l : List (List ℕ)). next_record cfg st.StartField l [] (drop from bytes)) (sym none)
        ∙ ap (λ (f : List ℕ). next_record cfg st.StartField cells f (drop from bytes)) (sym (none_taken from (drop from bytes)));
  }

  module _ (bytes : List ℕ) (from : ℕ) (cells : List (List ℕ)) (start place byte : ℕ) (so_far : Cuts bytes from cells start place) (unquoted : IsUnquoted bytes)
      (lt : place < length bytes) (is : byte ≡ get_or bytes place 0) where
    abbrev pub field : List ℕ
    field = take (place - start) (drop start bytes)

    quiet : (byte == 34) ≡ false
    quiet = no_quote byte (λ e. unquoted place lt (sym is ∙ e))

    ahead : drop place bytes ≡ byte ∷ drop (place + 1) bytes
    ahead = drop_more bytes place 0 lt ∙ ap (λ (c : ℕ). c ∷ drop (place + 1) bytes) (sym is)

    here : next_record cfg st.StartField [] [] (drop from bytes) ≡ next_record cfg so_far.state cells field (byte ∷ drop (place + 1) bytes)
    here = so_far.goes_on ∙ ap (next_record cfg so_far.state cells field) ahead

    field_more : field ++ byte ∷ [] ≡ take (place + 1 - start) (drop start bytes)
    field_more =
        let k : ℕ = place - start in
        let within : k < length (drop start bytes) = omega (arith, length-drop start bytes, so_far.ordered, lt) in
        let at : start + k ≡ place = omega (arith, so_far.ordered) in
        let long : place + 1 - start ≡ k + 1 = omega (arith, so_far.ordered) in
        let own : get_or (drop start bytes) k 0 ≡ byte = get_or-drop start bytes k 0 ∙ ap (λ (n : ℕ). get_or bytes n 0) at ∙ sym is in
        ap (λ (b : ℕ). field ++ b ∷ []) (sym own) ∙ sym (take_more (drop start bytes) k 0 within) ∙ ap (λ (n : ℕ). take n (drop start bytes)) (sym long)

    pub cuts_separator : (more : List (List ℕ)) → byte ≡ separator → more ≡ cells ++ field ∷ [] → Cuts bytes from more (place + 1) (place + 1)
    cuts_separator more same pushed =
        let test : (byte == separator) ≡ true = equal byte separator same in
        record {
          state = st.StartField;
          in_row = inl refl;
          ordered = omega arith;
          goes_on =
              here ∙ at_separator so_far.state cells field (drop (place + 1) bytes) byte so_far.in_row quiet test
              ∙ ap (λ (l : List (List ℕ)). next_record cfg st.StartField l [] (drop (place + 1) bytes)) (sym pushed)
              ∙ ap (λ (f : List ℕ). next_record cfg st.StartField more f (drop (place + 1) bytes)) (sym (none_taken (place + 1) (drop (place + 1) bytes)));
        }

    pub cuts_byte : byte ≢ separator → ends_with term.CRLF byte ≡ false → Cuts bytes from cells start (place + 1)
    cuts_byte differs none = record {
      state = st.InField;
      in_row = inr refl;
      ordered = omega (arith, so_far.ordered);
      goes_on =
          here ∙ at_byte so_far.state cells field (drop (place + 1) bytes) byte so_far.in_row quiet (ne_eqb byte separator differs) none
          ∙ ap (λ (f : List ℕ). next_record cfg st.InField cells f (drop (place + 1) bytes)) field_more;
    }

    pub cuts_end : (more : List (List ℕ)) → byte ≢ separator → ends_with term.CRLF byte ≡ true → more ≡ cells ++ field ∷ [] → IsCut separator bytes from more (place + 1)
    cuts_end more differs ends pushed = record {
      state = after_end term.CRLF byte;
      read =
          here ∙ at_end so_far.state cells field (drop (place + 1) bytes) byte so_far.in_row quiet (ne_eqb byte separator differs) ends
          ∙ ap (λ (l : List (List ℕ)). Some (l, after_end term.CRLF byte, drop (place + 1) bytes)) (sym pushed);
      between = behind_end term.CRLF byte;
    }

  -- the bytes end, and with them the row
  pub cuts_all : (bytes : List ℕ) (from : ℕ) (cells more : List (List ℕ)) (start place next : ℕ) → Cuts bytes from cells start place → length bytes ≤ place → length bytes ≤ next
      → more ≡ cells ++ take (place - start) (drop start bytes) ∷ [] → IsCut separator bytes from more next
  cuts_all bytes from cells more start place next so_far past behind pushed =
      let last : List ℕ = take (place - start) (drop start bytes) in
      let none : drop next bytes ≡ [] = drop_all next bytes behind in
      record {
        state = st.StartRecord;
        read =
            so_far.goes_on ∙ ap (next_record cfg so_far.state cells last) (drop_all place bytes past)
            ∙ at_close so_far.state cells last so_far.in_row
            ∙ ap (λ (l : List (List ℕ)). Some (l, st.StartRecord, [])) (sym pushed)
            ∙ ap (λ (l : List ℕ). Some (more, st.StartRecord, l)) (sym none);
        between = refl;
      }

  -- on over bytes that end no cell
  module _ (bytes : List ℕ) (from : ℕ) (cells : List (List ℕ)) (start : ℕ) (unquoted : IsUnquoted bytes) where
    passes : (n place : ℕ) → Cuts bytes from cells start place → place + n ≤ length bytes
        → ((p : ℕ) → place ≤ p → p < place + n → ends_cell separator (get_or bytes p 0) ≡ false) → Cuts bytes from cells start (place + n)
    passes zero place so_far within none =
        let same : place ≡ place + 0 = omega arith in
        subst (Cuts bytes from cells start) same so_far
    passes (suc n) place so_far within none =
        let byte : ℕ = get_or bytes place 0 in
        let quiet = or_parts_false (byte == separator) (ends_with term.CRLF byte) (none place (omega arith) (omega arith)) in
        let one : Cuts bytes from cells start (place + 1) =
        cuts_byte bytes from cells start place byte so_far unquoted (omega (arith, within)) refl (eqb-false byte separator quiet.0) quiet.1 in
        let same : place + 1 + n ≡ place + suc n = omega arith in
        subst (Cuts bytes from cells start) same
        (passes n (place + 1) one (omega (arith, within)) (λ p low high. none p (omega (arith, low)) (omega (arith, high))))

    pub passed_to : (place end : ℕ) → Cuts bytes from cells start place → IsNextEnd separator bytes place end → Cuts bytes from cells start end
    passed_to place end so_far next =
        let n : ℕ = end - place in
        let at : place + n ≡ end = omega (arith, next.low) in
        subst (Cuts bytes from cells start) at
        (passes n place so_far (omega (arith, at, next.high)) (λ p low high. next.none p low (omega (arith, at, high))))

  -- ---- the next end of a cell
  -- a byte in front of a row that ends a line is one
  is_here : (bytes : List ℕ) (place end : ℕ) → IsNextEnd separator bytes place end → ends_with term.CRLF (get_or bytes place 0) ≡ true → end ≡ place
  is_here bytes place end next ends = elim (cases_lt place end) [
    | inl lt ↦ absurd (false≢true (sym (or_parts_false (get_or bytes place 0 == separator) (ends_with term.CRLF (get_or bytes place 0)) (next.none place (omega arith) lt)).1 ∙ ends))
    | inr ge ↦ omega (arith, ge, next.low)
  ]

  pub blank_next : (bytes : List ℕ) (place end next : ℕ) → IsNextEnd separator bytes place end → place < length bytes → ends_with term.CRLF (get_or bytes place 0) ≡ true
      → next ≡ min (length bytes) (end + 1) → next ≡ place + 1
  blank_next bytes place end next ahead lt ends is = omega (arith, is_here bytes place end ahead ends, is, lt)

  pub blank_passed : (bytes : List ℕ) (place next : ℕ) → place < length bytes → ends_with term.CRLF (get_or bytes place 0) ≡ true → next ≡ place + 1
      → next_record cfg st.StartRecord [] [] (drop next bytes) ≡ next_record cfg st.StartRecord [] [] (drop place bytes)
  blank_passed bytes place next lt ends is =
      ap (λ (n : ℕ). next_record cfg st.StartRecord [] [] (drop n bytes)) is ∙ passed_at bytes place lt ends

  module _ (bytes : List ℕ) (from : ℕ) (cells more : List (List ℕ)) (place start end next : ℕ) (unquoted : IsUnquoted bytes) (so_far : Cuts bytes from cells place place)
      (ahead : IsNextEnd separator bytes place end) (from_start : start ≡ place) (pushed : more ≡ cells ++ take (end - start) (drop start bytes) ∷ [])
      (is : next ≡ min (length bytes) (end + 1)) where
    at_end_of_cell : Cuts bytes from cells place end
    at_end_of_cell = passed_to bytes from cells place unquoted place end so_far ahead

    cell_pushed : more ≡ cells ++ take (end - place) (drop place bytes) ∷ []
    cell_pushed = pushed ∙ ap (λ (n : ℕ). cells ++ take (end - n) (drop n bytes) ∷ []) from_start

    -- the next cell is ahead
    pub cell_cut : end < length bytes → get_or bytes end 0 ≡ separator → Cuts bytes from more next next
    cell_cut lt same =
        let behind : end + 1 ≡ next = omega (arith, is, lt) in
        subst (λ (n : ℕ). Cuts bytes from more n n) behind
        (cuts_separator bytes from cells place end (get_or bytes end 0) at_end_of_cell unquoted lt refl more same cell_pushed)

    -- the row ends
    pub row_cut : (length bytes ≤ end) ⊎ ((end < length bytes) × (get_or bytes end 0 ≢ separator)) → IsCut separator bytes from more next
    row_cut how = elim how [
      | inl past ↦ cuts_all bytes from cells more place end next at_end_of_cell past (omega (arith, is, past)) cell_pushed
      | inr other ↦ by_byte other.0 other.1
    ]
      where
        by_byte : end < length bytes → get_or bytes end 0 ≢ separator → IsCut separator bytes from more next
        by_byte lt differs =
            let ends : ends_with term.CRLF (get_or bytes end 0) ≡ true = or_right (get_or bytes end 0 == separator) (ends_with term.CRLF (get_or bytes end 0)) (ne_eqb (get_or bytes end 0) separator differs) (ahead.ends lt) in
            let behind : end + 1 ≡ next = omega (arith, is, lt) in
            subst (IsCut separator bytes from more) behind
            (cuts_end bytes from cells place end (get_or bytes end 0) at_end_of_cell unquoted lt refl more differs ends cell_pushed)

  -- ---- rows
  abbrev rows : ℕ → ℕ → List (List ℕ) → List ℕ → List Placed
  rows file number cells bytes = rows_of_bytes (line_row file number cells) cfg st.StartRecord (Some bytes)

  -- only line ends are left
  pub no_row : (file number : ℕ) (cells : List (List ℕ)) (bytes : List ℕ) (old place : ℕ)
      → next_record cfg st.StartRecord [] [] (drop place bytes) ≡ next_record cfg st.StartRecord [] [] (drop old bytes) → length bytes ≤ place
      → rows file number cells (drop old bytes) ≡ []
  unfolding next_record
  no_row file number cells bytes old place same past =
      let left : List ℕ = drop old bytes in
      let ended : next_record cfg st.StartRecord [] [] left ≡ None = sym same ∙ ap (next_record cfg st.StartRecord [] []) (drop_all place bytes past) in
      ap (placed_from file (number + 1)) (records_end cfg (length left + 1) st.StartRecord left ended)

  -- a row is cut, and those behind it are left
  pub one_row : (file number : ℕ) (past cells : List (List ℕ)) (bytes : List ℕ) (old place next : ℕ)
      → next_record cfg st.StartRecord [] [] (drop place bytes) ≡ next_record cfg st.StartRecord [] [] (drop old bytes) → place < length bytes
      → ends_with term.CRLF (get_or bytes place 0) ≡ false → IsCut separator bytes place cells next
      → rows file number past (drop old bytes) ≡ line_row file (number + 1) cells ∷ rows file (number + 1) cells (drop next bytes)
  one_row file number past cells bytes old place next same some first cut =
      let left : List ℕ = drop old bytes in
      let behind : List ℕ = drop next bytes in
      let ahead : drop place bytes ≡ get_or bytes place 0 ∷ drop (place + 1) bytes = drop_more bytes place 0 some in
      let p : Read = (cells, cut.state, behind) in
      let found : next_record cfg st.StartRecord [] [] left ≡ Some p =
      sym same ∙ ap (next_record cfg st.StartRecord [] []) ahead ∙ begins (get_or bytes place 0) (drop (place + 1) bytes) first
      ∙ ap (next_record cfg st.StartField [] []) (sym ahead) ∙ cut.read in
      let tail : List (List (List ℕ)) → List Placed = λ l. line_row file (number + 1) cells ∷ placed_from file (number + 1 + 1) l in
      ap (placed_from file (number + 1)) (records_more cfg (length left + 1) st.StartRecord left p (omega arith) refl found)
      ∙ ap tail (records_between (length behind + 1) cut.state behind cut.between)

  pub moves : (left : List Placed) (row : Placed) (more : List Placed) → left ≡ row ∷ more → Moves left (record { row = row; left = more }) true
  moves left row more is =
      let after : Cursor = record { row = row; left = more } in
      let P : List Placed → Type 0 = λ l. Moves l after true in
      subst P (sym is) (refl, refl)

  pub stays : (left : List Placed) (after : Cursor) → left ≡ [] → after.left ≡ [] → Moves left after false
  stays left after none same =
      let P : List Placed → Type 0 = λ l. Moves l after false in
      subst P (sym none) (refl, same)
