-- Chunks of whole rows.
use Rattle.std.proofs.Common.{◌≡◌, ◌≢◌, ◌≤◌, ◌<◌, ◌+◌, ◌∙◌, ◌==◌, ◌&&◌, ◌⊎◌, inl, inr, ◌∷◌, ◌++◌, [], ℕ, zero, suc, Bool, true, false, List, Some, None, get_or, length, length-append, take, refl, sym, ap, subst, arith, if◌then◌else◌}
use Rattle.std.specs.Prelude.{count_by}
use Rattle.std.proofs.lemmas.Bool.{cases_lt, false≢true, ne_eqb}
use Rattle.std.proofs.lemmas.List.Sums.{sum_by-append}
use Rattle.std.proofs.lemmas.List.{get_or-take, length-take, take_more}
use Rattle.csv.specs.Machine.{after_end, ends_at_end, ends_with, field_after, fields_after, in_field, is_byte, is_end, next_record, start_field, start_record, step}
use Rattle.csv.specs.Reading.{records, records_from, records_next, strip_bom}
use Rattle.csv.specs.declared.parser.Action.{Action}
use Rattle.csv.specs.declared.parser.Action.TheVariants as act
use Rattle.csv.specs.declared.parser.Config.{Config}
use Rattle.csv.specs.declared.parser.State.{State}
use Rattle.csv.specs.declared.parser.State.TheVariants as st
use Rattle.csv.specs.declared.parser.Terminator.TheVariants as term
use Rattle.dk_table.specs.Tables.Chunks.{AreWholeRows, EndsRow, IsBehindLines, stand_behind, stand_of}
use Rattle.dk_table.specs.Tables.Cutting.{IsUnquoted}
use Rattle.dk_table.specs.Tables.{config_by}
use Rattle.dk_table.specs.declared.streaming.chunks.Stand.{Stand}
use Rattle.dk_table.specs.declared.streaming.chunks.Stand.TheVariants as stand
use Rattle.dk_table.proofs.AllRecords.{records_end}
use Rattle.dk_table.proofs.Cutting.{behind_cr, next_between, no_quote, unquoted_drop}

-- ---- the records of a text, without a count

-- those that are read from here on, in the row that has these cells and these bytes of the cell at hand
read_all : Config → State → List (List ℕ) → List ℕ → List ℕ → List (List (List ℕ))
read_all cfg s fields field [] = if ends_at_end s then (fields ++ field ∷ []) ∷ [] else []
read_all cfg s fields field (c ∷ rest) =
    if is_end (step cfg s c).1 then fields_after (step cfg s c).1 fields field ∷ read_all cfg (step cfg s c).0 [] [] rest
    else read_all cfg (step cfg s c).0 (fields_after (step cfg s c).1 fields field) (field_after (step cfg s c).1 c field) rest

none_more : (cfg : Config) (n : ℕ) → records_from cfg n st.StartRecord [] ≡ []
unfolding next_record
none_more cfg n = records_end cfg n st.StartRecord [] refl

all_next : (cfg : Config) (xs : List ℕ) (n : ℕ) (s : State) (fields : List (List ℕ)) (field : List ℕ) → length xs ≤ n
    → records_next (records_from cfg n) (next_record cfg s fields field xs) ≡ read_all cfg s fields field xs
unfolding next_record records_from read_all
all_next cfg [] n s fields field few = go (ends_at_end s)
  where
    go : (b : Bool) → records_next (records_from cfg n) (if b then Some (fields ++ field ∷ [], st.StartRecord, []) else None)
        ≡ (if b then (fields ++ field ∷ []) ∷ [] else [])
    go true = ap (λ (l : List (List (List ℕ))). (fields ++ field ∷ []) ∷ l) (none_more cfg n)
    go false = refl
all_next cfg (c ∷ rest) zero s fields field few = absurd (omega arith)
all_next cfg (c ∷ rest) (suc n) s fields field few =
    go (is_end (step cfg s c).1) (all_next cfg rest n next [] [] (omega (arith, few))) (all_next cfg rest (suc n) next cells cell (omega (arith, few)))
  where
    next : State
    next = (step cfg s c).0

    cells : List (List ℕ)
    cells = fields_after (step cfg s c).1 fields field

    cell : List ℕ
    cell = field_after (step cfg s c).1 c field

    go : (b : Bool) → records_next (records_from cfg n) (next_record cfg next [] [] rest) ≡ read_all cfg next [] [] rest
        → records_next (records_from cfg (suc n)) (next_record cfg next cells cell rest) ≡ read_all cfg next cells cell rest
        → records_next (records_from cfg (suc n)) (if b then Some (cells, next, rest) else next_record cfg next cells cell rest)
        ≡ (if b then cells ∷ read_all cfg next [] [] rest else read_all cfg next cells cell rest)
    go true behind on = ap (λ (l : List (List (List ℕ))). cells ∷ l) behind
    go false behind on = on

from_all : (cfg : Config) (n : ℕ) (s : State) (xs : List ℕ) → length xs < n → records_from cfg n s xs ≡ read_all cfg s [] [] xs
unfolding records_from
from_all cfg zero s xs few = absurd (omega arith)
from_all cfg (suc n) s xs few = all_next cfg xs n s [] [] (omega (arith, few))

records_all : (cfg : Config) (xs : List ℕ) → records cfg xs ≡ read_all cfg st.StartRecord [] [] xs
records_all cfg xs = from_all cfg (length xs + 1) st.StartRecord xs (omega arith)

-- ---- no cell is begun where a row isn't

-- a comment is no row
is_unbegun : State → Bool
is_unbegun st.StartRecord = true
is_unbegun st.AfterCr = true
is_unbegun st.InComment = true
is_unbegun st.StartField = false
is_unbegun st.InField = false
is_unbegun st.InQuoted = false
is_unbegun st.AfterQuote = false
is_unbegun st.InEscape = false

between_unbegun : (s : State) → ends_at_end s ≡ false → is_unbegun s ≡ true
unfolding is_unbegun
between_unbegun st.StartRecord h = refl
between_unbegun st.AfterCr h = refl
between_unbegun st.InComment h = absurd (cc h)
between_unbegun st.StartField h = absurd (cc h)
between_unbegun st.InField h = absurd (cc h)
between_unbegun st.InQuoted h = absurd (cc h)
between_unbegun st.AfterQuote h = absurd (cc h)
between_unbegun st.InEscape h = absurd (cc h)

-- a step that comes to no row's start but by its end skips a byte in front of a row
abbrev Waits : State → State × Action → Type 0
Waits s x = is_end x.1 ≡ false → is_unbegun x.0 ≡ true → (is_unbegun s ≡ true) × (x.1 ≡ act.Skip)

either : (s : State) (b : Bool) (x y : State × Action) → Waits s x → Waits s y → Waits s (if b then x else y)
either s true x y f g = f
either s false x y f g = g

begun : (s next : State) (a : Action) → is_unbegun next ≡ false → Waits s (next, a)
begun s next a e goes h = absurd (false≢true (sym e ∙ h))

ended : (s next : State) → Waits s (next, act.EndRecord)
ended s next goes h = absurd (cc goes)

in_field_waits : (cfg : Config) (s : State) (c : ℕ) → Waits s (in_field cfg c)
unfolding is_unbegun
in_field_waits cfg s c =
    either s (c == cfg.delimiter) (st.StartField, act.EndField)
    (if ends_with cfg.terminator c then (after_end cfg.terminator c, act.EndRecord) else (st.InField, act.Copy))
    (begun s st.StartField act.EndField refl)
    (either s (ends_with cfg.terminator c) (after_end cfg.terminator c, act.EndRecord) (st.InField, act.Copy)
    (ended s (after_end cfg.terminator c)) (begun s st.InField act.Copy refl))

start_field_waits : (cfg : Config) (s : State) (c : ℕ) → Waits s (start_field cfg c)
unfolding is_unbegun
start_field_waits cfg s c =
    either s (cfg.quoting && (c == cfg.quote)) (st.InQuoted, act.Skip) (in_field cfg c) (begun s st.InQuoted act.Skip refl) (in_field_waits cfg s c)

skips : (s next : State) → is_unbegun s ≡ true → Waits s (next, act.Skip)
skips s next e goes h = (e, refl)

start_record_waits : (cfg : Config) (s : State) (c : ℕ) → is_unbegun s ≡ true → Waits s (start_record cfg c)
start_record_waits cfg s c e =
    either s (ends_with cfg.terminator c) (st.StartRecord, act.Skip) (if is_byte cfg.comment c then (st.InComment, act.Skip) else start_field cfg c)
    (skips s st.StartRecord e)
    (either s (is_byte cfg.comment c) (st.InComment, act.Skip) (start_field cfg c) (skips s st.InComment e) (start_field_waits cfg s c))

step_waits : (cfg : Config) (s : State) (c : ℕ) → Waits s (step cfg s c)
unfolding is_unbegun
step_waits cfg st.StartRecord c = start_record_waits cfg st.StartRecord c refl
step_waits cfg st.StartField c = start_field_waits cfg st.StartField c
step_waits cfg st.InField c = in_field_waits cfg st.InField c
step_waits cfg st.InQuoted c =
    either st.InQuoted (cfg.quoting && (c == cfg.quote)) (st.AfterQuote, act.Skip)
    (if cfg.quoting && is_byte cfg.escape c then (st.InEscape, act.Skip) else (st.InQuoted, act.Copy))
    (begun st.InQuoted st.AfterQuote act.Skip refl)
    (either st.InQuoted (cfg.quoting && is_byte cfg.escape c) (st.InEscape, act.Skip) (st.InQuoted, act.Copy)
    (begun st.InQuoted st.InEscape act.Skip refl) (begun st.InQuoted st.InQuoted act.Copy refl))
step_waits cfg st.InEscape c = begun st.InEscape st.InQuoted act.Copy refl
step_waits cfg st.AfterQuote c =
    either st.AfterQuote (cfg.quoting && cfg.double_quote && (c == cfg.quote)) (st.InQuoted, act.Copy) (in_field cfg c)
    (begun st.AfterQuote st.InQuoted act.Copy refl) (in_field_waits cfg st.AfterQuote c)
step_waits cfg st.InComment c =
    either st.InComment (c == 10) (st.StartRecord, act.Skip) (st.InComment, act.Skip) (skips st.InComment st.StartRecord refl) (skips st.InComment st.InComment refl)
step_waits cfg st.AfterCr c =
    either st.AfterCr (c == 10) (st.StartRecord, act.Skip) (start_record cfg c) (skips st.AfterCr st.StartRecord refl) (start_record_waits cfg st.AfterCr c refl)

-- the cells of no row that is begun
abbrev Empty : State → List (List ℕ) → List ℕ → Type 0
Empty s fields field = is_unbegun s ≡ true → (fields ≡ []) × (field ≡ [])

still_empty : (s : State) (c : ℕ) (fields : List (List ℕ)) (field : List ℕ) (x : State × Action) → Empty s fields field → Waits s x → is_end x.1 ≡ false
    → Empty x.0 (fields_after x.1 fields field) (field_after x.1 c field)
still_empty s c fields field x empty waits goes h =
    let w = waits goes h in
    let e = empty w.0 in (
      ap (λ (a : Action). fields_after a fields field) w.1 ∙ e.0,
      ap (λ (a : Action). field_after a c field) w.1 ∙ e.1,
    )

-- ---- bytes behind others

-- where a reader stands behind these bytes
pub run : Config → State → List ℕ → State
run cfg s [] = s
run cfg s (c ∷ rest) = run cfg (step cfg s c).0 rest

run_more : (cfg : Config) (s : State) (xs : List ℕ) (c : ℕ) → run cfg s (xs ++ c ∷ []) ≡ (step cfg (run cfg s xs) c).0
unfolding run
run_more cfg s [] c = refl
run_more cfg s (x ∷ xs) c = run_more cfg (step cfg s x).0 xs c

appended : (cfg : Config) (front rest : List ℕ) (s : State) (fields : List (List ℕ)) (field : List ℕ) → Empty s fields field → ends_at_end (run cfg s front) ≡ false
    → read_all cfg s fields field (front ++ rest) ≡ read_all cfg s fields field front ++ read_all cfg (run cfg s front) [] [] rest
unfolding run read_all
appended cfg [] rest s fields field empty between =
    let e = empty (between_unbegun s between) in
    let none : List (List ℕ) = [] in
    ap (λ (l : List (List ℕ)). read_all cfg s l field rest) e.0 ∙ ap (λ (l : List ℕ). read_all cfg s none l rest) e.1
    ∙ sym (ap (λ (b : Bool). (if b then (fields ++ field ∷ []) ∷ [] else []) ++ read_all cfg s [] [] rest) between)
appended cfg (c ∷ front) rest s fields field empty between =
    go (is_end (step cfg s c).1) refl (appended cfg front rest next [] [] (λ h. (refl, refl)) between)
    (λ is. appended cfg front rest next cells cell (still_empty s c fields field (step cfg s c) empty (step_waits cfg s c) is) between)
  where
    next : State
    next = (step cfg s c).0

    cells : List (List ℕ)
    cells = fields_after (step cfg s c).1 fields field

    cell : List ℕ
    cell = field_after (step cfg s c).1 c field

    go : (b : Bool) → is_end (step cfg s c).1 ≡ b
        → read_all cfg next [] [] (front ++ rest) ≡ read_all cfg next [] [] front ++ read_all cfg (run cfg next front) [] [] rest
        → (is_end (step cfg s c).1 ≡ false → read_all cfg next cells cell (front ++ rest) ≡ read_all cfg next cells cell front ++ read_all cfg (run cfg next front) [] [] rest)
        → (if b then cells ∷ read_all cfg next [] [] (front ++ rest) else read_all cfg next cells cell (front ++ rest))
        ≡ (if b then cells ∷ read_all cfg next [] [] front else read_all cfg next cells cell front) ++ read_all cfg (run cfg next front) [] [] rest
    go true is behind on = ap (λ (l : List (List (List ℕ))). cells ∷ l) behind
    go false is behind on = on is

-- how many records there are, where the last one isn't ended by these bytes, nor by the next one
module _ (cfg : Config) (x : ℕ) (joins : (s : State) → ends_at_end s ≡ true → (is_end (step cfg s x).1 ≡ false) × (ends_at_end (step cfg s x).0 ≡ true)) where
  not_more : (front : List ℕ) (s : State) (fields : List (List ℕ)) (field : List ℕ) → ends_at_end (run cfg s front) ≡ true
      → length (read_all cfg s fields field (front ++ x ∷ [])) ≡ length (read_all cfg s fields field front)
  unfolding run read_all
  not_more [] s fields field within =
      let j = joins s within in
      let cells : List (List ℕ) = fields_after (step cfg s x).1 fields field in
      let cell : List ℕ = field_after (step cfg s x).1 x field in
      ap (λ (b : Bool). length (if b then cells ∷ read_all cfg (step cfg s x).0 [] [] [] else read_all cfg (step cfg s x).0 cells cell [])) j.0
      ∙ ap (λ (b : Bool). length (if b then (cells ++ cell ∷ []) ∷ [] else [])) j.1
      ∙ sym (ap (λ (b : Bool). length (if b then (fields ++ field ∷ []) ∷ [] else [])) within)
  not_more (c ∷ front) s fields field within =
      go (is_end (step cfg s c).1) (not_more front next [] [] within) (not_more front next cells cell within)
    where
      next : State
      next = (step cfg s c).0

      cells : List (List ℕ)
      cells = fields_after (step cfg s c).1 fields field

      cell : List ℕ
      cell = field_after (step cfg s c).1 c field

      go : (b : Bool) → length (read_all cfg next [] [] (front ++ x ∷ [])) ≡ length (read_all cfg next [] [] front)
          → length (read_all cfg next cells cell (front ++ x ∷ [])) ≡ length (read_all cfg next cells cell front)
          → length (if b then cells ∷ read_all cfg next [] [] (front ++ x ∷ []) else read_all cfg next cells cell (front ++ x ∷ []))
          ≡ length (if b then cells ∷ read_all cfg next [] [] front else read_all cfg next cells cell front)
      go true behind on = ap suc behind
      go false behind on = on

unquoted_take : (k : ℕ) (bytes : List ℕ) → IsUnquoted bytes → IsUnquoted (take k bytes)
unquoted_take k bytes h i lt e = h i (omega (arith, lt, length-take k bytes)) (sym (get_or-take k bytes i 0 (omega (arith, lt, length-take k bytes))) ∙ e)

module _ (separator : ℕ) where
  abbrev cfg : Config
  cfg = config_by separator

  -- where a row begins it makes no difference how the one in front of it ended
  all_between : (s : State) (xs : List ℕ) → ends_at_end s ≡ false → read_all cfg s [] [] xs ≡ read_all cfg st.StartRecord [] [] xs
  all_between s xs between =
      sym (all_next cfg xs (length xs) s [] [] (omega arith)) ∙ ap (records_next (records_from cfg (length xs))) (next_between separator s xs between)
      ∙ all_next cfg xs (length xs) st.StartRecord [] [] (omega arith)

  -- bytes behind which a row begins are whole rows
  pub ends_row : (front : List ℕ) → ends_at_end (run cfg st.StartRecord front) ≡ false → EndsRow cfg front
  ends_row front between rest =
      let own : List (List (List ℕ)) = read_all cfg st.StartRecord [] [] front in
      records_all cfg (front ++ rest) ∙ appended cfg front rest st.StartRecord [] [] (λ h. (refl, refl)) between
      ∙ ap (λ (l : List (List (List ℕ))). own ++ l) (all_between (run cfg st.StartRecord front) rest between ∙ sym (records_all cfg rest))
      ∙ ap (λ (l : List (List (List ℕ))). l ++ records cfg rest) (sym (records_all cfg front))

  -- a byte that joins any cell
  abbrev plain : ℕ
  plain = separator + 35

  plain_quote : (plain == 34) ≡ false
  plain_quote = ne_eqb plain 34 (λ e. omega (arith, e))

  plain_separator : (plain == separator) ≡ false
  plain_separator = ne_eqb plain separator (λ e. omega (arith, e))

  plain_cr : (plain == 13) ≡ false
  plain_cr = ne_eqb plain 13 (λ e. omega (arith, e))

  plain_lf : (plain == 10) ≡ false
  plain_lf = ne_eqb plain 10 (λ e. omega (arith, e))

  joins : (s : State) → ends_at_end s ≡ true → (is_end (step cfg s plain).1 ≡ false) × (ends_at_end (step cfg s plain).0 ≡ true)
  joins st.StartRecord h = absurd (cc h)
  joins st.AfterCr h = absurd (cc h)
  joins st.StartField h = rw (plain_quote, plain_separator, plain_cr, plain_lf) (refl, refl)
  joins st.InField h = rw (plain_separator, plain_cr, plain_lf) (refl, refl)
  joins st.InQuoted h = rw plain_quote (refl, refl)
  joins st.AfterQuote h = rw (plain_quote, plain_separator, plain_cr, plain_lf) (refl, refl)
  joins st.InEscape h = (refl, refl)
  joins st.InComment h = rw plain_lf (refl, refl)

  one_row : length (read_all cfg st.StartRecord [] [] (plain ∷ [])) ≡ 1
  unfolding read_all
  one_row = rw (plain_cr, plain_lf, plain_quote, plain_separator) refl

  -- bytes behind which none begins aren't: another byte would join the last one
  pub no_row : (front : List ℕ) → ends_at_end (run cfg st.StartRecord front) ≡ true → ¬ EndsRow cfg front
  no_row front within ends =
      let joined = not_more cfg plain joins front st.StartRecord [] [] within in
      let own : List (List (List ℕ)) = read_all cfg st.StartRecord [] [] front in
      let split = ap length (sym (records_all cfg (front ++ plain ∷ [])) ∙ ends (plain ∷ [])) in
      let parts = length-append (records cfg front) (records cfg (plain ∷ [])) in
      let one = ap length (records_all cfg (plain ∷ [])) ∙ one_row in
      let same = ap length (records_all cfg front) in
      omega (arith, joined, split, parts, one, same)

  -- ---- where the code says that a reader stands

  -- a state that is come to without escapes and comments
  is_known : State → Bool
  is_known st.StartRecord = true
  is_known st.AfterCr = true
  is_known st.StartField = true
  is_known st.InField = true
  is_known st.InQuoted = true
  is_known st.AfterQuote = true
  is_known st.InEscape = false
  is_known st.InComment = false

  if_known : (b : Bool) (x y : State × Action) → is_known x.0 ≡ true → is_known y.0 ≡ true → is_known (if b then x else y).0 ≡ true
  if_known true x y f g = f
  if_known false x y f g = g

  end_known : (c : ℕ) → is_known (after_end term.CRLF c) ≡ true
  unfolding is_known
  end_known c = go (c == 13)
    where
      go : (b : Bool) → is_known (if b then st.AfterCr else st.StartRecord) ≡ true
      go true = refl
      go false = refl

  in_field_known : (c : ℕ) → is_known (in_field cfg c).0 ≡ true
  unfolding is_known
  in_field_known c =
      if_known (c == separator) (st.StartField, act.EndField) (if ends_with term.CRLF c then (after_end term.CRLF c, act.EndRecord) else (st.InField, act.Copy)) refl
      (if_known (ends_with term.CRLF c) (after_end term.CRLF c, act.EndRecord) (st.InField, act.Copy) (end_known c) refl)

  start_field_known : (c : ℕ) → is_known (start_field cfg c).0 ≡ true
  unfolding is_known
  start_field_known c = if_known (c == 34) (st.InQuoted, act.Skip) (in_field cfg c) refl (in_field_known c)

  start_record_known : (c : ℕ) → is_known (start_record cfg c).0 ≡ true
  unfolding is_known
  start_record_known c = if_known (ends_with term.CRLF c) (st.StartRecord, act.Skip) (start_field cfg c) refl (start_field_known c)

  step_known : (s : State) (c : ℕ) → is_known s ≡ true → is_known (step cfg s c).0 ≡ true
  unfolding is_known
  step_known st.StartRecord c h = start_record_known c
  step_known st.StartField c h = start_field_known c
  step_known st.InField c h = in_field_known c
  step_known st.InQuoted c h = if_known (c == 34) (st.AfterQuote, act.Skip) (st.InQuoted, act.Copy) refl refl
  step_known st.AfterQuote c h = if_known (c == 34) (st.InQuoted, act.Copy) (in_field cfg c) refl (in_field_known c)
  step_known st.AfterCr c h = if_known (c == 10) (st.StartRecord, act.Skip) (start_record cfg c) refl (start_record_known c)
  step_known st.InEscape c h = absurd (cc h)
  step_known st.InComment c h = absurd (cc h)

  run_known : (front : List ℕ) (s : State) → is_known s ≡ true → is_known (run cfg s front) ≡ true
  unfolding run
  run_known [] s h = h
  run_known (c ∷ front) s h = run_known front (step cfg s c).0 (step_known s c h)

  -- behind a byte
  same_stand : (s : State) (c : ℕ) → is_known s ≡ true → stand_of (step cfg s c).0 ≡ stand_behind separator (stand_of s) c
  unfolding is_known
  same_stand st.StartRecord c h = refl
  same_stand st.StartField c h = refl
  same_stand st.InField c h = refl
  same_stand st.InQuoted c h = refl
  same_stand st.AfterQuote c h = refl
  same_stand st.AfterCr c h = ap (λ (x : State × Action). stand_of x.0) (behind_cr separator c)
  same_stand st.InEscape c h = absurd (cc h)
  same_stand st.InComment c h = absurd (cc h)

  stand_between : (s : State) → is_known s ≡ true → stand_of s ≡ stand.Row → ends_at_end s ≡ false
  unfolding is_known
  stand_between st.StartRecord h is = refl
  stand_between st.AfterCr h is = refl
  stand_between st.StartField h is = absurd (cc is)
  stand_between st.InField h is = absurd (cc is)
  stand_between st.InQuoted h is = absurd (cc is)
  stand_between st.AfterQuote h is = absurd (cc is)
  stand_between st.InEscape h is = absurd (cc h)
  stand_between st.InComment h is = absurd (cc h)

  stand_within : (s : State) → is_known s ≡ true → stand_of s ≢ stand.Row → ends_at_end s ≡ true
  unfolding is_known
  stand_within st.StartRecord h other = absurd (other refl)
  stand_within st.AfterCr h other = absurd (other refl)
  stand_within st.StartField h other = refl
  stand_within st.InField h other = refl
  stand_within st.InQuoted h other = refl
  stand_within st.AfterQuote h other = refl
  stand_within st.InEscape h other = absurd (cc h)
  stand_within st.InComment h other = absurd (cc h)

  -- behind so many bytes
  abbrev pub behind : List ℕ → ℕ → State
  behind bytes k = run cfg st.StartRecord (take k bytes)

  behind_known : (bytes : List ℕ) (k : ℕ) → is_known (behind bytes k) ≡ true
  unfolding is_known
  behind_known bytes k = run_known (take k bytes) st.StartRecord refl

  behind_more : (bytes : List ℕ) (k : ℕ) → k < length bytes → behind bytes (k + 1) ≡ (step cfg (behind bytes k) (get_or bytes k 0)).0
  behind_more bytes k lt = ap (run cfg st.StartRecord) (take_more bytes k 0 lt) ∙ run_more cfg st.StartRecord (take k bytes) (get_or bytes k 0)

  -- The first bytes, this many, end where a row begins; longer ones up to a place don't.
  pub record Found (bytes : List ℕ) (place whole : ℕ) (at : Stand) : Type 0 where
    pub within : whole ≤ place
    pub stands : stand_of (behind bytes place) ≡ at
    pub between : ends_at_end (behind bytes whole) ≡ false
    pub most : (k : ℕ) → whole < k → k ≤ place → ends_at_end (behind bytes k) ≡ true

  pub none_found : (bytes : List ℕ) → Found bytes 0 0 stand.Row
  unfolding run
  none_found bytes = record { within = omega arith; stands = refl; between = refl; most = λ k low high. absurd (omega (arith, low, high)) }

  module _ (bytes : List ℕ) (place whole : ℕ) (at next : Stand) (so_far : Found bytes place whole at) (lt : place < length bytes)
      (is : next ≡ stand_behind separator at (get_or bytes place 0)) where
    next_stands : stand_of (behind bytes (place + 1)) ≡ next
    next_stands =
        let b : ℕ = get_or bytes place 0 in
        ap stand_of (behind_more bytes place lt) ∙ same_stand (behind bytes place) b (behind_known bytes place)
        ∙ ap (λ (t : Stand). stand_behind separator t b) so_far.stands ∙ sym is

    pub row_found : next ≡ stand.Row → Found bytes (place + 1) (place + 1) next
    row_found row = record {
      within = omega arith;
      stands = next_stands;
      between = stand_between (behind bytes (place + 1)) (behind_known bytes (place + 1)) (next_stands ∙ row);
      most = λ k low high. absurd (omega (arith, low, high));
    }

    pub none_more_found : next ≢ stand.Row → Found bytes (place + 1) whole next
    none_more_found other = record {
      within = omega (arith, so_far.within);
      stands = next_stands;
      between = so_far.between;
      most = λ k low high. by k low high (cases_lt k (place + 1));
    }
      where
        by : (k : ℕ) → whole < k → k ≤ place + 1 → (k < place + 1) ⊎ (place + 1 ≤ k) → ends_at_end (behind bytes k) ≡ true
        by k low high how = elim how [
          | inl below ↦ so_far.most k low (omega (arith, below))
          | inr over ↦
              let last : k ≡ place + 1 = omega (arith, over, high) in
              ap (λ (n : ℕ). ends_at_end (behind bytes n)) last
              ∙ stand_within (behind bytes (place + 1)) (behind_known bytes (place + 1)) (λ e. other (sym next_stands ∙ e))
        ]

  pub all_found : (bytes : List ℕ) (whole : ℕ) (at : Stand) → Found bytes (length bytes) whole at → AreWholeRows cfg bytes whole
  all_found bytes whole at found = record {
    within = found.within;
    whole = ends_row (take whole bytes) found.between;
    most = λ k low high. no_row (take k bytes) (found.most k low high);
  }

  -- ---- bytes without quotes

  -- a state that is come to without quotes
  is_quiet : State → Bool
  is_quiet st.StartRecord = true
  is_quiet st.AfterCr = true
  is_quiet st.StartField = true
  is_quiet st.InField = true
  is_quiet st.InQuoted = false
  is_quiet st.AfterQuote = false
  is_quiet st.InEscape = false
  is_quiet st.InComment = false

  -- such a byte is read so, wherever
  quiet_step : (s : State) (c : ℕ) → is_quiet s ≡ true → (c == 34) ≡ false → ends_with term.CRLF c ≡ false → step cfg s c ≡ in_field cfg c
  unfolding is_quiet
  quiet_step st.StartRecord c h quote none = rw (none, quote) refl
  quiet_step st.StartField c h quote none = rw quote refl
  quiet_step st.InField c h quote none = refl
  quiet_step st.AfterCr c h quote none = behind_cr separator c ∙ rw (none, quote) refl
  quiet_step st.InQuoted c h quote none = absurd (cc h)
  quiet_step st.AfterQuote c h quote none = absurd (cc h)
  quiet_step st.InEscape c h quote none = absurd (cc h)
  quiet_step st.InComment c h quote none = absurd (cc h)

  abbrev Inside : State → Type 0
  Inside s = (is_quiet s ≡ true) × (ends_at_end s ≡ true)

  if_inside : (b : Bool) (x y : State × Action) → Inside x.0 → Inside y.0 → Inside (if b then x else y).0
  if_inside true x y f g = f
  if_inside false x y f g = g

  within_row : (c : ℕ) → ends_with term.CRLF c ≡ false → Inside (in_field cfg c).0
  unfolding is_quiet
  within_row c none = rw none (if_inside (c == separator) (st.StartField, act.EndField) (st.InField, act.Copy) (refl, refl) (refl, refl))

  -- behind a line end a row begins
  after_line : (c : ℕ) → (is_quiet (after_end term.CRLF c) ≡ true) × (ends_at_end (after_end term.CRLF c) ≡ false)
  unfolding is_quiet
  after_line c = go (c == 13)
    where
      go : (b : Bool) → (is_quiet (if b then st.AfterCr else st.StartRecord) ≡ true) × (ends_at_end (if b then st.AfterCr else st.StartRecord) ≡ false)
      go true = (refl, refl)
      go false = (refl, refl)

  abbrev Begins : State → Type 0
  Begins s = (is_quiet s ≡ true) × (ends_at_end s ≡ false)

  line_step : (s : State) (c : ℕ) → is_quiet s ≡ true → (c == 34) ≡ false → (c == separator) ≡ false → ends_with term.CRLF c ≡ true → Begins (step cfg s c).0
  unfolding is_quiet
  line_step st.StartRecord c h quote other line = rw line (refl, refl)
  line_step st.StartField c h quote other line = rw (quote, other, line) (after_line c)
  line_step st.InField c h quote other line = rw (other, line) (after_line c)
  line_step st.AfterCr c h quote other line =
      subst (λ (x : State × Action). Begins x.0) (sym (behind_cr separator c)) (rw line (refl, refl))
  line_step st.InQuoted c h quote other line = absurd (cc h)
  line_step st.AfterQuote c h quote other line = absurd (cc h)
  line_step st.InEscape c h quote other line = absurd (cc h)
  line_step st.InComment c h quote other line = absurd (cc h)

  module _ (plainly : ends_with term.CRLF separator ≡ false) where
    not_separator : (c : ℕ) → ends_with term.CRLF c ≡ true → (c == separator) ≡ false
    not_separator c line = ne_eqb c separator (λ e. absurd (false≢true (sym plainly ∙ ap (ends_with term.CRLF) (sym e) ∙ line)))

    step_quiet : (s : State) (c : ℕ) → is_quiet s ≡ true → (c == 34) ≡ false → is_quiet (step cfg s c).0 ≡ true
    step_quiet s c h quote = by (ends_with term.CRLF c) refl
      where
        by : (b : Bool) → ends_with term.CRLF c ≡ b → is_quiet (step cfg s c).0 ≡ true
        by true line = (line_step s c h quote (not_separator c line) line).0
        by false none = ap (λ (x : State × Action). is_quiet x.0) (quiet_step s c h quote none) ∙ (within_row c none).0

    run_quiet : (front : List ℕ) (s : State) → IsUnquoted front → is_quiet s ≡ true → is_quiet (run cfg s front) ≡ true
    unfolding run
    run_quiet [] s unquoted h = h
    run_quiet (c ∷ front) s unquoted h =
        run_quiet front (step cfg s c).0 (unquoted_drop 1 (c ∷ front) unquoted) (step_quiet s c h (no_quote c (unquoted 0 (omega arith))))

    module _ (bytes : List ℕ) (unquoted : IsUnquoted bytes) where
      behind_quiet : (k : ℕ) → is_quiet (behind bytes k) ≡ true
      unfolding is_quiet
      behind_quiet k = run_quiet (take k bytes) st.StartRecord (unquoted_take k bytes unquoted) refl

      -- a row begins behind a byte that ends a line, and behind no other one
      behind_line : (k : ℕ) → k < length bytes → ends_with term.CRLF (get_or bytes k 0) ≡ true → ends_at_end (behind bytes (k + 1)) ≡ false
      behind_line k lt line =
          let b : ℕ = get_or bytes k 0 in
          ap ends_at_end (behind_more bytes k lt) ∙ (line_step (behind bytes k) b (behind_quiet k) (no_quote b (unquoted k lt)) (not_separator b line) line).1

      behind_other : (k : ℕ) → k < length bytes → ends_with term.CRLF (get_or bytes k 0) ≡ false → ends_at_end (behind bytes (k + 1)) ≡ true
      behind_other k lt none =
          let b : ℕ = get_or bytes k 0 in
          ap ends_at_end (behind_more bytes k lt)
          ∙ ap (λ (x : State × Action). ends_at_end x.0) (quiet_step (behind bytes k) b (behind_quiet k) (no_quote b (unquoted k lt)) none) ∙ (within_row b none).1

      -- up to behind the last line end
      pub lines_whole : (place : ℕ) → IsBehindLines bytes place → AreWholeRows cfg bytes place
      unfolding run
      lines_whole place lines = record {
        within = lines.within;
        whole = ends_row (take place bytes) (begins place lines);
        most = λ k low high. no_row (take k bytes) (inside k low high);
      }
        where
          begins : (p : ℕ) → IsBehindLines bytes p → ends_at_end (behind bytes p) ≡ false
          begins zero l = refl
          begins (suc k) l =
              let same : suc k ≡ k + 1 = omega arith in
              ap (λ (n : ℕ). ends_at_end (behind bytes n)) same ∙ behind_line k (omega (arith, l.within)) (l.ends k same)

          inside : (p : ℕ) → place < p → p ≤ length bytes → ends_at_end (behind bytes p) ≡ true
          inside zero low high = absurd (omega (arith, low))
          inside (suc k) low high =
              let same : suc k ≡ k + 1 = omega arith in
              ap (λ (n : ℕ). ends_at_end (behind bytes n)) same ∙ behind_other k (omega (arith, high)) (lines.none k (omega (arith, low)) (omega (arith, high)))

-- ---- quotes

-- those of a file are those of its parts
pub quotes_append : (front rest : List ℕ) → count_by (λ b. b == 34) (front ++ rest) ≡ count_by (λ b. b == 34) front + count_by (λ b. b == 34) rest
quotes_append front rest = sum_by-append (λ (b : ℕ). if b == 34 then 1 else 0) front rest

-- ---- bytes further on in a file

-- Behind a line end no byte order mark is looked for.
line_in_front : (xs : List ℕ) → strip_bom (10 ∷ xs) ≡ 10 ∷ xs
unfolding strip_bom
line_in_front [] = refl
line_in_front (a ∷ []) = refl
line_in_front (a ∷ b ∷ xs) = refl

-- it begins no row
line_passed : (separator : ℕ) (xs : List ℕ) → records (config_by separator) (10 ∷ xs) ≡ records (config_by separator) xs
unfolding read_all
line_passed separator xs = records_all (config_by separator) (10 ∷ xs) ∙ sym (records_all (config_by separator) xs)

pub line_records : (separator : ℕ) (xs : List ℕ) → records (config_by separator) (strip_bom (10 ∷ xs)) ≡ records (config_by separator) xs
line_records separator xs = ap (records (config_by separator)) (line_in_front xs) ∙ line_passed separator xs
