-- The records of a text, one after another.
use Rattle.std.proofs.Common.{◌≡◌, ◌≤◌, ◌<◌, ◌+◌, ◌-◌, ◌∙◌, ◌==◌, ◌&&◌, ◌∷◌, ◌++◌, [], ℕ, zero, suc, Bool, true, false, List, Option, Some, None, length, refl, sym, ap, subst, arith, if◌then◌else◌}
use Rattle.std.proofs.lemmas.Bool.{false≢true}
use Rattle.csv.specs.Machine.{Read, after_end, ends_at_end, ends_with, field_after, fields_after, in_field, is_byte, is_end, next_record, start_field, start_record, step}
use Rattle.csv.specs.Reading.{records_from, records_next}
use Rattle.csv.specs.declared.parser.Action.{Action}
use Rattle.csv.specs.declared.parser.Action.TheVariants as act
use Rattle.csv.specs.declared.parser.Config.{Config}
use Rattle.csv.specs.declared.parser.State.{State}
use Rattle.csv.specs.declared.parser.State.TheVariants as st
use Rattle.csv.specs.declared.parser.Terminator.{Terminator}
use Rattle.csv.specs.declared.parser.Terminator.TheVariants as term
use Rattle.dk_table.specs.Tables.{placed_from}

-- ---- behind a record no other one is begun

abbrev Fine : State × Action → Type 0
Fine x = is_end x.1 ≡ true → ends_at_end x.0 ≡ false

either : (b : Bool) (x y : State × Action) → Fine x → Fine y → Fine (if b then x else y)
either true x y f g = f
either false x y f g = g

no_end : (s : State) (a : Action) → is_end a ≡ false → Fine (s, a)
no_end s a e h = absurd (false≢true (sym e ∙ h))

pub behind_end : (t : Terminator) (c : ℕ) → ends_at_end (after_end t c) ≡ false
behind_end term.CRLF c = go (c == 13)
  where
    go : (b : Bool) → ends_at_end (if b then st.AfterCr else st.StartRecord) ≡ false
    go true = refl
    go false = refl
behind_end (term.Any t) c = refl

field_fine : (cfg : Config) (c : ℕ) → Fine (in_field cfg c)
field_fine cfg c =
    either (c == cfg.delimiter) (st.StartField, act.EndField) (if ends_with cfg.terminator c then (after_end cfg.terminator c, act.EndRecord) else (st.InField, act.Copy))
    (no_end st.StartField act.EndField refl)
    (either (ends_with cfg.terminator c) (after_end cfg.terminator c, act.EndRecord) (st.InField, act.Copy) (λ h. behind_end cfg.terminator c) (no_end st.InField act.Copy refl))

start_field_fine : (cfg : Config) (c : ℕ) → Fine (start_field cfg c)
start_field_fine cfg c = either (cfg.quoting && (c == cfg.quote)) (st.InQuoted, act.Skip) (in_field cfg c) (no_end st.InQuoted act.Skip refl) (field_fine cfg c)

start_record_fine : (cfg : Config) (c : ℕ) → Fine (start_record cfg c)
start_record_fine cfg c =
    either (ends_with cfg.terminator c) (st.StartRecord, act.Skip) (if is_byte cfg.comment c then (st.InComment, act.Skip) else start_field cfg c)
    (no_end st.StartRecord act.Skip refl)
    (either (is_byte cfg.comment c) (st.InComment, act.Skip) (start_field cfg c) (no_end st.InComment act.Skip refl) (start_field_fine cfg c))

step_fine : (cfg : Config) (s : State) (c : ℕ) → Fine (step cfg s c)
step_fine cfg st.StartRecord c = start_record_fine cfg c
step_fine cfg st.StartField c = start_field_fine cfg c
step_fine cfg st.InField c = field_fine cfg c
step_fine cfg st.InQuoted c =
    either (cfg.quoting && (c == cfg.quote)) (st.AfterQuote, act.Skip) (if cfg.quoting && is_byte cfg.escape c then (st.InEscape, act.Skip) else (st.InQuoted, act.Copy))
    (no_end st.AfterQuote act.Skip refl)
    (either (cfg.quoting && is_byte cfg.escape c) (st.InEscape, act.Skip) (st.InQuoted, act.Copy) (no_end st.InEscape act.Skip refl) (no_end st.InQuoted act.Copy refl))
step_fine cfg st.InEscape c = no_end st.InQuoted act.Copy refl
step_fine cfg st.AfterQuote c =
    either (cfg.quoting && cfg.double_quote && (c == cfg.quote)) (st.InQuoted, act.Copy) (in_field cfg c) (no_end st.InQuoted act.Copy refl) (field_fine cfg c)
step_fine cfg st.InComment c = either (c == 10) (st.StartRecord, act.Skip) (st.InComment, act.Skip) (no_end st.StartRecord act.Skip refl) (no_end st.InComment act.Skip refl)
step_fine cfg st.AfterCr c = either (c == 10) (st.StartRecord, act.Skip) (start_record cfg c) (no_end st.StartRecord act.Skip refl) (start_record_fine cfg c)

-- ---- a record takes bytes

picked : (b : Bool) (x q : Read) → (if b then Some x else None) ≡ Some q → x ≡ q
picked true x q e = cc e
picked false x q e = absurd (cc e)

-- what is behind a record, of a text with so many bytes
pub record Behind (n : ℕ) (q : Read) : Type 0 where
  pub short : length q.2 ≤ n - 1
  pub fine : ends_at_end q.1 ≡ false

-- one byte more in front
shrunk : (cfg : Config) (s : State) (c : ℕ) (fields : List (List ℕ)) (field rest : List ℕ) (q : Read) (b : Bool) → is_end (step cfg s c).1 ≡ b
    → (if b then Some (fields_after (step cfg s c).1 fields field, (step cfg s c).0, rest)
    else next_record cfg (step cfg s c).0 (fields_after (step cfg s c).1 fields field) (field_after (step cfg s c).1 c field) rest) ≡ Some q
    → (next_record cfg (step cfg s c).0 (fields_after (step cfg s c).1 fields field) (field_after (step cfg s c).1 c field) rest ≡ Some q → Behind (length rest) q)
    → Behind (length (c ∷ rest)) q
shrunk cfg s c fields field rest q true is e more =
    let x : Read = (fields_after (step cfg s c).1 fields field, (step cfg s c).0, rest) in
    let same : x ≡ q = cc e in
    let first : Behind (length (c ∷ rest)) x = record { short = omega arith; fine = step_fine cfg s c is } in
    subst (Behind (length (c ∷ rest))) same first
shrunk cfg s c fields field rest q false is e more = let behind = more e in record { short = omega (arith, behind.short); fine = behind.fine }

pub shrinks : (cfg : Config) (s : State) (fields : List (List ℕ)) (field xs : List ℕ) (q : Read) → next_record cfg s fields field xs ≡ Some q → Behind (length xs) q
unfolding next_record
shrinks cfg s fields field [] q e =
    let x : Read = (fields ++ field ∷ [], st.StartRecord, []) in
    let first : Behind 0 x = record { short = omega arith; fine = refl } in
    subst (Behind 0) (picked (ends_at_end s) x q e) first
shrinks cfg s fields field (c ∷ rest) q e =
    shrunk cfg s c fields field rest q (is_end (step cfg s c).1) refl e
    (shrinks cfg (step cfg s c).0 (fields_after (step cfg s c).1 fields field) (field_after (step cfg s c).1 c field) rest q)

pub begun : (cfg : Config) (s : State) (xs : List ℕ) (q : Read) → ends_at_end s ≡ false → next_record cfg s [] [] xs ≡ Some q → length q.2 < length xs
unfolding next_record
begun cfg s [] q fine e = absurd (cc (sym e ∙ ap (λ (b : Bool). if b then Some ([] ++ [] ∷ [], st.StartRecord, []) else None) fine))
begun cfg s (c ∷ rest) q fine e = omega (arith, (shrinks cfg s [] [] (c ∷ rest) q e).short)

-- ---- all records
same_next : (f g : State → List ℕ → List (List (List ℕ))) (o : Option Read) → ((p : Read) → o ≡ Some p → f p.1 p.2 ≡ g p.1 p.2) → records_next f o ≡ records_next g o
same_next f g None h = refl
same_next f g (Some p) h = ap (λ (l : List (List (List ℕ))). p.0 ∷ l) (h p refl)

-- how many records are asked for makes no difference, where it is more than there are bytes
same_records : (cfg : Config) (n m : ℕ) (s : State) (xs : List ℕ) → length xs < n → length xs < m → ends_at_end s ≡ false → records_from cfg n s xs ≡ records_from cfg m s xs
unfolding records_from
same_records cfg zero m s xs few less fine = absurd (omega arith)
same_records cfg (suc n) zero s xs few less fine = absurd (omega arith)
same_records cfg (suc n) (suc m) s xs few less fine =
    same_next (records_from cfg n) (records_from cfg m) (next_record cfg s [] [] xs)
    (λ p e. same_records cfg n m p.1 p.2 (omega (arith, begun cfg s xs p fine e)) (omega (arith, begun cfg s xs p fine e)) (shrinks cfg s [] [] xs p e).fine)

-- the first record and those behind it
pub records_more : (cfg : Config) (n : ℕ) (s : State) (xs : List ℕ) (p : Read) → length xs < n → ends_at_end s ≡ false → next_record cfg s [] [] xs ≡ Some p
    → records_from cfg n s xs ≡ p.0 ∷ records_from cfg (length p.2 + 1) p.1 p.2
unfolding records_from
records_more cfg zero s xs p few fine e = absurd (omega arith)
records_more cfg (suc n) s xs p few fine e =
    ap (records_next (records_from cfg n)) e
    ∙ ap (λ (l : List (List (List ℕ))). p.0 ∷ l) (same_records cfg n (length p.2 + 1) p.1 p.2 (omega (arith, begun cfg s xs p fine e)) (omega arith) (shrinks cfg s [] [] xs p e).fine)

pub records_end : (cfg : Config) (n : ℕ) (s : State) (xs : List ℕ) → next_record cfg s [] [] xs ≡ None → records_from cfg n s xs ≡ []
unfolding records_from
records_end cfg zero s xs e = refl
records_end cfg (suc n) s xs e = ap (records_next (records_from cfg n)) e

few_next : (n : ℕ) (f : State → List ℕ → List (List (List ℕ))) (o : Option Read) → ((p : Read) → o ≡ Some p → length (f p.1 p.2) < n) → length (records_next f o) ≤ n
few_next n f None h = omega arith
few_next n f (Some p) h = let more = h p refl in omega (arith, more)

-- there are at most as many records as bytes
pub few_records : (cfg : Config) (n : ℕ) (s : State) (xs : List ℕ) → ends_at_end s ≡ false → length (records_from cfg n s xs) ≤ length xs
unfolding records_from
few_records cfg zero s xs fine = omega arith
few_records cfg (suc n) s xs fine =
    few_next (length xs) (records_from cfg n) (next_record cfg s [] [] xs)
    (λ p e. omega (arith, few_records cfg n p.1 p.2 (shrinks cfg s [] [] xs p e).fine, begun cfg s xs p fine e))

-- ---- their places
pub placed_length : (file n : ℕ) (rows : List (List (List ℕ))) → length (placed_from file n rows) ≡ length rows
placed_length file n [] = refl
placed_length file n (r ∷ rows) = ap suc (placed_length file (n + 1) rows)

-- there are at most as many rows as bytes
pub few_placed : (cfg : Config) (file n : ℕ) (xs : List ℕ) → length (placed_from file n (records_from cfg (length xs + 1) st.StartRecord xs)) ≤ length xs
few_placed cfg file n xs =
    omega (arith, placed_length file n (records_from cfg (length xs + 1) st.StartRecord xs), few_records cfg (length xs + 1) st.StartRecord xs refl)
