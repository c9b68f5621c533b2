-- Rounds over lists until none of their items is left.
use Rattle.std.proofs.Common.{◌≡◌, ◌+◌, ◌-◌, ◌<◌, ◌≤◌, ◌++◌, ◌⊎◌, inl, inr, ℕ, zero, suc, cond, not, List, [], ◌∷◌, append-nil, append_assoc, drop, flat_map, fold, length, map, sum_by, take, refl, sym, ◌∙◌, ap, arith, length-append, length-take, length-drop, Bor}
use Rattle.std.proofs.lemmas.List.{nil_from_length}
use Rattle.std.proofs.lemmas.List.Sums.{fold-append, sum_by-cons}
use lib.Seq.{take-nil, drop-nil}
use Rattle.dk_base.specs.Pieces.{is_empty}
use Rattle.dk_turns.specs.Blocks.{Block, sample_blocks}
use Rattle.dk_turns.specs.Reading.{some_left, with_block}
use Rattle.dk_turns.specs.Turns.{in_rounds, rounds}

module _ {X : Type 0} where
  -- how many items there are
  abbrev count : List (List X) → ℕ
  count lists = length (flat_map (λ (list : List X). list) lists)

  count-cons : (l : List X) (ls : List (List X)) → count (l ∷ ls) ≡ length l + count ls
  count-cons l ls = length-append l (flat_map (λ (list : List X). list) ls)

  taken_count : (n : ℕ) (ls : List (List X)) → length (flat_map (take n) ls) ≤ count ls
  taken_count n [] = omega arith
  taken_count n (l ∷ ls) =
      omega (arith, length-append (take n l) (flat_map (take n) ls), length-take n l, count-cons l ls, taken_count n ls)

  -- what is left behind a round: fewer items, if there were any
  dropped_count : (n : ℕ) (ls : List (List X)) → 0 < n → count (map (drop n) ls) ≤ count ls - 1
  dropped_count n [] h = omega arith
  dropped_count n (l ∷ ls) h =
      omega (arith, count-cons l ls, count-cons (drop n l) (map (drop n) ls), length-drop n l, dropped_count n ls h)

  none_left : (f n : ℕ) (ls : List (List X)) → 0 < n → count ls ≡ 0 → rounds f n ls ≡ []
  none_left zero n ls h e = refl
  none_left (suc f) n ls h e =
      let round : flat_map (take n) ls ≡ [] = nil_from_length (flat_map (take n) ls) (omega (arith, taken_count n ls)) in
      ap (λ (r : List X). r ++ rounds f n (map (drop n) ls)) round ∙ none_left f n (map (drop n) ls) h (omega (arith, dropped_count n ls h))

  -- more rounds than are needed change nothing
  same_rounds : (f g n : ℕ) (ls : List (List X)) → 0 < n → count ls ≤ f → count ls ≤ g → rounds f n ls ≡ rounds g n ls
  same_rounds zero g n ls h p q = sym (none_left g n ls h (omega arith))
  same_rounds (suc f) zero n ls h p q = none_left (suc f) n ls h (omega arith)
  same_rounds (suc f) (suc g) n ls h p q =
      ap (λ (r : List X). flat_map (take n) ls ++ r)
      (same_rounds f g n (map (drop n) ls) h (omega (arith, dropped_count n ls h)) (omega (arith, dropped_count n ls h)))

  pub rounds_go_on : (n : ℕ) (ls : List (List X)) → 0 < n → in_rounds n ls ≡ flat_map (take n) ls ++ in_rounds n (map (drop n) ls)
  rounds_go_on n ls h =
      same_rounds (count ls) (suc (count ls)) n ls h (omega arith) (omega arith)
      ∙ ap (λ (r : List X). flat_map (take n) ls ++ r)
      (same_rounds (count ls) (count (map (drop n) ls)) n (map (drop n) ls) h (omega (arith, dropped_count n ls h)) (omega arith))

  -- ---- empty lists
  one_taken : (n : ℕ) (l : List X) (ls : List (List X)) → flat_map (take n) (some_left ls) ≡ flat_map (take n) ls
      → flat_map (take n) (some_left (l ∷ ls)) ≡ flat_map (take n) (l ∷ ls)
  one_taken n [] ls e = e ∙ ap (λ (r : List X). r ++ flat_map (take n) ls) (sym (take-nil n))
  one_taken n (x ∷ xs) ls e = ap (λ (r : List X). take n (x ∷ xs) ++ r) e

  some_taken : (n : ℕ) (ls : List (List X)) → flat_map (take n) (some_left ls) ≡ flat_map (take n) ls
  some_taken n [] = refl
  some_taken n (l ∷ ls) = one_taken n l ls (some_taken n ls)

  one_dropped : (n : ℕ) (l : List X) (ls : List (List X)) → some_left (map (drop n) (some_left ls)) ≡ some_left (map (drop n) ls)
      → some_left (map (drop n) (some_left (l ∷ ls))) ≡ some_left (map (drop n) (l ∷ ls))
  one_dropped n [] ls e = e ∙ ap (λ (l : List X). some_left (l ∷ map (drop n) ls)) (sym (drop-nil n))
  one_dropped n (x ∷ xs) ls e =
      ap (λ (r : List (List X)). cond (not (is_empty (drop n (x ∷ xs)))) (drop n (x ∷ xs) ∷ r) r) e

  some_dropped : (n : ℕ) (ls : List (List X)) → some_left (map (drop n) (some_left ls)) ≡ some_left (map (drop n) ls)
  some_dropped n [] = refl
  some_dropped n (l ∷ ls) = one_dropped n l ls (some_dropped n ls)

  some_rounds : (f n : ℕ) (ls : List (List X)) → rounds f n (some_left ls) ≡ rounds f n ls
  some_rounds zero n ls = refl
  some_rounds (suc f) n ls =
      ap (λ (r : List X). r ++ rounds f n (map (drop n) (some_left ls))) (some_taken n ls)
      ∙ ap (λ (r : List X). flat_map (take n) ls ++ r)
      (sym (some_rounds f n (map (drop n) (some_left ls))) ∙ ap (rounds f n) (some_dropped n ls) ∙ some_rounds f n (map (drop n) ls))

  one_counted : (l : List X) (ls : List (List X)) → count (some_left ls) ≡ count ls → count (some_left (l ∷ ls)) ≡ count (l ∷ ls)
  one_counted [] ls e = e
  one_counted (x ∷ xs) ls e =
      count-cons (x ∷ xs) (some_left ls) ∙ ap (λ (k : ℕ). length (x ∷ xs) + k) e ∙ sym (count-cons (x ∷ xs) ls)

  some_counted : (ls : List (List X)) → count (some_left ls) ≡ count ls
  some_counted [] = refl
  some_counted (l ∷ ls) = one_counted l ls (some_counted ls)

  some_in_rounds : (n : ℕ) (ls : List (List X)) → in_rounds n (some_left ls) ≡ in_rounds n ls
  some_in_rounds n ls = ap (λ (k : ℕ). rounds k n (some_left ls)) (some_counted ls) ∙ some_rounds (count ls) n ls

  -- ---- how long it takes
  -- how many items and lists there are
  abbrev pub weight : List (List X) → ℕ
  weight ls = sum_by (λ (l : List X). length l + 1) ls

  weight-cons : (l : List X) (ls : List (List X)) → weight (l ∷ ls) ≡ length l + 1 + weight ls
  weight-cons l ls = sum_by-cons (λ (k : List X). length k + 1) l ls

  one_lighter : (d : List X) (m : ℕ) (r : List (List X)) → length d ≤ m - 1
      → weight (cond (not (is_empty d)) (d ∷ r) r) ≤ m + weight r
  one_lighter [] m r h = omega arith
  one_lighter (x ∷ xs) m r h = omega (arith, weight-cons (x ∷ xs) r)

  lighter_by : (n : ℕ) (ls : List (List X)) → 0 < n → weight (some_left (map (drop n) ls)) + length ls ≤ weight ls
  lighter_by n [] h = omega arith
  lighter_by n (l ∷ ls) h =
      omega (arith, one_lighter (drop n l) (length l) (some_left (map (drop n) ls)) (omega (arith, length-drop n l)), weight-cons l ls, lighter_by n ls h)

  pub lighter : (n : ℕ) (ls ls' : List (List X)) → 0 < n → 0 < length ls → ls' ≡ some_left (map (drop n) ls) → weight ls' < weight ls
  lighter n ls ls' h k e = omega (arith, lighter_by n ls h, ap weight e)

-- ---- a round of blocks
pub round_on : (t t' : List ℕ) (n : ℕ) (ls ls' : List (List Block)) → 0 < n → t' ≡ fold with_block t (flat_map (take n) ls)
    → ls' ≡ some_left (map (drop n) ls) → fold with_block t' (in_rounds n ls') ≡ fold with_block t (in_rounds n ls)
round_on t t' n ls ls' h e f =
    ap (λ (u : List ℕ). fold with_block u (in_rounds n ls')) e
    ∙ ap (λ (k : List (List Block)). fold with_block (fold with_block t (flat_map (take n) ls)) (in_rounds n k)) f
    ∙ ap (fold with_block (fold with_block t (flat_map (take n) ls))) (some_in_rounds n (map (drop n) ls))
    ∙ sym (fold-append with_block t (flat_map (take n) ls) (in_rounds n (map (drop n) ls)))
    ∙ ap (fold with_block t) (sym (rounds_go_on n ls h))

-- one of the files of a round
pub one_on : (t : List ℕ) (n : ℕ) (l : List Block) (ls : List (List Block))
    → fold with_block (fold with_block t (take n l)) (flat_map (take n) ls) ≡ fold with_block t (flat_map (take n) (l ∷ ls))
one_on t n l ls = sym (fold-append with_block t (take n l) (flat_map (take n) ls))

-- one of the blocks that are wanted
pub wanted_on : (t : List ℕ) (w w' : ℕ) (b : Block) (bs : List Block) → 0 < w → w' ≡ w - 1
    → fold with_block (with_block t b) (take w' bs) ≡ fold with_block t (take w (b ∷ bs))
wanted_on t zero w' b bs h e = absurd (omega arith)
wanted_on t (suc w) w' b bs h e =
    let same : w' ≡ w = omega arith in ap (λ (k : ℕ). fold with_block (with_block t b) (take k bs)) same

pub wanted_less : (w w' : ℕ) (b : Block) (bs : List Block) → 0 < w → w' ≡ w - 1 → drop w' bs ≡ drop w (b ∷ bs)
wanted_less zero w' b bs h e = absurd (omega arith)
wanted_less (suc w) w' b bs h e = let same : w' ≡ w = omega arith in ap (λ (k : ℕ). drop k bs) same

-- none is wanted any more, or no file is left
pub all_taken : (t : List ℕ) (w : ℕ) (xs : List ℕ) → (w ≡ 0) ⊎ (xs ≡ []) → fold with_block t (take w (sample_blocks xs)) ≡ t
all_taken t w xs (inl e) = ap (λ (k : ℕ). fold with_block t (take k (sample_blocks xs))) e
all_taken t w xs (inr e) = ap (λ (l : List ℕ). fold with_block t (take w (sample_blocks l))) e ∙ ap (fold with_block t) (take-nil w)

pub all_dropped : (w : ℕ) (xs : List ℕ) → (w ≡ 0) ⊎ (xs ≡ []) → drop w (sample_blocks xs) ≡ sample_blocks xs
all_dropped w xs (inl e) = ap (λ (k : ℕ). drop k (sample_blocks xs)) e
all_dropped w xs (inr e) = ap (λ (l : List ℕ). drop w (sample_blocks l)) e ∙ drop-nil w ∙ sym (ap sample_blocks e)

-- ---- files
abbrev pub samples_of : List (Bor (List ℕ)) → List (List Block)
samples_of files = map (λ (file : Bor (List ℕ)). sample_blocks file.now) files

abbrev pub bytes_at : List (Bor (List ℕ)) → List (List ℕ)
bytes_at files = map (λ (file : Bor (List ℕ)). file.now) files

pub samples_at : (files : List (Bor (List ℕ))) → samples_of files ≡ map sample_blocks (bytes_at files)
samples_at [] = refl
samples_at (file ∷ files) = ap (λ (r : List (List Block)). sample_blocks file.now ∷ r) (samples_at files)

samples-append : (xs ys : List (Bor (List ℕ))) → samples_of (xs ++ ys) ≡ samples_of xs ++ samples_of ys
samples-append [] ys = refl
samples-append (x ∷ xs) ys = ap (λ (r : List (List Block)). sample_blocks x.now ∷ r) (samples-append xs ys)

kept_one : (bs : List Block) → 0 < length bs → bs ∷ [] ≡ some_left (bs ∷ [])
kept_one [] h = absurd (omega arith)
kept_one (b ∷ bs) h = refl

-- a file that is over is left out
pub none_kept : (xs : List (Bor (List ℕ))) (file : List ℕ) → file ≡ [] → samples_of xs ≡ samples_of xs ++ some_left (sample_blocks file ∷ [])
none_kept xs file e =
    sym (append-nil (samples_of xs)) ∙ ap (λ (l : List ℕ). samples_of xs ++ some_left (sample_blocks l ∷ [])) (sym e)

-- another one is kept
pub one_kept : (xs ys : List (Bor (List ℕ))) (file : Bor (List ℕ)) → 0 < length (sample_blocks file.now) → ys ≡ xs ++ file ∷ []
    → samples_of ys ≡ samples_of xs ++ some_left (sample_blocks file.now ∷ [])
one_kept xs ys file h e =
    ap samples_of e ∙ samples-append xs (file ∷ []) ∙ ap (λ (r : List (List Block)). samples_of xs ++ r) (kept_one (sample_blocks file.now) h)

-- what is left of one of the files of a round goes behind that of those before it
pub left_on : (a b rest : List (List Block)) (l : List Block) (n : ℕ) → b ≡ a ++ some_left (drop n l ∷ [])
    → b ++ some_left (map (drop n) rest) ≡ a ++ some_left (map (drop n) (l ∷ rest))
left_on a b rest l n e =
    ap (λ (r : List (List Block)). r ++ some_left (map (drop n) rest)) e
    ∙ append_assoc a (some_left (drop n l ∷ [])) (some_left (map (drop n) rest))
    ∙ ap (λ (r : List (List Block)). a ++ r) (joined_left (drop n l) (some_left (map (drop n) rest))) where
      joined_left : (d : List Block) (r : List (List Block)) → some_left (d ∷ []) ++ r ≡ cond (not (is_empty d)) (d ∷ r) r
      joined_left [] r = refl
      joined_left (x ∷ xs) r = refl

bytes-append : (xs ys : List (Bor (List ℕ))) → bytes_at (xs ++ ys) ≡ bytes_at xs ++ bytes_at ys
bytes-append [] ys = refl
bytes-append (x ∷ xs) ys = ap (λ (r : List (List ℕ)). x.now ∷ r) (bytes-append xs ys)

-- one more file goes behind those before it
pub bytes_on : (xs ys : List (Bor (List ℕ))) (file : Bor (List ℕ)) (bytes : List ℕ) (rest : List (List ℕ)) → ys ≡ xs ++ file ∷ [] → file.now ≡ bytes
    → bytes_at ys ++ rest ≡ bytes_at xs ++ bytes ∷ rest
bytes_on xs ys file bytes rest e f =
    ap (λ (kept : List (Bor (List ℕ))). bytes_at kept ++ rest) e
    ∙ ap (λ (r : List (List ℕ)). r ++ rest) (bytes-append xs (file ∷ []))
    ∙ append_assoc (bytes_at xs) (file.now ∷ []) rest
    ∙ ap (λ (b : List ℕ). bytes_at xs ++ b ∷ rest) f

pub counted : (files : List (Bor (List ℕ))) → 0 < length files → 0 < length (samples_of files)
counted [] h = h
counted (file ∷ files) h = omega arith

pub no_rounds : (n : ℕ) (files : List (Bor (List ℕ))) → length files ≡ 0 → in_rounds n (samples_of files) ≡ []
no_rounds n [] e = refl
no_rounds n (file ∷ files) e = absurd (omega (arith, e))
