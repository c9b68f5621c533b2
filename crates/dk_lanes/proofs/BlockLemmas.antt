-- From the blocks of a list, and what is left after them, to the whole list.
use Rattle.std.proofs.Math.Bool.{and_assoc, or_assoc}
use Rattle.std.proofs.Common.{◌≡◌, ℕ, ℤ, suc, zero, ◌+◌, ◌-◌, ◌*◌, ◌/◌, Bool, true, false, ◌&&◌, ◌||◌, List, [], ◌∷◌, length, take, drop, replicate, zip, refl, sym, ap, ap₂, ◌∙◌, arith}
use Rattle.std.proofs.lemmas.List.{take-append-drop, drop-drop, length-drop, take_all}
use Rattle.std.proofs.lemmas.List.Folds.{list_all-append, list_any-append}
use Rattle.std.specs.List.{list_all, list_any}
use Rattle.std.specs.Simd.{first_chunks}
use Rattle.dk_lanes.specs.declared.relation.Rel.{Rel}
use Rattle.dk_lanes.specs.Relation.{relates}
use Rattle.dk_lanes.specs.Lanes.{partners_relate, is_sorted}

past_block : {X : Type 0} (n m : ℕ) (xs : List X) → drop (suc m * n) xs ≡ drop (m * n) (drop n xs)
past_block n m xs = let e : n + m * n ≡ suc m * n = omega arith in ap (λ k. drop k xs) (sym e) ∙ sym (drop-drop (m * n) n xs)

module _ {X : Type 0} (p : X → Bool) (n : ℕ) where
  pub all_blocks : (m : ℕ) (xs : List X) → (list_all (list_all p) (first_chunks n m xs) && list_all p (drop (m * n) xs)) ≡ list_all p xs
  all_blocks zero xs = let e : 0 * n ≡ 0 = omega arith in ap (λ k. list_all p (drop k xs)) e
  all_blocks (suc m) xs =
      let rest = drop n xs in
      and_assoc (list_all p (take n xs)) (list_all (list_all p) (first_chunks n m rest)) (list_all p (drop (suc m * n) xs))
      ∙ ap (λ r. list_all p (take n xs) && (list_all (list_all p) (first_chunks n m rest) && list_all p r)) (past_block n m xs)
      ∙ ap (λ b. list_all p (take n xs) && b) (all_blocks m rest)
      ∙ sym (list_all-append p (take n xs) rest)
      ∙ ap (list_all p) (take-append-drop n xs)

  pub any_blocks : (m : ℕ) (xs : List X) → (list_any (list_any p) (first_chunks n m xs) || list_any p (drop (m * n) xs)) ≡ list_any p xs
  any_blocks zero xs = let e : 0 * n ≡ 0 = omega arith in ap (λ k. list_any p (drop k xs)) e
  any_blocks (suc m) xs =
      let rest = drop n xs in
      or_assoc (list_any p (take n xs)) (list_any (list_any p) (first_chunks n m rest)) (list_any p (drop (suc m * n) xs))
      ∙ ap (λ r. list_any p (take n xs) || (list_any (list_any p) (first_chunks n m rest) || list_any p r)) (past_block n m xs)
      ∙ ap (λ b. list_any p (take n xs) || b) (any_blocks m rest)
      ∙ sym (list_any-append p (take n xs) rest)
      ∙ ap (list_any p) (take-append-drop n xs)

module _ {X Y : Type 0} where
  zip-take : (n : ℕ) (xs : List X) (ys : List Y) → zip (take n xs) (take n ys) ≡ take n (zip xs ys)
  zip-take zero xs ys = refl
  zip-take (suc n) [] ys = refl
  zip-take (suc n) (x ∷ xs) [] = refl
  zip-take (suc n) (x ∷ xs) (y ∷ ys) = ap (λ r. (x, y) ∷ r) (zip-take n xs ys)

  zip_none : (xs : List X) → zip xs (let none : List Y = [] in none) ≡ []
  zip_none [] = refl
  zip_none (x ∷ xs) = refl

  zip-drop : (n : ℕ) (xs : List X) (ys : List Y) → zip (drop n xs) (drop n ys) ≡ drop n (zip xs ys)
  zip-drop zero xs ys = refl
  zip-drop (suc n) [] ys = refl
  zip-drop (suc n) (x ∷ xs) [] = zip_none (drop n xs)
  zip-drop (suc n) (x ∷ xs) (y ∷ ys) = zip-drop n xs ys

  pub zip_blocks : (p : X × Y → Bool) (n m : ℕ) (xs : List X) (ys : List Y)
      → list_all (λ (b : List X × List Y). list_all p (zip b.0 b.1)) (zip (first_chunks n m xs) (first_chunks n m ys)) ≡ list_all (list_all p) (first_chunks n m (zip xs ys))
  zip_blocks p n zero xs ys = refl
  zip_blocks p n (suc m) xs ys =
      ap₂ (λ a b. list_all p a && b) (zip-take n xs ys)
      (zip_blocks p n m (drop n xs) (drop n ys) ∙ ap (λ r. list_all (list_all p) (first_chunks n m r)) (zip-drop n xs ys))

-- a scan of two lists, block by block and then the rest
pub all_zip_blocks : {X Y : Type 0} (p : X × Y → Bool) (n m : ℕ) (xs : List X) (ys : List Y)
    → (list_all (λ (b : List X × List Y). list_all p (zip b.0 b.1)) (zip (first_chunks n m xs) (first_chunks n m ys)) && list_all p (zip (drop (m * n) xs) (drop (m * n) ys))) ≡ list_all p (zip xs ys)
all_zip_blocks p n m xs ys =
    ap₂ (λ a r. a && list_all p r) (zip_blocks p n m xs ys) (zip-drop (m * n) xs ys) ∙ all_blocks p n m (zip xs ys)

-- ---- a scan that stops early: what is left to look at decides, or what was seen
pub left_decides : {a c : Bool} (b : Bool) → a ≡ true → (a && b) ≡ c → b ≡ c
left_decides b seen all = ap (λ x. x && b) (sym seen) ∙ all

pub seen_decides : {a c : Bool} (b : Bool) → a ≡ false → (a && b) ≡ c → a ≡ c
seen_decides b seen all = seen ∙ ap (λ x. x && b) (sym seen) ∙ all

pub left_finds : {a c : Bool} (b : Bool) → a ≡ false → (a || b) ≡ c → b ≡ c
left_finds b seen all = ap (λ x. x || b) (sym seen) ∙ all

pub seen_finds : {a c : Bool} (b : Bool) → a ≡ true → (a || b) ≡ c → a ≡ c
seen_finds b seen all = seen ∙ ap (λ x. x || b) (sym seen) ∙ all

-- ---- blocks of eight, as `as_chunks` gives them
in_blocks : (p : ℤ → ℤ → Bool) (k : ℤ) (n m : ℕ) (s : List ℤ)
    → list_all (λ block. list_all (λ (q : ℤ × ℤ). p q.0 q.1) (zip block (replicate n k))) (first_chunks n m s) ≡ list_all (list_all (λ x. p x k)) (first_chunks n m s)
in_blocks p k n zero s = refl
in_blocks p k n (suc m) s = ap₂ (λ a b. a && b) (each n s) (in_blocks p k n m (drop n s))
  where
    each : (n : ℕ) (s : List ℤ) → list_all (λ (q : ℤ × ℤ). p q.0 q.1) (zip (take n s) (replicate n k)) ≡ list_all (λ x. p x k) (take n s)
    each zero s = refl
    each (suc n) [] = refl
    each (suc n) (x ∷ s) = ap (λ b. p x k && b) (each n s)

pub all_found : (p : ℤ → ℤ → Bool) (k : ℤ) (s : List ℤ) (m : ℕ) (blocks : List (List ℤ)) (rest : List ℤ) → blocks ≡ first_chunks 8 m s → rest ≡ drop (m * 8) s
    → (list_all (λ block. list_all (λ (q : ℤ × ℤ). p q.0 q.1) (zip block (replicate 8 k))) blocks && list_all (λ x. p x k) rest) ≡ list_all (λ x. p x k) s
all_found p k s m blocks rest front back =
    ap₂ (λ bs r. list_all (λ block. list_all (λ (q : ℤ × ℤ). p q.0 q.1) (zip block (replicate 8 k))) bs && list_all (λ x. p x k) r) front back
    ∙ ap (λ a. a && list_all (λ x. p x k) (drop (m * 8) s)) (in_blocks p k 8 m s)
    ∙ all_blocks (λ x. p x k) 8 m s

pub any_found : (p : ℤ → Bool) (s : List ℤ) (m : ℕ) (blocks : List (List ℤ)) (rest : List ℤ) → blocks ≡ first_chunks 8 m s → rest ≡ drop (m * 8) s
    → (list_any (list_any p) blocks || list_any p rest) ≡ list_any p s
any_found p s m blocks rest front back = ap₂ (λ bs r. list_any (list_any p) bs || list_any p r) front back ∙ any_blocks p 8 m s

-- blocks of n, as `as_chunks` gives them, of two lists of one length
pub partners_found : {X Y : Type 0} (p : X × Y → Bool) (n : ℕ) (s : List X) (t : List Y) (blocks : List (List X)) (others : List (List Y)) (rest : List X) (other : List Y) → length s ≡ length t
    → blocks ≡ first_chunks n (length s / n) s → rest ≡ drop (length s / n * n) s → others ≡ first_chunks n (length t / n) t → other ≡ drop (length t / n * n) t
    → (list_all (λ (b : List X × List Y). list_all p (zip b.0 b.1)) (zip blocks others) && list_all p (zip rest other)) ≡ list_all p (zip s t)
partners_found {X} {Y} p n s t blocks others rest other long front back front₂ back₂ =
    let seen = λ (bs : List (List X)) (os : List (List Y)). list_all (λ (b : List X × List Y). list_all p (zip b.0 b.1)) (zip bs os) in
    ap₂ (λ bs r. seen bs others && list_all p (zip r other)) front back
    ∙ ap₂ (λ os o. seen (first_chunks n (length s / n) s) os && list_all p (zip (drop (length s / n * n) s) o))
    (front₂ ∙ ap (λ m. first_chunks n (m / n) t) (sym long)) (back₂ ∙ ap (λ m. drop (m / n * n) t) (sym long))
    ∙ all_zip_blocks p n (length s / n) s t

-- `zip` stops where the second list ends
pub zip_short : {X Y : Type 0} (xs : List X) (ys : List Y) → zip (take (length ys) xs) ys ≡ zip xs ys
zip_short [] [] = refl
zip_short [] (y ∷ ys) = refl
zip_short (x ∷ xs) [] = refl
zip_short (x ∷ xs) (y ∷ ys) = ap (λ r. (x, y) ∷ r) (zip_short xs ys)

-- neighbours are partners of the list without its last number and the list without its first
pub sorted_is : (rel : Rel) (s : List ℤ) → partners_relate rel (take (length (take (length s - 1) (drop 1 s))) s) (take (length s - 1) (drop 1 s)) ≡ is_sorted rel s
sorted_is rel s =
    let whole : take (length s - 1) (drop 1 s) ≡ drop 1 s = take_all (length s - 1) (drop 1 s) (omega (arith, length-drop 1 s)) in
    ap (λ r. partners_relate rel (take (length r) s) r) whole ∙ ap (list_all (λ (p : ℤ × ℤ). relates rel p.0 p.1)) (zip_short s (drop 1 s))
