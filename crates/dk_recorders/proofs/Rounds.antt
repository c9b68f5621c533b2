-- Rounds, and the lists one behind another, keep the order of each list.
use Rattle.std.proofs.Common.{◌≡◌, ◌<◌, ◌≤◌, ◌-◌, ◌++◌, ℕ, zero, suc, All, List, [], ◌∷◌, drop, flat_map, length, map, take, refl, sym, subst, append-nil, append_assoc, length-append, length-drop, arith}
use Rattle.std.proofs.lemmas.List.{nil_from_length}
use Rattle.std.proofs.lemmas.List.Elements.{All-append, All-cons, All-nil}
use Rattle.dk_turns.specs.Turns.{in_rounds, rounds}
use Rattle.dk_recorders.specs.Interleaving.{IsInterleaved}

module _ {X : Type 0} where
  abbrev all_of : List (List X) → List X
  all_of lists = flat_map (λ (list : List X). list) lists

  -- so many of one list in front
  one_taken : (n : ℕ) (front : List (List X)) (l : List X) (back : List (List X)) (xs : List X)
      → IsInterleaved xs (front ++ drop n l ∷ back) → IsInterleaved (take n l ++ xs) (front ++ l ∷ back)
  one_taken zero front l back xs more = more
  one_taken (suc n) front [] back xs more = more
  one_taken (suc n) front (x ∷ l) back xs more = (front, (l, (back, refl, one_taken n front l back xs more)))

  -- so many of each
  each_taken : (n : ℕ) (front lists : List (List X)) (xs : List X)
      → IsInterleaved xs (front ++ map (drop n) lists) → IsInterleaved (flat_map (take n) lists ++ xs) (front ++ lists)
  each_taken n front [] xs more = more
  each_taken n front (l ∷ ls) xs more =
      subst (λ (ys : List X). IsInterleaved ys (front ++ l ∷ ls)) (sym (append_assoc (take n l) (flat_map (take n) ls) xs))
      (one_taken n front l ls (flat_map (take n) ls ++ xs)
      (subst (IsInterleaved (flat_map (take n) ls ++ xs)) (append_assoc front (drop n l ∷ []) ls)
      (each_taken n (front ++ drop n l ∷ []) ls xs
      (subst (IsInterleaved xs) (sym (append_assoc front (drop n l ∷ []) (map (drop n) ls))) more))))

  none_of : (lists : List (List X)) → length (all_of lists) ≡ 0 → All (λ list. list ≡ []) lists
  none_of [] none = All-nil (λ list. list ≡ [])
  none_of (l ∷ ls) none =
      All-cons (λ list. list ≡ []) l ls (nil_from_length l (omega (arith, none, length-append l (all_of ls))))
      (none_of ls (omega (arith, none, length-append l (all_of ls))))

  -- what is left behind a round: fewer items, if there were any
  dropped_count : (n : ℕ) (lists : List (List X)) → 0 < n → length (all_of (map (drop n) lists)) ≤ length (all_of lists) - 1
  dropped_count n [] some = omega arith
  dropped_count n (l ∷ ls) some =
      omega (arith, length-append l (all_of ls), length-append (drop n l) (all_of (map (drop n) ls)), length-drop n l, dropped_count n ls some)

  rounds_interleave : (m n : ℕ) (lists : List (List X)) → 0 < n → length (all_of lists) ≤ m → IsInterleaved (rounds m n lists) lists
  rounds_interleave zero n lists some few = none_of lists (omega arith)
  rounds_interleave (suc m) n lists some few =
      each_taken n [] lists (rounds m n (map (drop n) lists))
      (rounds_interleave m n (map (drop n) lists) some (omega (arith, dropped_count n lists some)))

  pub in_rounds_interleave : (n : ℕ) (lists : List (List X)) → 0 < n → IsInterleaved (in_rounds n lists) lists
  in_rounds_interleave n lists some = rounds_interleave (length (all_of lists)) n lists some (omega arith)

  -- ---- one behind another
  one_behind : (front : List (List X)) (l : List X) (back : List (List X)) (xs : List X) → IsInterleaved xs (front ++ [] ∷ back) → IsInterleaved (l ++ xs) (front ++ l ∷ back)
  one_behind front [] back xs more = more
  one_behind front (x ∷ l) back xs more = (front, (l, (back, refl, one_behind front l back xs more)))

  nothing_more : (front lists : List (List X)) → All (λ list. list ≡ []) front → IsInterleaved (all_of lists) (front ++ lists)
  nothing_more front [] none = subst (All (λ list. list ≡ [])) (sym (append-nil front)) none
  nothing_more front (l ∷ ls) none =
      one_behind front l ls (all_of ls)
      (subst (IsInterleaved (all_of ls)) (append_assoc front ([] ∷ []) ls)
      (nothing_more (front ++ [] ∷ []) ls (All-append (λ list. list ≡ []) front ([] ∷ []) none (All-cons (λ list. list ≡ []) [] [] refl (All-nil (λ list. list ≡ []))))))

  pub one_by_one_interleave : (lists : List (List X)) → IsInterleaved (all_of lists) lists
  one_by_one_interleave lists = nothing_more [] lists (All-nil (λ list. list ≡ []))
