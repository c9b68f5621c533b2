-- Blocks in another order: the same blocks, and a text that is as long.
use Rattle.std.proofs.Common.{◌≡◌, ◌+◌, ◌-◌, ◌≤◌, ℕ, All, List, [], ◌∷◌, ◌++◌, IsPermutation, Option, Some, length, sum_by, refl, sym, ap, ◌∙◌, subst, append-nil, append_assoc, arith, length-append}
use Rattle.std.proofs.lemmas.List.Elements.{All-cons, All-nil, All-tail}
use Rattle.std.proofs.lemmas.List.Sorted.{All-permutation, IsPermutation-append_comm, IsPermutation-append_left, IsPermutation-append_right, IsPermutation-refl, IsPermutation-sym, IsPermutation-trans, sum_by-IsPermutation}
use Rattle.std.proofs.lemmas.List.Sums.{sum_by-cons}
use Rattle.dk_turns.specs.Blocks.{Block, lines_of_block}
use Rattle.dk_turns.specs.Turns.{block_text, lines_text}
use Rattle.dk_recorders.proofs.Lines.{Fit, is_short, spaced, spaced_all, text-append}
use Rattle.dk_recorders.specs.Interleaving.{IsInterleaved}
use Rattle.dk_recorders.proofs.Orders.{All-parts, Both, run, same_orders}

-- ---- the same items
module _ {X : Type 0} where
  -- the items behind one another
  abbrev pushed : List X → X → Option (List X)
  pushed s x = Some (s ++ x ∷ [])

  run_pushed : (s xs : List X) → run pushed s xs ≡ Some (s ++ xs)
  run_pushed s [] = ap (λ (l : List X). Some l) (sym (append-nil s))
  run_pushed s (x ∷ xs) = run_pushed (s ++ x ∷ []) xs ∙ ap (λ (l : List X). Some l) (append_assoc s (x ∷ []) xs)

  exchanged : (s : List X) (x y : X) → IsPermutation ((s ++ x ∷ []) ++ y ∷ []) ((s ++ y ∷ []) ++ x ∷ [])
  exchanged s x y =
      subst (λ (l : List X). IsPermutation l ((s ++ y ∷ []) ++ x ∷ [])) (sym (append_assoc s (x ∷ []) (y ∷ [])))
      (subst (λ (l : List X). IsPermutation (s ++ x ∷ y ∷ []) l) (sym (append_assoc s (y ∷ []) (x ∷ [])))
      (IsPermutation-append_right s (x ∷ y ∷ []) (y ∷ x ∷ []) (IsPermutation-append_comm (x ∷ []) (y ∷ []))))

  pub orders_permute : (xs ys : List X) (lists : List (List X)) → IsInterleaved xs lists → IsInterleaved ys lists → IsPermutation xs ys
  orders_permute xs ys lists one two =
      subst (λ (o : Option (List X)). Both IsPermutation o (Some ys)) (run_pushed [] xs)
      (subst (λ (o : Option (List X)). Both IsPermutation (run pushed [] xs) o) (run_pushed [] ys)
      (same_orders pushed IsPermutation (λ _. Unit {0}) (λ _ _. Unit {0}) IsPermutation-refl IsPermutation-sym IsPermutation-trans
      (λ s t x same _. IsPermutation-append_left (x ∷ []) s t same) (λ s x y _ _ _. exchanged s x y)
      xs ys lists one two (λ k d lt i e within. tt) (λ i j d lt within k e less m f small. tt)
      [] [] (IsPermutation-refl [])))

-- ---- a text that is as long
all_spaced : (P : List ℕ → Type 0) (bs : List Block) → All P (spaced bs) → All (λ b. All P (lines_of_block b)) bs
all_spaced P [] all = All-nil (λ b. All P (lines_of_block b))
all_spaced P (b ∷ []) all = All-cons (λ c. All P (lines_of_block c)) b [] all (All-nil (λ c. All P (lines_of_block c)))
all_spaced P (b ∷ c ∷ bs) all =
    let parts = All-parts P (lines_of_block b) ([] ∷ spaced (c ∷ bs)) all in
    All-cons (λ d. All P (lines_of_block d)) b (c ∷ bs) parts.0 (all_spaced P (c ∷ bs) (All-tail P [] (spaced (c ∷ bs)) parts.1))

-- how many bytes blocks have, with the blank line behind each
abbrev size : List Block → ℕ
size bs = sum_by (λ (b : Block). length (block_text b) + 1) bs

text_size : (b : Block) (bs : List Block) → length (lines_text (spaced (b ∷ bs))) + 1 ≡ size (b ∷ bs)
text_size b [] = omega (arith, sum_by-cons (λ (c : Block). length (block_text c) + 1) b [])
text_size b (c ∷ bs) =
    omega (
      arith,
      ap length (text-append (lines_of_block b) ([] ∷ spaced (c ∷ bs))),
      length-append (block_text b) (10 ∷ lines_text (spaced (c ∷ bs))),
      sum_by-cons (λ (d : Block). length (block_text d) + 1) b (c ∷ bs),
      text_size c bs,
    )

sized : (bs : List Block) → length (lines_text (spaced bs)) ≡ size bs - 1
sized [] = refl
sized (b ∷ bs) = omega (arith, text_size b bs)

pub fit_moved : (limit room : ℕ) (bs others : List Block) → IsPermutation bs others → Fit limit room (spaced bs) → Fit limit room (spaced others)
fit_moved limit room bs others moved fit = record {
  short = spaced_all (is_short limit) (let nothing : 0 ≤ limit = omega arith in nothing) others
      (All-permutation (λ b. All (is_short limit) (lines_of_block b)) bs others moved (all_spaced (is_short limit) bs fit.short));
  all = omega (arith, fit.all, sized bs, sized others, sum_by-IsPermutation (λ (b : Block). length (block_text b) + 1) bs others moved);
}
