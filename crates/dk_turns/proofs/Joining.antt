-- Blocks one behind the other are the blocks joined.
use Rattle.std.proofs.Common.{◌≡◌, ◌++◌, ℕ, zero, suc, true, false, not, List, [], ◌∷◌, All, drop, flat_map, fold, get_or, length, map, take, refl, sym, ◌∙◌, ap, append_assoc}
use Rattle.std.proofs.lemmas.List.Elements.{All-nil, All-append, All-drop, All-filter, All-head, All-map, All-tail, All-take, filter_passes}
use Rattle.std.proofs.lemmas.List.Sums.{fold-append}
use Rattle.std.specs.List.{join_with_byte}
use Rattle.dk_base.specs.Pieces.{is_empty}
use Rattle.dk_turns.specs.Blocks.{Block, block_of, blocks_of, has_lines, has_sample, lines_of_block, plain_blocks, runs_of, sample_blocks}
use Rattle.dk_turns.specs.Reading.{with_block}
use Rattle.dk_turns.specs.Turns.{block_text, blocks_in_turns, in_rounds, lines_text, rounds, turns_of}

-- ---- texts
joined_text : (a u : List ℕ) (rest : List (List ℕ)) → join_with_byte 10 ((a ++ u) ∷ rest) ≡ a ++ join_with_byte 10 (u ∷ rest)
joined_text a u [] = refl
joined_text a u (y ∷ ys) = append_assoc a u (10 ∷ join_with_byte 10 (y ∷ ys))

behind_text : (t : List ℕ) (b : Block) → is_empty t ≡ false → with_block t b ≡ (t ++ 10 ∷ []) ++ block_text b
behind_text [] b e = absurd (cc (e))
behind_text (x ∷ xs) b e = refl

still_some : (t u : List ℕ) → is_empty t ≡ false → is_empty ((t ++ 10 ∷ []) ++ u) ≡ false
still_some [] u e = absurd (cc (e))
still_some (x ∷ xs) u e = refl

joined_behind : (t : List ℕ) (bs : List Block) → is_empty t ≡ false → fold with_block t bs ≡ join_with_byte 10 (t ∷ map block_text bs)
joined_behind t [] e = refl
joined_behind t (b ∷ bs) e =
    ap (λ (u : List ℕ). fold with_block u bs) (behind_text t b e)
    ∙ joined_behind ((t ++ 10 ∷ []) ++ block_text b) bs (still_some t (block_text b) e)
    ∙ joined_text (t ++ 10 ∷ []) (block_text b) (map block_text bs)
    ∙ append_assoc t (10 ∷ []) (join_with_byte 10 (block_text b ∷ map block_text bs))

some_line : (l : List ℕ) (u : List ℕ) → is_empty ((l ++ 10 ∷ []) ++ u) ≡ false
some_line [] u = refl
some_line (x ∷ xs) u = refl

some_lines : (ls : List (List ℕ)) → not (is_empty ls) ≡ true → is_empty (lines_text ls) ≡ false
some_lines [] e = absurd (cc (e))
some_lines (l ∷ ls) e = some_line l (lines_text ls)

-- ---- each block has lines
abbrev Filled : List Block → Type 0
Filled bs = All (λ b. has_lines b ≡ true) bs

joined : (bs : List Block) → Filled bs → fold with_block [] bs ≡ join_with_byte 10 (map block_text bs)
joined [] h = refl
joined (b ∷ bs) h =
    joined_behind (block_text b) bs (some_lines (lines_of_block b) (All-head (λ c. has_lines c ≡ true) b bs h))

flat_filled : {Y : Type 0} (f : Y → List Block) (ys : List Y) → All (λ y. Filled (f y)) ys → Filled (flat_map f ys)
flat_filled f [] h = All-nil (λ b. has_lines b ≡ true)
flat_filled f (y ∷ ys) h =
    All-append (λ b. has_lines b ≡ true) (f y) (flat_map f ys) (All-head (λ y. Filled (f y)) y ys h) (flat_filled f ys (All-tail (λ y. Filled (f y)) y ys h))

taken_filled : (n : ℕ) (ls : List (List Block)) → All Filled ls → All (λ l. Filled (take n l)) ls
taken_filled n ls h k d lt = All-take (λ b. has_lines b ≡ true) n _ (h k d lt)

dropped_filled : (n : ℕ) (ls : List (List Block)) → All Filled ls → All Filled (map (drop n) ls)
dropped_filled n ls h = All-map Filled (drop n) ls (λ k d lt. All-drop (λ b. has_lines b ≡ true) n _ (h k d lt))

rounds_filled : (f n : ℕ) (ls : List (List Block)) → All Filled ls → Filled (rounds f n ls)
rounds_filled zero n ls h = All-nil (λ b. has_lines b ≡ true)
rounds_filled (suc f) n ls h =
    All-append (λ b. has_lines b ≡ true) (flat_map (take n) ls) (rounds f n (map (drop n) ls))
    (flat_filled (take n) ls (taken_filled n ls h)) (rounds_filled f n (map (drop n) ls) (dropped_filled n ls h))

blocks_filled : (file : List ℕ) → Filled (blocks_of file)
blocks_filled file = filter_passes has_lines (map block_of (runs_of file))

plain_filled : (file : List ℕ) → Filled (plain_blocks file)
plain_filled file = All-filter (λ b. not (has_sample b)) (λ b. has_lines b ≡ true) (blocks_of file) (blocks_filled file)

sample_filled : (file : List ℕ) → Filled (sample_blocks file)
sample_filled file = All-filter has_sample (λ b. has_lines b ≡ true) (blocks_of file) (blocks_filled file)

turns_filled : (n : ℕ) (files : List (List ℕ)) → Filled (blocks_in_turns n files)
turns_filled n files =
    All-append (λ b. has_lines b ≡ true) (flat_map plain_blocks files) (in_rounds n (map sample_blocks files))
    (flat_filled plain_blocks files (λ k d lt. plain_filled (get_or files k d)))
    (rounds_filled (length (flat_map (λ (list : List Block). list) (map sample_blocks files))) n (map sample_blocks files)
    (All-map Filled sample_blocks files (λ k d lt. sample_filled (get_or files k d))))

-- the blocks of all files, one behind the other
pub all_turns : (n : ℕ) (files : List (List ℕ)) (t t' : List ℕ) → t ≡ fold with_block [] (flat_map plain_blocks files)
    → t' ≡ fold with_block t (in_rounds n (map sample_blocks files)) → t' ≡ turns_of n files
unfolding turns_of
all_turns n files t t' e f =
    f ∙ ap (λ (u : List ℕ). fold with_block u (in_rounds n (map sample_blocks files))) e
    ∙ sym (fold-append with_block [] (flat_map plain_blocks files) (in_rounds n (map sample_blocks files)))
    ∙ joined (blocks_in_turns n files) (turns_filled n files)
