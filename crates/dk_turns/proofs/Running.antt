-- Runs of lines, and the blocks in them, one after another.
use Rattle.std.proofs.Common.{◌≡◌, ◌&&◌, ◌+◌, ◌<◌, ℕ, Bool, true, false, cond, not, List, [], ◌∷◌, ◌++◌, filter, fold, length, map, refl, sym, ◌∙◌, ap, arith}
use Rattle.std.specs.List.{onto_first, slice_split}
use Rattle.dk_base.specs.Pieces.{is_empty}
use Rattle.dk_base.specs.Reading.{Line}
use Rattle.dk_base.specs.Words.{trim_blanks}
use Rattle.dk_lines.specs.Left.{lines_of, numbered}
use Rattle.dk_blocks.specs.Blocks.{Groups, Group, Last, groups_of, onto_group}
use Rattle.dk_turns.specs.Blocks.{Block, block_of, blocks_of, has_lines, has_sample, is_sample, lines_of_groups, plain_blocks, runs_of, sample_blocks}
use Rattle.dk_turns.specs.Reading.{behind_run, first_block, first_run, is_plain, trimmed_lines, with_block}

-- ---- groups
abbrev runs : List (List ℕ) → List (List (List ℕ))
runs ls = slice_split (λ (l : List ℕ). is_empty l) ls

onto : (l : Line) (g : Groups) → lines_of_groups (onto_group l g) ≡ onto_first l.bytes (lines_of_groups g)
onto l (Group ls close rest) = refl
onto l (Last ls end) = refl

one_group : (b : Bool) (l : Line) (number : ℕ) (g : Groups)
    → lines_of_groups (cond b (Group [] number g) (onto_group l g)) ≡ cond b ([] ∷ lines_of_groups g) (onto_first l.bytes (lines_of_groups g))
one_group true l number g = refl
one_group false l number g = onto l g

groups_are_runs : (n : ℕ) (ls : List (List ℕ)) → lines_of_groups (groups_of (numbered n ls)) ≡ runs (map trim_blanks ls)
groups_are_runs n [] = refl
groups_are_runs n (l ∷ ls) =
    one_group (is_empty (trim_blanks l)) (record { number = n + 1; bytes = trim_blanks l }) (n + 1) (groups_of (numbered (n + 1) ls))
    ∙ ap (λ (r : List (List (List ℕ))). cond (is_empty (trim_blanks l)) ([] ∷ r) (onto_first (trim_blanks l) r)) (groups_are_runs (n + 1) ls)

runs_are : (file : List ℕ) → runs_of file ≡ runs (trimmed_lines file)
unfolding trimmed_lines
runs_are file = groups_are_runs 0 (lines_of file)

-- ---- the first run, and the others
abbrev others : List (List ℕ) → List (List (List ℕ))
others [] = []
others (l ∷ ls) = cond (is_empty l) (runs ls) (others ls)

both : (b : Bool) (x y : List (List ℕ)) (xs ys : List (List (List ℕ))) → cond b (x ∷ xs) (y ∷ ys) ≡ cond b x y ∷ cond b xs ys
both true x y xs ys = refl
both false x y xs ys = refl

first_and_others : (ls : List (List ℕ)) → runs ls ≡ first_run ls ∷ others ls
first_and_others [] = refl
first_and_others (l ∷ ls) =
    ap (λ (r : List (List (List ℕ))). cond (is_empty l) ([] ∷ runs ls) (onto_first l r)) (first_and_others ls)
    ∙ both (is_empty l) [] (l ∷ first_run ls) (runs ls) (others ls)

-- ---- the blocks of which p is true
module _ (p : Block → Bool) where
  abbrev picked : List Block → List Block
  picked bs = filter p (filter has_lines bs)

  abbrev left : List (List ℕ) → List Block
  left ls = picked (map block_of (runs ls))

  one_picked : (b : Bool) (x : Block) (bs : List Block) → filter p (cond b (x ∷ bs) bs) ≡ cond (b && p x) (x ∷ filter p bs) (filter p bs)
  one_picked true x bs = refl
  one_picked false x bs = refl

  at_blank : (b : Bool) (ls : List (List ℕ)) → picked (map block_of (others ls)) ≡ left (behind_run ls)
      → picked (map block_of (cond b (runs ls) (others ls))) ≡ left (cond b ls (behind_run ls))
  at_blank true ls e = refl
  at_blank false ls e = e

  others_left : (ls : List (List ℕ)) → picked (map block_of (others ls)) ≡ left (behind_run ls)
  others_left [] = refl
  others_left (l ∷ ls) = at_blank (is_empty l) ls (others_left ls)

  step : (ls : List (List ℕ))
      → left ls ≡ cond (has_lines (first_block ls) && p (first_block ls)) (first_block ls ∷ left (behind_run ls)) (left (behind_run ls))
  step ls =
      ap (λ (r : List (List (List ℕ))). picked (map block_of r)) (first_and_others ls)
      ∙ one_picked (has_lines (first_block ls)) (first_block ls) (filter has_lines (map block_of (others ls)))
      ∙ ap (λ (r : List Block). cond (has_lines (first_block ls) && p (first_block ls)) (first_block ls ∷ r) r) (others_left ls)

  file_left : (file : List ℕ) → filter p (blocks_of file) ≡ left (trimmed_lines file)
  file_left file = ap (λ (r : List (List (List ℕ))). picked (map block_of r)) (runs_are file)

  -- a file, and what is left of it behind its first run
  file_step : (xs ys : List ℕ) → trimmed_lines ys ≡ behind_run (trimmed_lines xs) →
      (let first : Block = first_block (trimmed_lines xs) in
      filter p (blocks_of xs) ≡ cond (has_lines first && p first) (first ∷ filter p (blocks_of ys)) (filter p (blocks_of ys)))
  file_step xs ys e =
      let first : Block = first_block (trimmed_lines xs) in
      file_left xs ∙ step (trimmed_lines xs)
      ∙ ap (λ (r : List Block). cond (has_lines first && p first) (first ∷ r) r) (ap left (sym e) ∙ sym (file_left ys))

-- ---- blocks without a sample
behind_plain : (b : Bool) (t : List ℕ) (x : Block) (bs : List Block)
    → fold with_block (cond b (with_block t x) t) bs ≡ fold with_block t (cond b (x ∷ bs) bs)
behind_plain true t x bs = refl
behind_plain false t x bs = refl

pub plain_on : (xs ys t t' : List ℕ) → trimmed_lines ys ≡ behind_run (trimmed_lines xs)
    → t' ≡ cond (is_plain (first_block (trimmed_lines xs))) (with_block t (first_block (trimmed_lines xs))) t
    → fold with_block t' (plain_blocks ys) ≡ fold with_block t (plain_blocks xs)
plain_on xs ys t t' e f =
    ap (λ (u : List ℕ). fold with_block u (plain_blocks ys)) f
    ∙ behind_plain (is_plain (first_block (trimmed_lines xs))) t (first_block (trimmed_lines xs)) (plain_blocks ys)
    ∙ ap (fold with_block t) (sym (file_step (λ (b : Block). not (has_sample b)) xs ys e))

pub no_plain : plain_blocks [] ≡ []
no_plain = refl

-- ---- sample blocks
lines_too : (headers body : List (List ℕ)) → is_sample body ≡ true → not (is_empty (headers ++ body)) ≡ true
lines_too [] [] e = absurd (cc (e))
lines_too [] (l ∷ ls) e = refl
lines_too (h ∷ hs) body e = refl

both_true : (a b : Bool) → (b ≡ true → a ≡ true) → (a && b) ≡ b
both_true true b f = refl
both_true false true f = f refl
both_true false false f = refl

samples : (b : Block) → (has_lines b && has_sample b) ≡ has_sample b
samples b = both_true (has_lines b) (has_sample b) (lines_too b.headers b.body)

sample_step : (xs ys : List ℕ) → trimmed_lines ys ≡ behind_run (trimmed_lines xs) →
    sample_blocks xs ≡ cond (has_sample (first_block (trimmed_lines xs))) (first_block (trimmed_lines xs) ∷ sample_blocks ys) (sample_blocks ys)
sample_step xs ys e =
    file_step has_sample xs ys e
    ∙ ap (λ (b : Bool). cond b (first_block (trimmed_lines xs) ∷ sample_blocks ys) (sample_blocks ys)) (samples (first_block (trimmed_lines xs)))

pub sample_here : (xs ys : List ℕ) → trimmed_lines ys ≡ behind_run (trimmed_lines xs) → has_sample (first_block (trimmed_lines xs)) ≡ true
    → sample_blocks xs ≡ first_block (trimmed_lines xs) ∷ sample_blocks ys
sample_here xs ys e s =
    sample_step xs ys e ∙ ap (λ (b : Bool). cond b (first_block (trimmed_lines xs) ∷ sample_blocks ys) (sample_blocks ys)) s

pub sample_not_here : (xs ys : List ℕ) → trimmed_lines ys ≡ behind_run (trimmed_lines xs) → has_sample (first_block (trimmed_lines xs)) ≡ false
    → sample_blocks ys ≡ sample_blocks xs
sample_not_here xs ys e s =
    sym (sample_step xs ys e ∙ ap (λ (b : Bool). cond b (first_block (trimmed_lines xs) ∷ sample_blocks ys) (sample_blocks ys)) s)

pub no_samples : sample_blocks [] ≡ []
no_samples = refl

-- bytes that begin with a sample have one
pub some_sample : (xs : List ℕ) → has_sample (first_block (trimmed_lines xs)) ≡ true → 0 < length (sample_blocks xs)
some_sample xs s =
    let first : Block = first_block (trimmed_lines xs) in
    let more : List Block = left has_sample (behind_run (trimmed_lines xs)) in
    let e : sample_blocks xs ≡ first ∷ more =
    file_left has_sample xs ∙ step has_sample (trimmed_lines xs) ∙ ap (λ (b : Bool). cond b (first ∷ more) more) (samples first ∙ s) in
    omega (arith, ap length e)
