-- Where blanks and tabs cut, the pieces are the parts between them.
use Rattle.std.proofs.Common.{◌≡◌, ◌∷◌, [], ℕ, Bool, true, false, List, refl, ap, cond}
use Rattle.std.specs.List.{slice_split, onto_first}
use Rattle.dk_base.specs.Pieces.{outside, parts, pieces, nonempty, is_blank}
use Rattle.dk_base.specs.Words.WordLaws.{WordsArePartsBetweenBlanks}
use Rattle.dk_base.specs.declared.splitting.Cut.TheVariants.{AtBlanksAndTabs}

-- a part in front of others, by whether the next byte cuts
abbrev next_part : ℕ → Bool → List ℕ × List (List ℕ) → List ℕ × List (List ℕ)
next_part b x f = cond {A = List ℕ × List (List ℕ)} x ([], f.0 ∷ f.1) (b ∷ f.0, f.1)

between : (bytes : List ℕ) → (parts AtBlanksAndTabs outside bytes).0 ∷ (parts AtBlanksAndTabs outside bytes).1 ≡ slice_split is_blank bytes
between [] = refl
between (b ∷ bs) = go (is_blank b) (parts AtBlanksAndTabs outside bs) (slice_split is_blank bs) (between bs)
  where
    go : (x : Bool) (f : List ℕ × List (List ℕ)) (s : List (List ℕ)) → f.0 ∷ f.1 ≡ s
        → (next_part b x f).0 ∷ (next_part b x f).1 ≡ cond x ([] ∷ s) (onto_first b s)
    go true f s e = ap (λ l. [] ∷ l) e
    go false f s e = ap (onto_first b) e

pub words_are_parts : WordsArePartsBetweenBlanks
unfolding pieces
words_are_parts bytes = ap nonempty (between bytes)
