-- Adding a way where one of the ways may be like it.
use Rattle.std.specs.Prelude.{◌≡◌, ◌<◌, ◌≤◌, ◌+◌, ◌++◌, ℕ, zero, suc, true, false, List, [], ◌∷◌, drop, length, refl, take, slice_set, if◌then◌else◌}
use Rattle.std.proofs.Common.{◌∙◌, ap, arith, get_or, sym}
use Rattle.std.proofs.lemmas.List.{append_assoc, at_drop_all, at_drop_more, take_more}
use Rattle.dk_hierarchy.specs.Ways.{same_way, with_paths, with_way}
use Rattle.dk_hierarchy.specs.declared.way.Way.{Way}

-- the first ones are not like it, and stay
pub unlike_stays : (ways : List Way) (way : Way) (i : ℕ) (d : Way) → i < length ways → same_way (get_or ways i d) way ≡ false → with_way ways way ≡ take i ways ++ with_way (drop i ways) way
    → with_way ways way ≡ take (i + 1) ways ++ with_way (drop (i + 1) ways) way
unlike_stays ways way i d within unlike before =
    let rest = with_way (drop (i + 1) ways) way in
    before
    ∙ (ap (λ ws. take i ways ++ ws)
    (at_drop_more (λ ws. with_way ws way) ways i d within ∙ ap (λ b. if b then with_paths (get_or ways i d) way.paths ∷ drop (i + 1) ways else get_or ways i d ∷ rest) unlike)
    ∙ (sym (append_assoc (take i ways) (get_or ways i d ∷ []) rest) ∙ ap (λ ws. ws ++ rest) (sym (take_more ways i d within))))

-- the first that is like it has its paths too
pub like_found : (ways : List Way) (way : Way) (i : ℕ) (d : Way) → i < length ways → same_way (get_or ways i d) way ≡ true → with_way ways way ≡ take i ways ++ with_way (drop i ways) way
    → slice_set ways i (with_paths (get_or ways i d) way.paths) ≡ with_way ways way
like_found ways way i d within like before =
    put ways i within (with_paths (get_or ways i d) way.paths)
    ∙ sym (before
    ∙ ap (λ ws. take i ways ++ ws)
    (at_drop_more (λ ws. with_way ws way) ways i d within ∙ ap (λ b. if b then with_paths (get_or ways i d) way.paths ∷ drop (i + 1) ways else get_or ways i d ∷ with_way (drop (i + 1) ways) way) like))
  where
    next : (i : ℕ) → suc i + 1 ≡ suc (i + 1)
    next i = omega arith

    put : (xs : List Way) (i : ℕ) → i < length xs → (x : Way) → slice_set xs i x ≡ take i xs ++ x ∷ drop (i + 1) xs
    put [] i l x = absurd (omega (arith, l))
    put (y ∷ xs) zero l x = refl
    put (y ∷ xs) (suc i) l x = ap (λ ys. y ∷ ys) (put xs i (omega (arith, l)) x) ∙ ap (λ k. y ∷ (take i xs ++ x ∷ drop k (y ∷ xs))) (sym (next i))

-- where none is like it, it goes last
pub none_like : (ways : List Way) (way : Way) (i : ℕ) → length ways ≤ i → take i ways ≡ ways → with_way ways way ≡ take i ways ++ with_way (drop i ways) way → ways ++ way ∷ [] ≡ with_way ways way
none_like ways way i past whole before = sym (before ∙ (ap (λ ws. take i ways ++ ws) (at_drop_all (λ ws. with_way ws way) ways i past) ∙ ap (λ ws. ws ++ way ∷ []) whole))
