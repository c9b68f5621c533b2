-- Lists of texts, compared one by one.
use Rattle.std.proofs.Common.{◌≡◌, ℕ, ◌+◌, ◌<◌, ◌++◌, List, [], ◌∷◌, Bor, length, get_or, map, take, sym, ap, ◌∙◌, arith}
use Rattle.std.proofs.lemmas.List.{length-map, get_or-map, take_more}

abbrev pub shown : List (Bor (List ℕ)) → List (List ℕ)
shown texts = map (λ t. t.now) texts

-- one text more is the same
pub same_more : (a : List (Bor (List ℕ))) (b : List (List ℕ)) (i : ℕ) (d : Bor (List ℕ)) → i < length a → i < length b → take i (shown a) ≡ take i b → (get_or a i d).now ≡ get_or b i [] → take (i + 1) (shown a) ≡ take (i + 1) b
same_more a b i d la lb h e =
    let l : i < length (shown a) = omega (arith, length-map a (λ (t : Bor (List ℕ)). t.now)) in
    take_more (shown a) i [] l ∙ (ap (λ xs. xs ++ get_or (shown a) i [] ∷ []) h
    ∙ (ap (λ x. take i b ++ x ∷ []) (get_or-map (λ (t : Bor (List ℕ)). t.now) a i d [] la ∙ e) ∙ sym (take_more b i [] lb)))

-- lists of the same texts have the same text at each place
pub same_there : (a : List (Bor (List ℕ))) (b : List (List ℕ)) (i : ℕ) (d : Bor (List ℕ)) → i < length a → shown a ≡ b → (get_or a i d).now ≡ get_or b i []
same_there a b i d la e = sym (get_or-map (λ (t : Bor (List ℕ)). t.now) a i d [] la) ∙ ap (λ xs. get_or xs i []) e
