-- The pieces of a text, byte by byte.
use Rattle.std.proofs.Common.{◌≡◌, ◌<◌, ◌≤◌, ◌+◌, ◌∙◌, ◌++◌, ◌∷◌, [], ℕ, Bool, true, false, zero, suc, List, refl, ap, append-nil, append_assoc, sym, drop, take, length, get_or, arith, subst}
use Rattle.std.specs.Prelude.{◌==◌, ◌||◌, ◌&&◌}
use Rattle.std.proofs.lemmas.Bool.{eqb-true}
use Rattle.std.proofs.lemmas.Bool.Decides.{nat_tests}
use Rattle.std.proofs.lemmas.List.{take_more, drop_more, take_all, drop_all, length-take}
use Rattle.dk_base.specs.Pieces.{outside, place_after, cuts, parts, behind, nonempty, is_blank, pieces, BeginsPiece}
use Rattle.dk_base.specs.declared.splitting.Cut.{Cut}
use Rattle.dk_base.specs.declared.splitting.Cut.TheVariants.{AtBlanksAndTabs, AtBlanksOutsideQuotes}
use Rattle.dk_base.specs.declared.splitting.Quoting.{Quoting}

-- what cuts in quotes cuts outside of them
cuts_outside : (cut : Cut) (p : Quoting) (b : ℕ) → cuts cut p b ≡ true → cuts cut outside b ≡ true
cuts_outside AtBlanksAndTabs p b h = h
cuts_outside AtBlanksOutsideQuotes p b h = go p.quoted b h
  where
    go : (quoted : Bool) (b : ℕ) → cuts AtBlanksOutsideQuotes (record { quoted = quoted; escaped = false }) b ≡ true → cuts AtBlanksOutsideQuotes outside b ≡ true
    go true b h = cc
    go false b h = h

-- a cut in front leaves the pieces as they are
pub pieces_behind_cut : (cut : Cut) (b : ℕ) (bs : List ℕ) → cuts cut outside b ≡ true → pieces cut (b ∷ bs) ≡ pieces cut bs
unfolding pieces
pieces_behind_cut cut b bs h = rw h refl

-- where the next byte cuts, it may be left out
pub pieces_one_on : (cut : Cut) (text : List ℕ) (i : ℕ) → i < length text → cuts cut outside (get_or text i 0) ≡ true
    → pieces cut (drop (i + 1) text) ≡ pieces cut (drop i text)
pieces_one_on cut text i lt h =
    sym (ap (pieces cut) (drop_more text i 0 lt) ∙ pieces_behind_cut cut (get_or text i 0) (drop (i + 1) text) h)

pub no_pieces : (cut : Cut) → pieces cut [] ≡ []
unfolding pieces
no_pieces cut = refl

-- where the next byte does not cut, a piece begins
pub begins_at : (cut : Cut) (text : List ℕ) (i : ℕ) → i < length text → cuts cut outside (get_or text i 0) ≡ false → BeginsPiece cut (drop i text)
begins_at cut text i lt h = let P : List ℕ → Type 0 = BeginsPiece cut in subst P (sym (drop_more text i 0 lt)) h

-- a byte that does not cut goes to the first part
stays : (cut : Cut) (p : Quoting) (front : List ℕ) (b : ℕ) (bs : List ℕ) → cuts cut p b ≡ false
    → behind (front ++ b ∷ []) (parts cut (place_after cut p b) bs) ≡ behind front (parts cut p (b ∷ bs))
stays cut p front b bs h =
    rw h (ap (λ (first : List ℕ). (first, (parts cut (place_after cut p b) bs).1)) (append_assoc front (b ∷ []) _))

-- one byte more of the first part
pub longer : (cut : Cut) (p : Quoting) (text : List ℕ) (i : ℕ) → i < length text → cuts cut p (get_or text i 0) ≡ false
    → behind (take i text) (parts cut p (drop i text)) ≡ parts cut outside text
    → behind (take (i + 1) text) (parts cut (place_after cut p (get_or text i 0)) (drop (i + 1) text)) ≡ parts cut outside text
longer cut p text i lt h so_far =
    ap (λ front. behind front (parts cut (place_after cut p (get_or text i 0)) (drop (i + 1) text))) (take_more text i 0 lt)
    ∙ stays cut p (take i text) (get_or text i 0) (drop (i + 1) text) h
    ∙ ap (λ bs. behind (take i text) (parts cut p bs)) (sym (drop_more text i 0 lt))
    ∙ so_far

-- a byte that is no blank, no tab and no quote stays outside, and cuts nothing
plain_cuts : (cut : Cut) (b : ℕ) → is_blank b ≡ false → cuts cut outside b ≡ false
plain_cuts AtBlanksAndTabs b h = h
plain_cuts AtBlanksOutsideQuotes b h = go (b == 32) (b == 9) h
  where
    go : (x y : Bool) → (x || y) ≡ false → (true && x) ≡ false
    go true y h = cc h
    go false y h = refl

plain_place : (cut : Cut) (b : ℕ) → (b == 34) ≡ false → place_after cut outside b ≡ outside
plain_place AtBlanksAndTabs b h = refl
plain_place AtBlanksOutsideQuotes b h = ap (λ (x : Bool). let p : Quoting = record { quoted = x; escaped = false } in p) h

pub plain_longer : (cut : Cut) (text : List ℕ) (i : ℕ) → i < length text → is_blank (get_or text i 0) ≡ false → (get_or text i 0 == 34) ≡ false
    → behind (take i text) (parts cut outside (drop i text)) ≡ parts cut outside text
    → behind (take (i + 1) text) (parts cut outside (drop (i + 1) text)) ≡ parts cut outside text
plain_longer cut text i lt blank quote so_far =
    ap (λ (p : Quoting). behind (take (i + 1) text) (parts cut p (drop (i + 1) text))) (sym (plain_place cut (get_or text i 0) quote))
    ∙ longer cut outside text i lt (plain_cuts cut (get_or text i 0) blank) so_far

pub no_quote : (b : ℕ) → (b ≡ 34 → ⊥) → (b == 34) ≡ false
no_quote b other = go (b == 34) refl
  where
    go : (x : Bool) → (b == 34) ≡ x → (b == 34) ≡ false
    go true e = absurd (other (eqb-true b 34 e))
    go false e = e

-- the pieces, where the first part is not empty
pub kept : (first : List ℕ) (others : List (List ℕ)) → 0 < length first → nonempty (first ∷ others) ≡ first ∷ nonempty others
kept [] others positive = absurd (omega arith)
kept (b ∷ bs) others positive = refl

cut_at : (cut : Cut) (p : Quoting) (text front : List ℕ) (b : ℕ) (bs : List ℕ) → 0 < length front → cuts cut p b ≡ true
    → behind front (parts cut p (b ∷ bs)) ≡ parts cut outside text
    → pieces cut text ≡ front ∷ pieces cut (b ∷ bs)
unfolding pieces
cut_at cut p text front b bs positive h so_far =
    let whole : front ++ [] ≡ front = append-nil front in
    let same : (front, (parts cut outside bs).0 ∷ (parts cut outside bs).1) ≡ parts cut outside text = rw (h, whole) at so_far in
    ap (λ (found : List ℕ × List (List ℕ)). nonempty (found.0 ∷ found.1)) (sym same)
    ∙ kept front ((parts cut outside bs).0 ∷ (parts cut outside bs).1) positive
    ∙ ap (λ (ps : List (List ℕ)). front ∷ ps) (sym (pieces_behind_cut cut b bs (cuts_outside cut p b h)))

-- the first piece ends at a cut
pub ends_at_cut : (cut : Cut) (p : Quoting) (text : List ℕ) (i : ℕ) → i < length text → 0 < i → cuts cut p (get_or text i 0) ≡ true
    → behind (take i text) (parts cut p (drop i text)) ≡ parts cut outside text
    → pieces cut text ≡ take i text ∷ pieces cut (drop i text)
ends_at_cut cut p text i lt positive h so_far =
    let here : drop i text ≡ get_or text i 0 ∷ drop (i + 1) text = drop_more text i 0 lt in
    let some : 0 < length (take i text) = omega (arith, length-take i text) in
    cut_at cut p text (take i text) (get_or text i 0) (drop (i + 1) text) some h (ap (λ bs. behind (take i text) (parts cut p bs)) (sym here) ∙ so_far)
    ∙ ap (λ bs. take i text ∷ pieces cut bs) (sym here)

begun_not_empty : (cut : Cut) (text : List ℕ) → BeginsPiece cut text → 0 < length text
begun_not_empty cut [] begins = absurd begins
begun_not_empty cut (b ∷ bs) begins = omega arith

all_one_piece : (cut : Cut) (text : List ℕ) → 0 < length text → (text ++ [], []) ≡ parts cut outside text → pieces cut text ≡ text ∷ []
unfolding pieces
all_one_piece cut text positive so_far =
    let same : (text, []) ≡ parts cut outside text = rw (append-nil text) at so_far in
    ap (λ (found : List ℕ × List (List ℕ)). nonempty (found.0 ∷ found.1)) (sym same) ∙ kept text [] positive

-- the first piece is all that is left
pub ends_at_end : (cut : Cut) (p : Quoting) (text : List ℕ) (i : ℕ) → BeginsPiece cut text → length text ≤ i
    → behind (take i text) (parts cut p (drop i text)) ≡ parts cut outside text
    → pieces cut text ≡ take (length text) text ∷ pieces cut (drop (length text) text)
ends_at_end cut p text i begins over so_far =
    let nothing : drop i text ≡ [] = drop_all i text over in
    let all : take i text ≡ text = take_all i text over in
    let same : (text ++ [], []) ≡ parts cut outside text = ap (λ t. behind t (parts cut p [])) (sym all) ∙ ap (λ t. behind (take i text) (parts cut p t)) (sym nothing) ∙ so_far in
    let whole : take (length text) text ≡ text = take_all (length text) text (omega arith) in
    let left : drop (length text) text ≡ [] = drop_all (length text) text (omega arith) in
    all_one_piece cut text (begun_not_empty cut text begins) same
    ∙ ap (λ t. t ∷ []) (sym whole)
    ∙ ap (λ ps. take (length text) text ∷ ps) (sym (ap (pieces cut) left ∙ no_pieces cut))

-- the first byte does not cut
pub not_at_once : (cut : Cut) (p : Quoting) (text : List ℕ) (i : ℕ) → BeginsPiece cut text → (i ≡ 0 → p ≡ outside) → cuts cut p (get_or text i 0) ≡ true → 0 < i
not_at_once cut p [] i begins first h = absurd begins
not_at_once cut p (b ∷ bs) zero begins first h =
    let at_outside : cuts cut outside b ≡ true = rw (first refl) at h in cc
not_at_once cut p (b ∷ bs) (suc i) begins first h = omega arith

-- bytes from the minus (45) to the nine (57) stay outside, and cut nothing
numeric_parts : (cut : Cut) (front rest : List ℕ) → ((k : ℕ) → k < length front → 45 ≤ get_or front k 0) → ((k : ℕ) → k < length front → get_or front k 0 ≤ 57)
    → behind front (parts cut outside rest) ≡ parts cut outside (front ++ rest)
numeric_parts cut [] rest low high = refl
numeric_parts cut (b ∷ bs) rest low high =
    let above : 45 ≤ b = low 0 (omega arith) in
    let below : b ≤ 57 = high 0 (omega arith) in
    rw (plain_cuts cut b (no_blank b above), plain_place cut b (no_quote b (λ is. absurd (omega (arith, above, is)))))
    (ap (λ (found : List ℕ × List (List ℕ)). let all : List ℕ × List (List ℕ) = (b ∷ found.0, found.1) in all)
    (numeric_parts cut bs rest (λ k lt. low (suc k) (omega (arith, lt))) (λ k lt. high (suc k) (omega (arith, lt)))))
  where
    no_blank : (c : ℕ) → 45 ≤ c → is_blank c ≡ false
    no_blank c above = grind (arith, nat_tests)

-- such bytes are the only piece, where nothing follows
pub piece_to_end : (cut : Cut) (front rest text : List ℕ) → text ≡ front ++ rest → rest ≡ [] → 0 < length front
    → ((k : ℕ) → k < length front → 45 ≤ get_or front k 0) → ((k : ℕ) → k < length front → get_or front k 0 ≤ 57)
    → pieces cut text ≡ front ∷ pieces cut rest
piece_to_end cut front rest text whole nothing some low high =
    let same : text ≡ front = whole ∙ ap (λ (l : List ℕ). front ++ l) nothing ∙ append-nil front in
    ap (pieces cut) same
    ∙ all_one_piece cut front some (numeric_parts cut front [] low high ∙ ap (parts cut outside) (append-nil front))
    ∙ ap (λ (ps : List (List ℕ)). front ∷ ps) (sym (ap (pieces cut) nothing ∙ no_pieces cut))

-- such bytes are the first piece, where a blank (32) follows
pub piece_in_front : (cut : Cut) (front rest left text : List ℕ) → text ≡ front ++ rest → rest ≡ 32 ∷ left → 0 < length front
    → ((k : ℕ) → k < length front → 45 ≤ get_or front k 0) → ((k : ℕ) → k < length front → get_or front k 0 ≤ 57)
    → pieces cut text ≡ front ∷ pieces cut left
piece_in_front cut front rest left text whole blank some low high =
    let same : text ≡ front ++ 32 ∷ left = whole ∙ ap (λ (l : List ℕ). front ++ l) blank in
    ap (pieces cut) same
    ∙ cut_at cut outside (front ++ 32 ∷ left) front 32 left some (blank_cuts cut) (numeric_parts cut front (32 ∷ left) low high)
    ∙ ap (λ (ps : List (List ℕ)). front ∷ ps) (pieces_behind_cut cut 32 left (blank_cuts cut))
  where
    blank_cuts : (cut : Cut) → cuts cut outside 32 ≡ true
    blank_cuts AtBlanksAndTabs = refl
    blank_cuts AtBlanksOutsideQuotes = refl
