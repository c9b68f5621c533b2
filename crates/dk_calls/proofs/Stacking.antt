-- The places of a point's entries on the stack.
use Rattle.std.proofs.Common.{◌≡◌, ◌∙◌, ◌<◌, ◌==◌, ◌++◌, ℕ, suc, Bool, true, false, cond, List, [], ◌∷◌, length, map, reverse, get_or, find, nat_eq, Option, Some, None, option_map, refl, sym, ap, subst, if◌then◌else◌, arith}
use Rattle.std.proofs.lemmas.Bool.{eqb-true}
use Rattle.std.proofs.Math.ListN.{get_or-append}
use Rattle.std.proofs.lemmas.List.{length-reverse, reverse-append}
use Rattle.std.proofs.Math.Seq.{get_or-append_seam}
use Rattle.std.specs.Map.{update}
use Rattle.dk_calls.specs.Links.{IsLinked, last_place, plain_of}
use Rattle.dk_calls.specs.Stacks.{Plain, is_at}
use Rattle.dk_calls.specs.declared.stack.Placed.{Placed}

reversed : (w : Placed) (ws : List Placed) → reverse (w ∷ ws) ≡ reverse ws ++ w ∷ []
reversed w ws = reverse-append (w ∷ []) ws

pub on_top : (ws : List Placed) (w : Placed) → reverse (ws ++ w ∷ []) ≡ w ∷ reverse ws
on_top ws w = reverse-append ws (w ∷ [])

-- a place is one of the stack
pub last_place_within : (point : ℕ) (ws : List Placed) (i : ℕ) → last_place point ws ≡ Some i → i < length ws
last_place_within point [] i at = cc at
last_place_within point (w ∷ ws) i at = by (w.point == point) at (last_place_within point ws i)
  where
    by : (b : Bool) → (if b then Some (length ws) else last_place point ws) ≡ Some i → (last_place point ws ≡ Some i → i < length ws) → i < suc (length ws)
    by true h below = let same : length ws ≡ i = cc h in omega arith
    by false h below = let lt : i < length ws = below h in omega arith

-- the point's latest entry
pub latest_found : (point : ℕ) (ws : List Placed) (i : ℕ) (d : Placed) → last_place point ws ≡ Some i
    → option_map (λ (w : Plain). w.values) (find (is_at point) (map plain_of ws)) ≡ Some (get_or (reverse ws) i d).values
latest_found point [] i d at = cc at
latest_found point (w ∷ ws) i d at = by (w.point == point) at (latest_found point ws i d)
  where
    by : (b : Bool) → (if b then Some (length ws) else last_place point ws) ≡ Some i
        → (last_place point ws ≡ Some i → option_map (λ (w : Plain). w.values) (find (is_at point) (map plain_of ws)) ≡ Some (get_or (reverse ws) i d).values)
        → option_map (λ (w : Plain). w.values) (if b then Some (plain_of w) else find (is_at point) (map plain_of ws)) ≡ Some (get_or (reverse (w ∷ ws)) i d).values
    by true h below =
        let place : length (reverse ws) ≡ i = length-reverse ws ∙ cc h in
        let here : get_or (reverse (w ∷ ws)) i d ≡ w =
        ap (λ (xs : List Placed). get_or xs i d) (reversed w ws) ∙ ap (λ (k : ℕ). get_or (reverse ws ++ w ∷ []) k d) (sym place) ∙ get_or-append_seam (reverse ws) w [] d in
        ap (λ (v : Placed). Some v.values) (sym here)
    by false h below =
        let lt : i < length (reverse ws) = subst (λ (n : ℕ). i < n) (sym (length-reverse ws)) (last_place_within point ws i h) in
        let there : get_or (reverse (w ∷ ws)) i d ≡ get_or (reverse ws) i d =
        ap (λ (xs : List Placed). get_or xs i d) (reversed w ws) ∙ get_or-append (reverse ws) (w ∷ []) d i lt in
        below h ∙ ap (λ (v : Placed). Some v.values) (sym there)

pub none_found : (point : ℕ) (ws : List Placed) → last_place point ws ≡ None → find (is_at point) (map plain_of ws) ≡ None
none_found point [] at = refl
none_found point (w ∷ ws) at = by (w.point == point) at (none_found point ws)
  where
    by : (b : Bool) → (if b then Some (length ws) else last_place point ws) ≡ None → (last_place point ws ≡ None → find (is_at point) (map plain_of ws) ≡ None)
        → (if b then Some (plain_of w) else find (is_at point) (map plain_of ws)) ≡ None
    by true h below = cc h
    by false h below = below h

-- below the entry on top
pub linked_below : (w : Placed) (ws : List Placed) → IsLinked (w ∷ ws) → IsLinked ws
linked_below w ws linked = λ (i : ℕ) (v : Placed) at. linked (suc i) v at

-- without the entry on top the latest place of its point is the one that it has below it
pub latest_below : (w : Placed) (ws : List Placed) (old new : ℕ → Option ℕ) → IsLinked (w ∷ ws) → ((q : ℕ) → old q ≡ last_place q (w ∷ ws))
    → ((q : ℕ) → new q ≡ update nat_eq old w.point w.below q) → (q : ℕ) → new q ≡ last_place q ws
latest_below w ws old new linked are step q = step q ∙ by (nat_eq w.point q) refl (are q)
  where
    by : (b : Bool) → nat_eq w.point q ≡ b → old q ≡ (if b then Some (length ws) else last_place q ws) → cond b w.below (old q) ≡ last_place q ws
    by true same h = let P : ℕ → Type 0 = λ p. w.below ≡ last_place p ws in
        let equal : w.point ≡ q = eqb-true w.point q same in subst P equal (linked 0 w refl)
    by false same h = h
