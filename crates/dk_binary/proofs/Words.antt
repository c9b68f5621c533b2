-- Texts that are told apart by words of eight bytes.
use Rattle.std.specs.Prelude.{◌≡◌, ◌↔◌, ◌≤◌, ◌+◌, ◌-◌, ◌&&◌, ℕ, Bool, true, IsTrue, List, ◌++◌, drop, length, refl, take}
use Rattle.std.specs.Str.{bytes_eq}
use Rattle.std.proofs.Common.{ap, arith, sym, ◌∙◌}
use Rattle.std.proofs.lemmas.Bool.{and_parts}
use Rattle.std.proofs.lemmas.Bool.Decides.{same_from_decides}
use Rattle.std.proofs.lemmas.List.{drop-drop, take-append-drop}
use Rattle.std.proofs.lemmas.Slice.Eq.{bytes_eq-Decides}

-- what follows the first eight is a part of the last eight
rest : (n : ℕ) (xs : List ℕ) → length xs ≡ n → 8 ≤ n → n ≤ 16 → drop 8 xs ≡ drop (16 - n) (drop (n - 8) xs)
rest n xs long enough few = let e : 8 ≡ n - 8 + (16 - n) = omega arith in ap (λ k. drop k xs) e ∙ sym (drop-drop (16 - n) (n - 8) xs)

-- texts of eight to sixteen bytes are equal where their first and their last eight bytes are
pub ends_tell : (xs ys : List ℕ) → length xs ≡ length ys → 8 ≤ length xs → length xs ≤ 16 → {x y z w : List ℕ} → x ≡ take 8 xs → y ≡ take 8 ys
    → z ≡ drop (length xs - 8) xs → w ≡ drop (length ys - 8) ys → {s t : Bool} → IsTrue s ↔ (x ≡ y) → IsTrue t ↔ (z ≡ w) → (s && t) ≡ bytes_eq xs ys
ends_tell xs ys long enough few xf yf zl wl {s} {t} first last =
    same_from_decides {P = xs ≡ ys} (s && t) (bytes_eq xs ys) (to, from) (bytes_eq-Decides xs ys)
  where
    to : (s && t) ≡ true → xs ≡ ys
    to h =
        let both = and_parts s t h in
        let front : take 8 xs ≡ take 8 ys = sym xf ∙ first.0 both.0 ∙ yf in
        let behind : drop 8 xs ≡ drop 8 ys =
        rest (length xs) xs refl enough few ∙ ap (drop (16 - length xs)) (sym zl ∙ last.0 both.1 ∙ wl) ∙ ap (λ n. drop (16 - n) (drop (length ys - 8) ys)) long
        ∙ sym (rest (length ys) ys refl (omega (arith, long)) (omega (arith, long))) in
        sym (take-append-drop 8 xs) ∙ ap (λ l. l ++ drop 8 xs) front ∙ ap (λ l. take 8 ys ++ l) behind ∙ take-append-drop 8 ys

    from : xs ≡ ys → (s && t) ≡ true
    from e = ap (λ b. b && t) (first.1 (xf ∙ ap (take 8) e ∙ sym yf)) ∙ last.1 (zl ∙ ap (λ l. drop (length l - 8) l) e ∙ sym wl)
