-- Bitmaps one after another.
use Rattle.std.proofs.Common.{◌≡◌, ◌+◌, ◌++◌, ◌∙◌, ℕ, Bool, List, [], ◌∷◌, arith, ap, sym, subst, inl, inr, get_or}
use Rattle.std.specs.Global.{Vec}
use Rattle.std.proofs.lemmas.Bool.{cases_lt}
use Rattle.std.proofs.lemmas.List.{get_or_append_left, get_or_push, length_push}
use Rattle.dk_presence.specs.declared.held.Held.{Held}
use Rattle.dk_bitmaps.specs.Bitmaps.{AreMaps, IsBitmap}

-- one bitmap more
pub maps_more : (held : List Held) (test : ℕ → Held → Bool) (k : ℕ) (maps : List (Vec ℕ)) (map : Vec ℕ) → AreMaps held test k maps → IsBitmap held (test k) map.items
    → AreMaps held test (k + 1) (maps ++ map ∷ [])
maps_more held test k maps map are is = record {
  long = length_push maps map ∙ ap (λ n. n + 1) are.long;
  each = λ i d l. elim (cases_lt i k) as (λ _. IsBitmap held (test i) (get_or (maps ++ map ∷ []) i d).items) [
    | inl before ↦
        subst (λ (m : Vec ℕ). IsBitmap held (test i) m.items) (sym (get_or_append_left maps (map ∷ []) d i (omega (arith, before, are.long)))) (are.each i d before)
    | inr past ↦
        (let here : i ≡ k = omega (arith, past, l) in
        subst (λ (m : Vec ℕ). IsBitmap held (test i) m.items) (sym (get_or_push maps map d i (are.long ∙ sym here)))
        (subst (λ n. IsBitmap held (test n) map.items) (sym here) is))
  ];
}
