-- What a list shows at a place, and past its end.
use Rattle.std.proofs.Common.{◌≡◌, ◌<◌, ◌≤◌, ◌∙◌, ℕ, List, length, map, get_or, sym, ap, subst}
use Rattle.std.proofs.lemmas.List.{get_or-map, get_or_past, length-map}

module _ {X Y : Type 0} (show : X → Y) (items : List X) (n : ℕ) (none : Y) where
  pub shown_there : (x : X) → n < length items → x ≡ get_or items n x → show x ≡ get_or (map show items) n none
  shown_there x within is = ap show is ∙ sym (get_or-map show items n x none within)

  pub shown_past : length items ≤ n → none ≡ get_or (map show items) n none
  shown_past past = sym (get_or_past (map show items) n none (subst (λ k. k ≤ n) (sym (length-map items show)) past))
