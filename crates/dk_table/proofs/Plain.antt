-- Bytes that are told as they stand.
use Rattle.std.proofs.Common.{◌≡◌, ◌∙◌, ◌==◌, ◌||◌, ◌∷◌, ◌++◌, [], ℕ, Bool, true, false, List, flat_map, refl, ap, if◌then◌else◌}
use Rattle.std.specs.Prelude.{not}
use Rattle.std.specs.List.{list_all}
use Rattle.std.proofs.lemmas.Bool.{and_parts}
use Rattle.dk_table.specs.Columns.Cells.{is_plain, quoted_byte}

none_of : (p q r s t : Bool) (a b c d e f : List ℕ) → not (p || q || r || s || t) ≡ true
    → (if p then a else if q then b else if r then c else if s then d else if t then e else f) ≡ f
none_of true q r s t a b c d e f h = absurd (cc h)
none_of false true r s t a b c d e f h = absurd (cc h)
none_of false false true s t a b c d e f h = absurd (cc h)
none_of false false false true t a b c d e f h = absurd (cc h)
none_of false false false false true a b c d e f h = absurd (cc h)
none_of false false false false false a b c d e f h = refl

plain_byte : (b : ℕ) → is_plain b ≡ true → quoted_byte b ≡ b ∷ []
plain_byte b h =
    none_of (b == 34) (b == 92) (b == 10) (b == 13) (b == 9) (92 ∷ 34 ∷ []) (92 ∷ 92 ∷ []) (92 ∷ 110 ∷ []) (92 ∷ 114 ∷ []) (92 ∷ 116 ∷ []) (b ∷ []) h

pub plain_bytes : (bytes : List ℕ) → list_all is_plain bytes ≡ true → flat_map quoted_byte bytes ≡ bytes
plain_bytes [] h = refl
plain_bytes (b ∷ bytes) h =
    let parts = and_parts (is_plain b) (list_all is_plain bytes) h in
    ap (λ (l : List ℕ). l ++ flat_map quoted_byte bytes) (plain_byte b parts.0) ∙ ap (λ (l : List ℕ). b ∷ l) (plain_bytes bytes parts.1)
