-- Lines of bytes, and what is left behind the first of them.
use Rattle.std.proofs.Common.{◌≡◌, ◌<◌, ◌+◌, ℕ, List, [], ◌∷◌, length, map, min, take, drop, inl, inr, refl, sym, ◌∙◌, ap, arith}
use Rattle.std.proofs.lemmas.Bool.{cases_lt}
use Rattle.std.proofs.lemmas.List.{take_all, drop_all}
use Rattle.dk_base.specs.Words.{trim_blanks}
use Rattle.dk_lines.specs.Cutting.{line_len}
use Rattle.dk_lines.specs.Left.{Piece, without_cr}
use Rattle.dk_lines.proofs.Cut.{len_le}
use Rattle.dk_lines.proofs.Lined.{with_lf, without_lf}
use Rattle.dk_turns.specs.Reading.{trimmed_lines}

abbrev of_pieces : List Piece → List (List ℕ)
of_pieces ps = map trim_blanks (map (λ (p : Piece). without_cr p.bytes) ps)

pub no_lines : trimmed_lines [] ≡ []
unfolding trimmed_lines
no_lines = refl

pub nothing_left : (xs : List ℕ) → xs ≡ [] → trimmed_lines xs ≡ []
nothing_left xs e = ap trimmed_lines e ∙ no_lines

with_end : (xs : List ℕ) → line_len xs < length xs
    → trimmed_lines xs ≡ trim_blanks (without_cr (take (line_len xs) xs)) ∷ trimmed_lines (drop (line_len xs + 1) xs)
unfolding trimmed_lines
with_end xs h = ap of_pieces (with_lf xs h)

without_end : (xs : List ℕ) → 0 < length xs → line_len xs ≡ length xs → trimmed_lines xs ≡ trim_blanks (without_cr xs) ∷ []
unfolding trimmed_lines
without_end [] h e = absurd (omega arith)
without_end (b ∷ bs) h e = ap of_pieces (without_lf (b ∷ bs) e)

-- the first line of bytes, and what is left behind it
pub first_line : (xs : List ℕ) (len behind : ℕ) → 0 < length xs → len ≡ line_len xs → behind ≡ min (length xs) (len + 1)
    → trimmed_lines xs ≡ trim_blanks (without_cr (take len xs)) ∷ trimmed_lines (drop behind xs)
first_line xs len behind h l b = elim (cases_lt (line_len xs) (length xs)) [
  | inl lt ↦
      let at : line_len xs + 1 ≡ behind = omega arith in
      with_end xs lt
      ∙ ap (λ (k : ℕ). trim_blanks (without_cr (take k xs)) ∷ trimmed_lines (drop (line_len xs + 1) xs)) (sym l)
      ∙ ap (λ (k : ℕ). trim_blanks (without_cr (take len xs)) ∷ trimmed_lines (drop k xs)) at
  | inr ge ↦
      let all : line_len xs ≡ length xs = omega (arith, len_le xs) in
      let bytes : take len xs ≡ xs = take_all len xs (omega arith) in
      let none : drop behind xs ≡ [] = drop_all behind xs (omega arith) in
      without_end xs h all
      ∙ ap (λ (ls : List (List ℕ)). trim_blanks (without_cr xs) ∷ ls) (sym no_lines)
      ∙ ap (λ (t : List ℕ). trim_blanks (without_cr t) ∷ trimmed_lines []) (sym bytes)
      ∙ ap (λ (t : List ℕ). trim_blanks (without_cr (take len xs)) ∷ trimmed_lines t) (sym none)
]
