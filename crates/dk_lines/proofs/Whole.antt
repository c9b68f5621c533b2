-- The lines of a file that keeps the limits.
use Rattle.std.proofs.Common.{◌≡◌, ◌≤◌, ◌+◌, ◌-◌, ℕ, suc, List, [], ◌∷◌, length, map, All, sum_by, inl, inr, Bool, true, false, ◌||◌, if◌then◌else◌, refl, ◌∙◌, ap, arith}
use Rattle.std.proofs.lemmas.Bool.{cases_eq}
use Rattle.std.proofs.lemmas.Bool.Decides.{nat_tests}
use Rattle.std.proofs.lemmas.List.Elements.{All-head, All-tail}
use Rattle.std.proofs.lemmas.List.Sums.{sum_by-cons}
use Rattle.dk_lines.specs.Laws.{WholeFileHasItsLines}
use Rattle.dk_lines.specs.Left.{Left, Next, Piece, onto_first, pieces, size_of, without_cr, numbered, is_long, is_over, lined_by, lined}
use Rattle.dk_lines.proofs.Lined.{pieces_lf, pieces_other}

size_onto : (b : ℕ) (ps : List Piece) → sum_by size_of (onto_first b ps) ≡ suc (sum_by size_of ps)
size_onto b [] = refl
size_onto b (p ∷ ps) = omega (arith, sum_by-cons size_of (record { bytes = b ∷ p.bytes; has_lf = p.has_lf }) ps, sum_by-cons size_of p ps)

-- the bytes of all pieces are those of the file
size_all : (bytes : List ℕ) → sum_by size_of (pieces bytes) ≡ length bytes
size_all [] = refl
size_all (b ∷ bs) = elim (cases_eq b 10) [
  | inl e ↦ ap (sum_by size_of) (pieces_lf b bs e) ∙ omega (arith, sum_by-cons size_of (record { bytes = []; has_lf = true }) (pieces bs), size_all bs)
  | inr n ↦ ap (sum_by size_of) (pieces_other b bs n) ∙ size_onto b (pieces bs) ∙ ap (λ (k : ℕ). suc k) (size_all bs)
]

not_long : (limit room : ℕ) (p : Piece) → length p.bytes ≤ limit → is_long limit room p ≡ false
not_long limit room p h = grind (arith, nat_tests)

not_over : (room : ℕ) (p : Piece) → size_of p ≤ room → is_over room p ≡ false
not_over room p h = grind (arith, nat_tests)

third : {X : Type 0} (b c d : Bool) (x y z w : X) → b ≡ false → c ≡ false → (if b then x else if c then y else if d || true then z else w) ≡ z
third true c d x y z w e f = absurd (cc (e))
third false true d x y z w e f = absurd (cc (f))
third false false true x y z w e f = refl
third false false false x y z w e f = refl

kept : (limit room n : ℕ) (ps : List Piece) → All (λ p. length p.bytes ≤ limit) ps → sum_by size_of ps ≤ room
    → lined_by limit room true n ps ≡ numbered n (map (λ (p : Piece). without_cr p.bytes) ps)
kept limit room n [] all sum = refl
kept limit room n (p ∷ ps) all sum =
    third (is_long limit room p) (is_over room p) p.has_lf _ _ _ _ (not_long limit room p (All-head (λ p. length p.bytes ≤ limit) p ps all)) (not_over room p (omega (arith, sum_by-cons size_of p ps)))
    ∙ ap (λ (l : Left). Next (record { number = n + 1; bytes = without_cr p.bytes }) l)
    (kept limit (room - size_of p) (n + 1) ps (All-tail (λ p. length p.bytes ≤ limit) p ps all) (omega (arith, sum_by-cons size_of p ps)))

pub whole_file : WholeFileHasItsLines
unfolding lined
whole_file limit room n bytes all fits = kept limit room n (pieces bytes) all (omega (arith, size_all bytes))
