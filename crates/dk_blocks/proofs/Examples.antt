-- Small files that end in a blank line without LF, and some that don't.
use Rattle.std.proofs.Common.{◌≡◌, [], ◌∷◌, true, false, refl, codes, ◌++◌}
use Rattle.dk_lines.specs.Left.{lined}
use Rattle.dk_blocks.specs.LastLines.{LackBlank, ends_in_blank_line}

-- blanks and tabs alone, behind a line, behind a whole block, or as all there is; and a CR alone
blanks : ends_in_blank_line (codes "x" ++ 10 ∷ 32 ∷ 9 ∷ []) ≡ true
blanks = refl

behind_a_block : ends_in_blank_line (codes "x" ++ 10 ∷ 10 ∷ 32 ∷ []) ≡ true
behind_a_block = refl

all_blank : ends_in_blank_line (32 ∷ []) ≡ true
all_blank = refl

lone_cr : ends_in_blank_line (codes "x" ++ 10 ∷ 13 ∷ []) ≡ true
lone_cr = refl

-- One CR alone is no part of a line.
two_crs : ends_in_blank_line (codes "x" ++ 10 ∷ 13 ∷ 13 ∷ []) ≡ false
two_crs = refl

-- no line at all; a last line that isn't blank, a comment among these; and one that an LF ends, blank or not
nothing : ends_in_blank_line [] ≡ false
nothing = refl

last_line : ends_in_blank_line (codes "x" ++ 10 ∷ codes "1") ≡ false
last_line = refl

comment : ends_in_blank_line (codes "x" ++ 10 ∷ 10 ∷ codes "# no") ≡ false
comment = refl

whole_block : ends_in_blank_line (codes "x" ++ 10 ∷ 10 ∷ []) ≡ false
whole_block = refl

blanks_and_lf : ends_in_blank_line (codes "x" ++ 10 ∷ 32 ∷ 10 ∷ []) ≡ false
blanks_and_lf = refl

-- Where four bytes may come, the last two are such a line, and where three may, one of them is too many.
within_the_total : LackBlank (lined 9 4 0 true (codes "x" ++ 10 ∷ 32 ∷ 9 ∷ [])) (lined 9 4 0 false (codes "x" ++ 10 ∷ 32 ∷ 9 ∷ []))
unfolding lined
within_the_total = refl

past_the_total : LackBlank (lined 9 3 0 true (codes "x" ++ 10 ∷ 32 ∷ 9 ∷ [])) (lined 9 3 0 false (codes "x" ++ 10 ∷ 32 ∷ 9 ∷ [])) → ⊥
unfolding lined
past_the_total = λ lack. lack

-- Where no LF ends the last line, but it has words, the file's end alone ends it, and nothing of a blank line is left.
words_left : LackBlank (lined 9 9 0 true (codes "x")) (lined 9 9 0 false (codes "x")) → ⊥
unfolding lined
words_left = λ lack. absurd (cc (lack))
