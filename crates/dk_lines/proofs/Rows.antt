-- Small files, line by line.
use Rattle.std.proofs.Common.{◌≡◌, ℕ, List, [], codes, true, false, refl}
use Rattle.dk_lines.specs.Left.{Left, Ends, Next, Over, Broken, LongLine, TooLong, lined}

-- a line in front of what follows
abbrev line : ℕ → List ℕ → Left → Left
line number bytes rest = Next (record { number = number; bytes = bytes }) rest

no_bytes : lined 4 10 0 true [] ≡ Ends (Over 1)
unfolding lined
no_bytes = refl

one_lf : lined 4 10 0 true (codes "\n") ≡ line 1 [] (Ends (Over 2))
unfolding lined
one_lf = refl

last_line_without_lf : lined 4 10 0 true (codes "ab\ncd") ≡ line 1 (codes "ab") (line 2 (codes "cd") (Ends (Over 3)))
unfolding lined
last_line_without_lf = refl

cut_off_in_a_line : lined 4 10 0 false (codes "ab\ncd") ≡ line 1 (codes "ab") (Ends Broken)
unfolding lined
cut_off_in_a_line = refl

one_cr_is_dropped : lined 4 10 0 true (codes "a\r\r\nb\r") ≡ line 1 (codes "a\r") (line 2 (codes "b") (Ends (Over 3)))
unfolding lined
one_cr_is_dropped = refl

long_line : lined 4 10 0 true (codes "abcd\nefghi") ≡ line 1 (codes "abcd") (Ends (LongLine 2))
unfolding lined
long_line = refl

cr_counts_for_the_limit : lined 4 10 0 true (codes "abcd\r\n") ≡ Ends (LongLine 1)
unfolding lined
cr_counts_for_the_limit = refl

too_long : lined 4 10 0 true (codes "ab\nab\nab\nab\n") ≡ line 1 (codes "ab") (line 2 (codes "ab") (line 3 (codes "ab") (Ends (TooLong 4))))
unfolding lined
too_long = refl

lf_is_too_many : lined 4 4 0 true (codes "abcd\n") ≡ Ends (TooLong 1)
unfolding lined
lf_is_too_many = refl

both_at_one_byte : lined 4 4 0 true (codes "abcde") ≡ Ends (LongLine 1)
unfolding lined
both_at_one_byte = refl

earlier_byte_first : lined 4 3 0 true (codes "abcde") ≡ Ends (TooLong 1)
unfolding lined
earlier_byte_first = refl
