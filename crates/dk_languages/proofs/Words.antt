-- The first word of a path, byte by byte.
use Rattle.std.proofs.Common.{◌≡◌, ◌<◌, ◌≤◌, ◌+◌, ℕ, true, false, List, length, drop, get_or}
use Rattle.std.proofs.lemmas.List.Sums.{prefix_len-drop_all, prefix_len-drop_no, prefix_len-drop_yes}
use Rattle.std.specs.List.{prefix_len}
use Rattle.dk_languages.specs.Bases.Paths.{is_word_byte}

pub word_ends : (bs : List ℕ) (i : ℕ) → length bs ≤ i → prefix_len is_word_byte (drop i bs) ≡ 0
word_ends bs i past = prefix_len-drop_all is_word_byte bs i past

pub word_stops : (bs : List ℕ) (i : ℕ) → i < length bs → is_word_byte (get_or bs i 0) ≡ false → prefix_len is_word_byte (drop i bs) ≡ 0
word_stops bs i within other = prefix_len-drop_no is_word_byte bs i 0 within other

pub word_goes_on : (bs : List ℕ) (i : ℕ) → i < length bs → is_word_byte (get_or bs i 0) ≡ true
    → prefix_len is_word_byte (drop i bs) ≡ 1 + prefix_len is_word_byte (drop (i + 1) bs)
word_goes_on bs i within same = prefix_len-drop_yes is_word_byte bs i 0 within same
