-- Bytes as HTML.
use Rattle.std.specs.Prelude.{◌==◌, ◌/◌, ◌%◌, ◌||◌, ◌++◌, ℕ, nat_lt, Bool, List, [], ◌∷◌, chars, codes, flat_map, if◌then◌else◌}
use Rattle.std.specs.Char.{digit_char, encode_utf8}
use Rattle.std.specs.Int.{is_in_range}
use Rattle.std.specs.Str.{is_utf8}

-- a byte by its number, in an element of its own
abbrev pub numbered : ℕ → List ℕ
numbered b = codes "<var>\\x" ++ (digit_char (b / 16) ∷ digit_char (b % 16) ∷ []) ++ codes "</var>"

-- a character that isn't seen, or that turns round what follows
abbrev pub is_unseen : ℕ → Bool
is_unseen c =
    is_in_range 0 0x1F c || is_in_range 0x7F 0x9F c || c == 0x61C || is_in_range 0x200B 0x200F c || is_in_range 0x2028 0x202E c
    || is_in_range 0x2060 0x206F c || c == 0xFEFF

-- a character that HTML doesn't read specially
abbrev pub plain_char : ℕ → List ℕ
plain_char c = if is_unseen c then flat_map numbered (encode_utf8 c) else encode_utf8 c

-- a character, where a full stop (46) is written so; HTML reads & (38), < (60) and > (62) specially
abbrev pub shown_char : List ℕ → ℕ → List ℕ
shown_char stop c =
    if c == 46 then stop
    else if c == 38 then codes "&amp;"
    else if c == 60 then codes "&lt;"
    else if c == 62 then codes "&gt;"
    else plain_char c

-- a byte of what is no UTF-8
abbrev pub shown_byte : List ℕ → ℕ → List ℕ
shown_byte stop b = if nat_lt b 128 then shown_char stop b else numbered b

abbrev pub shown : List ℕ → List ℕ → List ℕ
shown stop bytes = if is_utf8 bytes then flat_map (shown_char stop) (chars bytes) else flat_map (shown_byte stop) bytes

abbrev pub shown_text : List ℕ → List ℕ
shown_text bytes = shown (codes ".") bytes

-- a name may be broken behind each full stop
abbrev pub shown_name : List ℕ → List ℕ
shown_name bytes = shown (codes ".<wbr>") bytes
