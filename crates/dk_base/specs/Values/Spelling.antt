-- The one text that saving writes for a value.
use Rattle.std.specs.Prelude.{◌==◌, ◌<◌, ◌^◌, ◌++◌, ℕ, Bool, false, List, All, IsTrue, codes, map, if◌then◌else◌}
use Rattle.std.specs.Fmt.{digits, signed_decimal}
use Rattle.std.specs.List.{join_with_byte}
use Rattle.dk_base.specs.Numbers.{fits_i64}
use Rattle.dk_base.specs.Values.Items.{is_text}
use Rattle.dk_base.specs.declared.values.Value.{Value}
use Rattle.dk_base.specs.declared.values.Value.TheVariants as value

abbrev pub bool_text : Bool → List ℕ
bool_text b = if b then codes "true" else codes "false"

-- `null` for 0, and else `0x` and hexadecimal digits in lower case without leading zeros
abbrev pub hash_text : ℕ → List ℕ
hash_text n = if n == 0 then codes "null" else codes "0x" ++ digits 16 false n

-- single blanks (32) between the items, and brackets round them
abbrev pub sequence_text : List (List ℕ) → List ℕ
sequence_text items = codes "[" ++ (join_with_byte 32 items ++ codes "]")

-- the text of a value; numbers are decimal without leading zeros, and a string is its own text
abbrev pub spelling : Value → List ℕ
spelling value.Missing = codes "missing"
spelling (value.Bool b) = bool_text b
spelling (value.Int z) = signed_decimal z
spelling (value.Hash n) = hash_text n
spelling (value.Str s) = s
spelling (value.BoolSeq bs) = sequence_text (map bool_text bs)
spelling (value.IntSeq zs) = sequence_text (map signed_decimal zs)
spelling (value.HashSeq ns) = sequence_text (map hash_text ns)
spelling (value.StrSeq ss) = sequence_text ss

-- a value that some text writes: its numbers have 64 bits, and each of its strings is the text of one
abbrev pub IsWritten : Value → Type 0
IsWritten value.Missing = Unit {0}
IsWritten (value.Bool b) = Unit {0}
IsWritten (value.Int z) = IsTrue (fits_i64 z)
IsWritten (value.Hash n) = n < 2 ^ 64
IsWritten (value.Str s) = IsTrue (is_text s)
IsWritten (value.BoolSeq bs) = Unit {0}
IsWritten (value.IntSeq zs) = All (λ z. IsTrue (fits_i64 z)) zs
IsWritten (value.HashSeq ns) = All (λ n. n < 2 ^ 64) ns
IsWritten (value.StrSeq ss) = All (λ s. IsTrue (is_text s)) ss
