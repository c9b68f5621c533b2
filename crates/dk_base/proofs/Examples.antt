-- Small examples, computed from the definitions.
use Rattle.std.proofs.Common.{◌≡◌, ◌∷◌, [], pos, negsuc, true, Some, None, codes, refl}
use Rattle.dk_base.specs.Comparability.{comparable}
use Rattle.dk_base.specs.Names.{unescaped}
use Rattle.dk_base.specs.Numbers.{whole_of}
use Rattle.dk_base.specs.Pieces.{pieces}
use Rattle.dk_base.specs.Shapes.{shape, var, with_derived}
use Rattle.dk_base.specs.Values.{value_of_text}
use Rattle.dk_base.specs.Values.Items.{hash_code_of, hash_item, int_item, is_quoted, is_text, str_item}
use Rattle.dk_base.specs.Values.Sequences.{sequence}
use Rattle.dk_base.specs.Values.Spelling.{spelling}
use Rattle.dk_base.specs.Words.{rest_of_line, trim_blanks, words}
use Rattle.dk_base.specs.declared.kinds.Form.TheVariants as form
use Rattle.dk_base.specs.declared.kinds.Kind.TheVariants as kind
use Rattle.dk_base.specs.declared.values.Value.TheVariants as value

-- a code by its digits in either radix
hexadecimal : value_of_text kind.Hash (codes "0x1f") ≡ Some (value.Hash 31)
unfolding hash_item hash_code_of
hexadecimal = refl

decimal : value_of_text kind.Hash (codes "31") ≡ Some (value.Hash 31)
unfolding hash_item hash_code_of whole_of
decimal = refl

-- a text that is no number is no value
fraction : value_of_text kind.Int (codes "3.5") ≡ None
unfolding int_item whole_of
fraction = refl

-- a number that 64 bits do not hold is missing
too_large : value_of_text kind.Int (codes "9223372036854775808") ≡ Some value.Missing
unfolding int_item whole_of
too_large = refl

-- the second quote does not close, for a backslash takes it
strings : value_of_text kind.StrSeq (codes "[\"a\\\"]\" null \"b c\"]")
    ≡ Some (value.StrSeq (codes "\"a\\\"]\"" ∷ codes "null" ∷ codes "\"b c\"" ∷ []))
unfolding sequence pieces str_item is_text is_quoted
strings = refl

-- an item that is none makes the whole none, beside a missing one too
one_bad : value_of_text kind.IntSeq (codes "[1 missing x]") ≡ None
unfolding sequence pieces int_item whole_of
one_bad = refl

no_code : spelling (value.HashSeq (0 ∷ 0 ∷ [])) ≡ codes "[null null]"
no_code = refl

name : unescaped (codes "a\\_b\\\\_c\\d") ≡ codes "a b\\_c\\d"
unfolding unescaped
name = refl

line : words (trim_blanks (codes " \tparent  parent\tQ 1 ")) ≡ codes "parent" ∷ codes "parent" ∷ codes "Q" ∷ codes "1" ∷ []
unfolding pieces
line = refl

rest : rest_of_line (codes "constant \t 1 2") ≡ codes "1 2"
rest = refl

-- a sequence and a whole number give eight variables, in this order
derived : with_derived (shape kind.StrSeq form.Declared ∷ shape kind.Int form.Declared ∷ shape kind.Int form.Orig ∷ [])
    ≡ shape kind.StrSeq form.Declared
    ∷ shape kind.Int form.Declared
    ∷ shape kind.Int form.Orig
    ∷ shape kind.Int (form.Size (var 0))
    ∷ shape kind.Str (form.First (var 0))
    ∷ shape kind.Str (form.Last (var 0))
    ∷ shape kind.Str (form.At (var 0) (var 1))
    ∷ shape kind.StrSeq (form.Upto (var 0) (var 1))
    ∷ shape kind.StrSeq (form.Before (var 0) (var 1))
    ∷ shape kind.StrSeq (form.Since (var 0) (var 1))
    ∷ shape kind.StrSeq (form.After (var 0) (var 1))
    ∷ []
derived = refl

negative_goes_with_all : comparable (record { elem = negsuc 0; index = pos 3 }) (record { elem = pos 7; index = negsuc 0 }) ≡ true
negative_goes_with_all = refl

-- blanks in any number stand between items, and a minus in front of digits alone
items : value_of_text kind.IntSeq (codes "[ -1  20 007]") ≡ Some (value.IntSeq (negsuc 0 ∷ pos 20 ∷ pos 7 ∷ []))
unfolding sequence pieces int_item whole_of
items = refl
