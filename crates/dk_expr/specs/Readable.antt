-- What may stand behind a part, so that it is known where the part's text ends.
use Rattle.std.specs.Prelude.{◌==◌, ◌&&◌, ◌||◌, ℕ, Bool, true, false, not, nat_eq, nat_lt, List, [], ◌∷◌, codes}
use Rattle.std.specs.List.{starts_with}
use Rattle.std.specs.Str.{bytes_eq}
use Rattle.dk_base.specs.Pieces.{is_empty}
use Rattle.dk_print.specs.Parts.{Part, word, named, bound, values, null_or, remainder, modulus, lead, term, constant, step}

-- ---- texts
-- a blank (32), a comma (44) or a closing parenthesis (41)
abbrev pub ends_number : ℕ → Bool
ends_number b = b == 32 || (b == 44 || b == 41)

-- no byte, or first one that ends a number
abbrev pub begins_behind_number : List ℕ → Bool
begins_behind_number [] = true
begins_behind_number (b ∷ bytes) = ends_number b

abbrev pub begins_blank : List ℕ → Bool
begins_blank [] = true
begins_blank (b ∷ bytes) = b == 32

-- what is said of a hash code that is null
abbrev pub says_null : List ℕ → Bool
says_null text = bytes_eq text (codes " == null")

-- whether this may be the text of these parts
abbrev pub may_be : List Part → List ℕ → Bool
may_be [] rest = is_empty rest
may_be (word bytes ∷ parts) rest = starts_with nat_eq rest bytes
may_be (p ∷ parts) rest = begins_blank rest

-- ---- parts
-- a word that begins like this
abbrev pub begins_by : (List ℕ → Bool) → List Part → Bool
begins_by test [] = true
begins_by test (word [] ∷ parts) = false
begins_by test (word (b ∷ bytes) ∷ parts) = test (b ∷ bytes)
begins_by test (p ∷ parts) = false

-- what these parts say begins with a blank, if it isn't empty
abbrev pub begin_blank : List Part → Bool
begin_blank (values ∷ []) = true
begin_blank (null_or [] ∷ parts) = false
begin_blank (null_or (b ∷ bytes) ∷ parts) = b == 32
begin_blank (term role ∷ parts) = true
begin_blank (step ∷ parts) = true
begin_blank (constant ∷ parts) = begins_by begins_blank parts
begin_blank parts = false

abbrev pub ends_name : List Part → Bool
ends_name [] = true
ends_name (word bytes ∷ parts) = true
ends_name parts = begin_blank parts

-- what must stand behind a part, which is of one of so many roles; the first term is that of the first one
abbrev pub is_ended : ℕ → Part → List Part → Bool
is_ended arity (word bytes) parts = true
is_ended arity (named role) parts = nat_lt role arity && ends_name parts
is_ended arity bound parts = begins_by begins_behind_number parts
is_ended arity values parts = is_empty parts
is_ended arity (null_or bytes) parts = not (says_null bytes) && is_empty parts
is_ended arity remainder parts = begins_by begins_behind_number parts
is_ended arity modulus parts = begins_by begins_behind_number parts
is_ended arity (lead role) parts = role == 0 && (nat_lt role arity && ends_name parts)
is_ended arity (term role) parts = nat_lt role arity && ends_name parts
is_ended arity constant parts = begins_by begins_behind_number parts
is_ended arity step parts = begins_by begins_behind_number parts

abbrev pub are_ended : ℕ → List Part → Bool
are_ended arity [] = true
are_ended arity (p ∷ parts) = is_ended arity p parts && are_ended arity parts
