-- Objects and arrays of lists, and their tokens one after another.
use Rattle.std.specs.Prelude.{◌≡◌, ◌++◌, ℕ, List, [], ◌∷◌, flat_map}
use Rattle.json.specs.Json.{Json, Items, Members, no_items, item, no_members, member}
use Rattle.json.specs.Token as token
use Rattle.json.specs.Token.{Token}
use Rattle.json.specs.Tree.{json_tokens}
use Rattle.json.specs.Written.{Written}

-- a key and its value
abbrev pub Field : Type 0
Field = List ℕ × Json

abbrev pub members_of : List Field → Members
members_of [] = no_members
members_of (f ∷ fs) = member f.0 f.1 (members_of fs)

abbrev pub items_of : List Json → Items
items_of [] = no_items
items_of (j ∷ js) = item j (items_of js)

-- ---- tokens
abbrev pub field_tokens : Field → List Token
field_tokens f = token.key f.0 ∷ json_tokens f.1

abbrev pub fields_tokens : List Field → List Token
fields_tokens fs = flat_map field_tokens fs

-- these tokens are written behind the others
pub record Adds (old new : Written) (added : List Token) : Type 0 where
  pub tokens : new.tokens ≡ old.tokens ++ added
  pub before : new.before ≡ old.before
