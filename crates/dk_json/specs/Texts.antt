-- Bytes, numbers and what may be missing as JSON.
use Rattle.std.specs.Prelude.{ℕ, ℤ, List, Option, Some, None, decimal, map, if◌then◌else◌}
use Rattle.std.specs.Fmt.{signed_decimal}
use Rattle.std.specs.Str.{is_utf8}
use Rattle.json.specs.Json.{Json, null, number, string, array}
use Rattle.dk_json.specs.Trees.{items_of}

abbrev pub number_json : ℤ → Json
number_json z = number (signed_decimal z)

abbrev pub natural_json : ℕ → Json
natural_json n = number (decimal n)

-- a string; bytes that are no UTF-8 are the list of their numbers
abbrev pub text_json : List ℕ → Json
text_json bytes = if is_utf8 bytes then string bytes else array (items_of (map natural_json bytes))

-- a number, or null
abbrev pub optional_json : Option ℕ → Json
optional_json None = null
optional_json (Some n) = natural_json n
