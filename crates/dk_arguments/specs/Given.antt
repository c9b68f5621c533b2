-- What was given for the arguments of a command, by their names.
use Rattle.std.specs.Prelude.{[], ℕ, Bool, List, Option, codes, false, option_and_then, unwrap_or}
use Rattle.std.specs.Option.{option_map_or}
use Rattle.std.specs.Str.{bytes_eq}
use Rattle.std.specs.Str.Parse.{without_leading_plus}
use Rattle.clap.specs.Words.{Row, Text, all_of, first_of, one_of}
use Rattle.dk_base.specs.Numbers.{natural_of}

-- the flag was given
abbrev pub is_given : Text → List Row → Bool
is_given name rows = option_map_or (λ text. bytes_eq text (codes "true")) (first_of name rows) false

-- the number under the name; it may have a plus in front
abbrev pub number_at : Text → List Row → Option ℕ
number_at name rows = option_and_then (λ text. natural_of (without_leading_plus text)) (one_of name rows)

-- the text under the name, the first where there are several
abbrev pub text_at : Text → List Row → Option Text
text_at name rows = first_of name rows

-- all texts under the name, in order
abbrev pub texts_at : Text → List Row → List Text
texts_at name rows = unwrap_or (all_of name rows) []
