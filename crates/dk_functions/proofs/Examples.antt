-- Texts of small functions.
use Rattle.std.proofs.Common.{◌≡◌, [], ◌∷◌, refl, codes}
use Rattle.dk_functions.specs.Functions.{assertion, comment, function_name, opening}
use Rattle.dk_functions.specs.Quoting.{quoted}
use Rattle.dk_languages.specs.declared.languages.Language.TheVariants.{C, Python, Smtlib}

-- a quote, a question mark, a line end and a byte that isn't ASCII
bytes : quoted (97 ∷ 34 ∷ 63 ∷ 10 ∷ 255 ∷ []) ≡ codes "\"a\\042\\077\\012\\377\""
bytes = refl

word : function_name Python (codes "R.push(int)") ≡ codes "holds_at_R_push_int_"
word = refl

symbol : function_name Smtlib (codes "R.push|int") ≡ codes "|holds at R.push_int|"
symbol = refl

-- a point without variables
head : opening Python [] (codes "P") ≡ codes "def holds_at_P():\n    \"P\"\n"
head = refl

line : assertion C (codes "x >= 1") (codes "dk_int(x) >= 1") ≡ codes "    dk_holds(\"x >= 1\", dk_int(x) >= 1); \\\n"
line = refl

unsaid : comment Smtlib (codes "f(x) >= 1") ≡ codes "; not told: \"f(x) >= 1\"\n"
unsaid = refl
