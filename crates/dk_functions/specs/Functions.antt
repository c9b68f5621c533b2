-- The lines of a point as one function of Python, a macro of C, or a function of SMT-LIB.
use Rattle.std.specs.Prelude.{◌++◌, ℕ, List, [], Option, Some, None, codes, map, if◌then◌else◌}
use Rattle.std.specs.List.{join_by}
use Rattle.dk_base.specs.declared.kinds.VarInfo.{VarInfo}
use Rattle.dk_functions.specs.Parameters.{parameter_texts}
use Rattle.dk_functions.specs.Quoting.{quoted}
use Rattle.dk_languages.specs.Bases.Paths.{is_symbol_byte, is_word_byte}
use Rattle.dk_languages.specs.declared.languages.Language.{Language}
use Rattle.dk_languages.specs.declared.languages.Language.TheVariants as language

-- ---- what stands in front of all functions
abbrev pub preamble : Language → List ℕ
preamble language.Python = codes "from math import gcd\n\n\n"
preamble language.C = codes "#include \"dk_told.h\"\n\n"
preamble language.Smtlib = codes "(define-fun-rec dk_gcd ((a Int) (b Int)) Int (ite (= b 0) a (dk_gcd b (mod a b))))\n\n"

-- ---- a function
-- a byte of a name, or a low line (95)
abbrev pub word_byte : ℕ → ℕ
word_byte b = if is_word_byte b then b else 95

abbrev pub symbol_byte : ℕ → ℕ
symbol_byte b = if is_symbol_byte b then b else 95

-- the name of a point's function
abbrev pub function_name : Language → List ℕ → List ℕ
function_name language.Smtlib point = codes "|holds at " ++ map symbol_byte point ++ codes "|"
function_name l point = codes "holds_at_" ++ map word_byte point

-- texts with this between them
abbrev pub joined : List ℕ → List (List ℕ) → List ℕ
joined between texts = join_by (λ (text : List ℕ). text) between texts

-- where one of SMT-LIB begins, up to its parameters
abbrev pub smtlib_head : List ℕ → List ℕ
smtlib_head point = codes "; " ++ quoted point ++ codes "\n(define-fun " ++ function_name language.Smtlib point ++ codes " ("

-- where it begins; a macro of C speaks of the names that are in scope where it stands
abbrev pub opening : Language → List VarInfo → List ℕ → List ℕ
opening language.Python infos point =
    codes "def " ++ function_name language.Python point ++ codes "(" ++ joined (codes ", ") (parameter_texts language.Python infos)
    ++ codes "):\n    " ++ quoted point ++ codes "\n"
opening language.C infos point =
    codes "// " ++ quoted point ++ codes ", of " ++ joined (codes ", ") (parameter_texts language.C infos) ++ codes "\n#define "
    ++ function_name language.C point ++ codes "() do { \\\n"
opening language.Smtlib infos point =
    smtlib_head point ++ joined (codes " ") (parameter_texts language.Smtlib infos) ++ codes ") Bool (and true\n"

abbrev pub closing : Language → List ℕ
closing language.Python = codes "\n\n"
closing language.C = codes "} while (0)\n\n"
closing language.Smtlib = codes "))\n\n"

-- ---- its lines
-- a line of this text that the language says so
abbrev pub assertion : Language → List ℕ → List ℕ → List ℕ
assertion language.Python text expression = codes "    assert " ++ expression ++ codes ", " ++ quoted text ++ codes "\n"
assertion language.C text expression = codes "    dk_holds(" ++ quoted text ++ codes ", " ++ expression ++ codes "); \\\n"
assertion language.Smtlib text expression = codes "    " ++ expression ++ codes " ; " ++ quoted text ++ codes "\n"

-- one that it can't say
abbrev pub mark : Language → List ℕ
mark language.Python = codes "# not told: "
mark language.C = codes "// not told: "
mark language.Smtlib = codes "; not told: "

abbrev pub comment : Language → List ℕ → List ℕ
comment l text = mark l ++ quoted text ++ codes "\n"

-- what stands in front of the function for a line, and what stands in it
abbrev pub comment_if : Language → List ℕ → Option (List ℕ) → List ℕ
comment_if l text None = comment l text
comment_if l text (Some expression) = []

abbrev pub assertion_if : Language → List ℕ → Option (List ℕ) → List ℕ
assertion_if l text None = []
assertion_if l text (Some expression) = assertion l text expression
