-- The first word of a path in Python and C.
use Rattle.std.specs.Prelude.{◌||◌, ◌++◌, ℕ, nat_eq, Bool, false, List, [], ◌∷◌, codes, map, if◌then◌else◌}
use Rattle.std.specs.List.{list_any, starts_with}
use Rattle.std.specs.Str.{bytes_eq}
use Rattle.dk_languages.specs.declared.languages.Language.{Language}
use Rattle.dk_languages.specs.declared.languages.Language.TheVariants as language

unfoldable pub python_keywords : List (List ℕ)
python_keywords =
    map codes (
    "False" ∷ "None" ∷ "True" ∷ "and" ∷ "as" ∷ "assert" ∷ "async" ∷ "await" ∷ "break" ∷ "class" ∷ "continue"
    ∷ "def" ∷ "del" ∷ "elif" ∷ "else" ∷ "except" ∷ "finally" ∷ "for" ∷ "from" ∷ "global" ∷ "if" ∷ "import" ∷ "in"
    ∷ "is" ∷ "lambda" ∷ "nonlocal" ∷ "not" ∷ "or" ∷ "pass" ∷ "raise" ∷ "return" ∷ "try" ∷ "while" ∷ "with"
    ∷ "yield" ∷ []
    )

unfoldable pub c_keywords : List (List ℕ)
c_keywords =
    map codes (
    "alignas" ∷ "alignof" ∷ "asm" ∷ "auto" ∷ "bool" ∷ "break" ∷ "case" ∷ "char" ∷ "const" ∷ "constexpr"
    ∷ "continue" ∷ "default" ∷ "do" ∷ "double" ∷ "else" ∷ "enum" ∷ "extern" ∷ "false" ∷ "float" ∷ "for" ∷ "goto"
    ∷ "if" ∷ "inline" ∷ "int" ∷ "long" ∷ "nullptr" ∷ "register" ∷ "restrict" ∷ "return" ∷ "short" ∷ "signed"
    ∷ "sizeof" ∷ "static" ∷ "static_assert" ∷ "struct" ∷ "switch" ∷ "thread_local" ∷ "true" ∷ "typedef" ∷ "typeof"
    ∷ "typeof_unqual" ∷ "union" ∷ "unsigned" ∷ "void" ∷ "volatile" ∷ "while" ∷ []
    )

-- names that the rows use in Python
unfoldable pub python_names : List (List ℕ)
python_names =
    map codes (
    "abs" ∷ "all" ∷ "any" ∷ "element" ∷ "following" ∷ "gcd" ∷ "len" ∷ "max" ∷ "min" ∷ "partner" ∷ "reversed"
    ∷ "zip" ∷ []
    )

abbrev pub is_one_of : List (List ℕ) → List ℕ → Bool
is_one_of words word = list_any (bytes_eq word) words

-- SMT-LIB quotes its symbols
abbrev pub is_keyword : Language → List ℕ → Bool
is_keyword language.Python word = is_one_of python_keywords word
is_keyword language.C word = is_one_of c_keywords word
is_keyword language.Smtlib word = false

-- a name that has another meaning in the language, or may have one in what is told
abbrev pub is_taken : Language → List ℕ → Bool
is_taken language.Python word = is_keyword language.Python word || is_one_of python_names word
is_taken l word = is_keyword l word || starts_with nat_eq word (codes "dk_")

abbrev pub told_root : Language → List ℕ → List ℕ
told_root l root =
    if bytes_eq root (codes "this") then codes "self"
    else if bytes_eq root (codes "return") then codes "result"
    else if is_taken l root then root ++ codes "_"
    else root
