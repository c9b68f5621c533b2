-- Names as paths: words with `.` (46) or `->` (45, 62) between them.
use Rattle.std.specs.Prelude.{◌==◌, ◌&&◌, ◌||◌, ◌++◌, ◌-◌, ℕ, nat_eq, nat_le, Bool, true, false, not, List, [], ◌∷◌, codes, drop, flat_map, fold, length, map, take, if◌then◌else◌}
use Rattle.std.specs.List.{ends_with, list_all, prefix_len, starts_with}
use Rattle.std.specs.Str.{bytes_eq}
use Rattle.dk_base.specs.Shapes.{is_orig, is_sequence}
use Rattle.dk_base.specs.Words.{words}
use Rattle.dk_base.specs.declared.kinds.VarInfo.{VarInfo}
use Rattle.dk_languages.specs.declared.languages.Language.{Language}
use Rattle.dk_languages.specs.declared.languages.Language.TheVariants as language
use Rattle.dk_languages.specs.declared.variables.paths.Place.{Place}
use Rattle.dk_languages.specs.declared.variables.paths.Place.TheVariants.{Begin, Word, Dash, Broken}
use Rattle.dk_languages.specs.Bases.Roots.{is_keyword, told_root}

-- ---- the name of a base variable
-- of orig(N) it is N
abbrev pub inner_name : VarInfo → List ℕ
inner_name info = if is_orig info.form then take (length info.name - 6) (drop 5 info.name) else info.name

-- without a final `[..]` or `[]`
abbrev pub stem : List ℕ → List ℕ
stem name =
    if ends_with nat_eq name (codes "[..]") then take (length name - 4) name
    else if ends_with nat_eq name (codes "[]") then take (length name - 2) name
    else name

-- of a sequence without its brackets
abbrev pub path_name : VarInfo → List ℕ
path_name info = if is_sequence info.kind then stem (inner_name info) else inner_name info

-- ---- paths
abbrev pub is_letter : ℕ → Bool
is_letter b = (nat_le 97 b && nat_le b 122) || ((nat_le 65 b && nat_le b 90) || b == 95)

abbrev pub is_word_byte : ℕ → Bool
is_word_byte b = is_letter b || (nat_le 48 b && nat_le b 57)

abbrev pub after_byte : Place → ℕ → Place
after_byte Begin b = if is_letter b then Word else Broken
after_byte Word b = if is_word_byte b then Word else if b == 46 then Begin else if b == 45 then Dash else Broken
after_byte Dash b = if b == 62 then Begin else Broken
after_byte Broken b = Broken

abbrev pub is_in_word : Place → Bool
is_in_word Word = true
is_in_word p = false

abbrev pub is_path : List ℕ → Bool
is_path name = is_in_word (fold after_byte Begin name)

-- the first word, and what stands behind it
abbrev pub root : List ℕ → List ℕ
root path = take (prefix_len is_word_byte path) path

abbrev pub behind_root : List ℕ → List ℕ
behind_root path = drop (prefix_len is_word_byte path) path

-- with blanks (32) for all that is no word
abbrev pub spaced : List ℕ → List ℕ
spaced text = map (λ b. if is_word_byte b then b else 32) text

-- no word behind the root is a keyword
abbrev pub has_free_words : Language → List ℕ → Bool
has_free_words l path = list_all (λ w. not (is_keyword l w)) (words (spaced (behind_root path)))

-- ---- in the languages
-- `.` for `->`
abbrev pub dotted : List ℕ → List ℕ
dotted path = flat_map (λ b. if b == 45 then [] else if b == 62 then 46 ∷ [] else b ∷ []) path

-- what `this` points to
abbrev pub pointed : List ℕ → List ℕ
pointed path =
    if bytes_eq (root path) (codes "this") && starts_with nat_eq (behind_root path) (codes ".")
    then codes "->" ++ drop 1 (behind_root path) else behind_root path

-- what a variable had at the entry
abbrev pub old_prefix : VarInfo → List ℕ
old_prefix info = if is_orig info.form then codes "old_" else []

-- a byte that a quoted symbol may have: no bar (124), no backslash (92) and no control byte
abbrev pub is_symbol_byte : ℕ → Bool
is_symbol_byte b = nat_le 32 b && (not (b == 127) && (not (b == 124) && not (b == 92)))

-- a path without a keyword behind its root
abbrev pub is_free_path : Language → List ℕ → Bool
is_free_path l name = is_path name && has_free_words l name

-- the language can say the name
abbrev pub has_path : Language → VarInfo → Bool
has_path language.Smtlib info = list_all is_symbol_byte info.name
has_path l info = is_free_path l (path_name info)

-- the first word of the path, as it is told
abbrev pub word_text : Language → VarInfo → List ℕ
word_text l info = old_prefix info ++ told_root l (root (path_name info))

-- a variable's root in Python and C, and its symbol in SMT-LIB
abbrev pub root_text : Language → VarInfo → List ℕ
root_text language.Smtlib info = codes "|$" ++ info.name ++ codes "|"
root_text l info = word_text l info

abbrev pub path_text : Language → VarInfo → List ℕ
path_text language.Python info = root_text language.Python info ++ dotted (behind_root (path_name info))
path_text language.C info = root_text language.C info ++ pointed (path_name info)
path_text language.Smtlib info = root_text language.Smtlib info

-- the number of a sequence's elements
abbrev pub size_text : Language → VarInfo → List ℕ
size_text language.Python info = codes "len(" ++ path_text language.Python info ++ codes ")"
size_text language.C info = codes "size_" ++ map (λ b. if is_word_byte b then b else 95) (path_text language.C info)
size_text language.Smtlib info = codes "|$size(" ++ info.name ++ codes ")|"
