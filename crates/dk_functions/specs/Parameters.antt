-- The parameters of a point's function.
use Rattle.std.specs.Prelude.{◌++◌, ℕ, Bool, List, [], ◌∷◌, codes, flat_map, fold, map, if◌then◌else◌}
use Rattle.std.specs.List.{list_any}
use Rattle.std.specs.Str.{bytes_eq}
use Rattle.dk_base.specs.declared.kinds.Kind.{Kind}
use Rattle.dk_base.specs.declared.kinds.Kind.TheVariants as kind
use Rattle.dk_base.specs.declared.kinds.VarInfo.{VarInfo}
use Rattle.dk_languages.specs.Bases.{parameters}
use Rattle.dk_languages.specs.declared.languages.Language.{Language}
use Rattle.dk_languages.specs.declared.languages.Language.TheVariants as language
use Rattle.dk_languages.specs.declared.variables.Parameter.{Parameter}

-- the sort of a variable of a kind in SMT-LIB
abbrev pub sort_of : Kind → List ℕ
sort_of kind.Bool = codes "Bool"
sort_of kind.Int = codes "Int"
sort_of kind.Hash = codes "Int"
sort_of kind.Str = codes "String"
sort_of kind.BoolSeq = codes "(Array Int Bool)"
sort_of kind.IntSeq = codes "(Array Int Int)"
sort_of kind.HashSeq = codes "(Array Int Int)"
sort_of kind.StrSeq = codes "(Array Int String)"

abbrev pub parameter_sort : Kind → Parameter → List ℕ
parameter_sort k p = if p.is_size then codes "Int" else sort_of k

-- a parameter that variables of this kind are told by: its name, in SMT-LIB with its sort
abbrev pub parameter_text : Language → Kind → Parameter → List ℕ
parameter_text language.Smtlib k p = codes "(" ++ p.name ++ codes " " ++ parameter_sort k p ++ codes ")"
parameter_text l k p = p.name

-- those of one variable
abbrev pub texts_of : Language → VarInfo → List (List ℕ)
texts_of l info = map (parameter_text l info.kind) (parameters l (info ∷ []))

-- one text more, if it isn't there
abbrev pub with_text : List (List ℕ) → List ℕ → List (List ℕ)
with_text texts text = if list_any (bytes_eq text) texts then texts else texts ++ text ∷ []

-- those of all variables, in order, each once
abbrev pub parameter_texts : Language → List VarInfo → List (List ℕ)
parameter_texts l infos = fold with_text [] (flat_map (texts_of l) infos)
