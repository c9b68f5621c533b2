-- The base variables of a point in a language, and the parameters that they are told by.
pub mod Paths
pub mod Roots
use Rattle.std.specs.Prelude.{◌&&◌, ℕ, Bool, true, false, not, List, [], ◌∷◌, flat_map, map, if◌then◌else◌}
use Rattle.std.specs.Bool.{beq}
use Rattle.std.specs.List.{list_all}
use Rattle.std.specs.Str.{bytes_eq}
use Rattle.dk_base.specs.Shapes.{is_base_form, is_orig, is_sequence}
use Rattle.dk_base.specs.declared.kinds.VarInfo.{VarInfo}
use Rattle.dk_languages.specs.declared.variables.Base.{Base}
use Rattle.dk_languages.specs.declared.variables.Parameter.{Parameter}
use Rattle.dk_languages.specs.declared.languages.Language.{Language}
use Rattle.dk_languages.specs.declared.languages.Language.TheVariants as language
use Rattle.dk_languages.specs.Bases.Paths.{has_path, inner_name, path_name, path_text, root, root_text, size_text}

-- ---- parameters
-- what a root stands for: the first word of a path, and in SMT-LIB a variable
abbrev pub root_source : Language → VarInfo → List ℕ
root_source language.Smtlib info = inner_name info
root_source l info = root (path_name info)

abbrev pub root_parameter : Language → VarInfo → Parameter
root_parameter l info = record { name = root_text l info; source = root_source l info; is_orig = is_orig info.form; is_size = false }

abbrev pub size_parameter : Language → VarInfo → Parameter
size_parameter l info = record { name = size_text l info; source = inner_name info; is_orig = is_orig info.form; is_size = true }

-- Python asks a sequence for its size
abbrev pub takes_size : Language → VarInfo → Bool
takes_size language.Python info = false
takes_size l info = is_sequence info.kind

-- a base variable whose name the language can say
abbrev pub is_sayable : Language → VarInfo → Bool
is_sayable l info = is_base_form info.form && has_path l info

abbrev pub parameters_of : Language → VarInfo → List Parameter
parameters_of l info =
    if is_sayable l info
    then root_parameter l info ∷ (if takes_size l info then size_parameter l info ∷ [] else [])
    else []

-- the parameters of a point; one that several variables share comes again
abbrev pub parameters : Language → List VarInfo → List Parameter
parameters l infos = flat_map (parameters_of l) infos

-- ---- clashes
abbrev pub is_of_same : Parameter → Parameter → Bool
is_of_same p q = bytes_eq p.source q.source && (beq p.is_orig q.is_orig && beq p.is_size q.is_size)

-- one name for two things
abbrev pub clash : Parameter → Parameter → Bool
clash p q = bytes_eq p.name q.name && not (is_of_same p q)

abbrev pub is_clear : List Parameter → Parameter → Bool
is_clear others p = list_all (λ q. not (clash p q)) others

-- ---- base variables
-- the language can say the name, and none of these parameters, which are those of the point, is another thing by the same name
abbrev pub is_told : Language → List Parameter → VarInfo → Bool
is_told l others info = is_sayable l info && list_all (is_clear others) (parameters_of l info)

abbrev pub told_base : Language → VarInfo → Base
told_base l info = record { is_told = true; path = path_text l info; size = size_text l info }

abbrev pub base_of : Language → List Parameter → VarInfo → Base
base_of l others info = if is_told l others info then told_base l info else record { is_told = false; path = []; size = [] }

-- the variables of a point, in order; derived ones aren't told by themselves
abbrev pub bases : Language → List VarInfo → List Base
bases l infos = map (base_of l (parameters l infos)) infos
