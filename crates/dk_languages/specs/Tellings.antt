-- What a line of a report says, as an expression of a language.
use Rattle.std.specs.Prelude.{◌&&◌, ◌++◌, ℕ, Bool, not, List, [], ◌∷◌, Option, Some, None, codes, flat_map, fold, map, zip, if◌then◌else◌}
use Rattle.std.specs.List.{join_by, list_all}
use Rattle.dk_base.specs.Pieces.{is_empty}
use Rattle.dk_base.specs.declared.kinds.VarId.{VarId}
use Rattle.dk_base.specs.declared.kinds.VarInfo.{VarInfo}
use Rattle.dk_forms.specs.declared.states.State.{State}
use Rattle.dk_template.specs.declared.grammar.RowId.{RowId}
use Rattle.dk_languages.specs.Holes.{filled}
use Rattle.dk_languages.specs.Literals.{can_say, literals}
use Rattle.dk_languages.specs.Literals.Numbers.{number_in, number_text}
use Rattle.dk_languages.specs.Rows.{row_in, separator_in, value_in}
use Rattle.dk_languages.specs.Speaking.{is_spoken, spoken}
use Rattle.dk_languages.specs.declared.variables.Base.{Base}
use Rattle.dk_languages.specs.declared.fillings.Filling.{Filling}
use Rattle.dk_languages.specs.declared.languages.Language.{Language}
use Rattle.dk_languages.specs.declared.languages.Language.TheVariants as language
use Rattle.dk_languages.specs.declared.speaking.Spoken.{Spoken}

abbrev pub filling : ℕ → List ℕ → Filling
filling letter text = record { letter = letter; text = text }

-- the letters of a role's value, start and end, by role: X, Y and Z, F, G and H, T, U and V
abbrev pub role_letters : List (ℕ × ℕ × ℕ)
role_letters = (88, 70, 84) ∷ (89, 71, 85) ∷ (90, 72, 86) ∷ []

abbrev pub role_fillings : (ℕ × ℕ × ℕ) × Spoken → List Filling
role_fillings s = filling s.0.0 s.1.value ∷ filling s.0.1 s.1.start ∷ filling s.0.2 s.1.end ∷ []

abbrev pub roles_fillings : List Spoken → List Filling
roles_fillings roles = flat_map role_fillings (zip role_letters roles)

-- the numbers of the state: A, B, C and D
abbrev pub number_filling : Language → State → ℕ → ℕ → Filling
number_filling l s letter place = filling letter (number_text l (number_in s place))

abbrev pub number_fillings : Language → State → List Filling
number_fillings l s = number_filling l s 65 0 ∷ number_filling l s 66 1 ∷ number_filling l s 67 2 ∷ number_filling l s 68 3 ∷ []

abbrev pub row_fillings : Language → List Spoken → State → List Filling
row_fillings l roles s = roles_fillings roles ++ number_fillings l s

-- what is said of a value (K, 75)
abbrev pub value_text : Language → RowId → List Spoken → State → List ℕ → List ℕ
value_text l row roles s value = filled (row_fillings l roles s ++ filling 75 value ∷ []) (value_in l row)

-- what is said of the values, one after another
abbrev pub values_text : Language → RowId → List Spoken → State → List ℕ
values_text l row roles s = join_by (value_text l row roles s) (separator_in l) (literals l s)

-- what the row says; what is said of the values is L (76)
abbrev pub row_text : Language → RowId → List Spoken → State → List ℕ
row_text l row roles s = filled (row_fillings l roles s ++ filling 76 (values_text l row roles s) ∷ []) (row_in l row)

-- ---- where all variables are there
abbrev pub conjunction : Language → List ℕ
conjunction language.Python = codes " and "
conjunction language.C = codes " && "
conjunction language.Smtlib = codes " "

-- it says something of states alone in which P (80) holds: E (69)
abbrev pub guard : Language → List ℕ
guard language.Python = codes "not (P) or (E)"
guard language.C = codes "!(P) || (E)"
guard language.Smtlib = codes "(=> (and true P) E)"

-- one condition more, behind those that there are
abbrev pub with_presence : Language → List ℕ → List ℕ → List ℕ
with_presence l text presence =
    if is_empty presence then text
    else if is_empty text then presence
    else text ++ conjunction l ++ presence

abbrev pub presence_text : Language → List Spoken → List ℕ
presence_text l roles = fold (λ text (s : Spoken). with_presence l text s.presence) [] roles

abbrev pub guarded : Language → List Spoken → List ℕ → List ℕ
guarded l roles text =
    if is_empty (presence_text l roles) then text
    else filled (filling 80 (presence_text l roles) ∷ filling 69 text ∷ []) (guard l)

-- ---- the line
abbrev pub roles_of : Language → List VarInfo → List Base → List VarId → List Spoken
roles_of l infos bases vars = map (spoken l infos bases) vars

-- the language can say the variables, the row and what the state knows
abbrev pub is_telling : Language → List VarInfo → List Base → RowId → List VarId → State → Bool
is_telling l infos bases row vars s = list_all (is_spoken infos bases) vars && (can_say l s && not (is_empty (row_in l row)))

-- what a row over these variables says with this state, the point's base variables being told so; None where the language can't say it
abbrev pub telling : Language → List VarInfo → List Base → RowId → List VarId → State → Option (List ℕ)
telling l infos bases row vars s =
    if is_telling l infos bases row vars s
    then Some (guarded l (roles_of l infos bases vars) (row_text l row (roles_of l infos bases vars) s))
    else None
