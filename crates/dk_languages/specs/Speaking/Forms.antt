-- Variables by their forms. Of the base variables that one comes from, P is the sequence, S its number of elements, and I the index.
use Rattle.std.specs.Prelude.{ℕ, List, [], codes}
use Rattle.dk_base.specs.declared.kinds.Form.{Form}
use Rattle.dk_base.specs.declared.kinds.Form.TheVariants as form
use Rattle.dk_languages.specs.declared.languages.Language.{Language}
use Rattle.dk_languages.specs.declared.languages.Language.TheVariants as language

-- the value; of a slice in C and SMT-LIB the sequence that it is of
abbrev pub value_of : Language → Form → List ℕ
value_of language.Python (form.Size s) = codes "S"
value_of language.Python (form.First s) = codes "P[0]"
value_of language.Python (form.Last s) = codes "P[-1]"
value_of language.Python (form.At s i) = codes "P[I]"
value_of language.Python (form.Upto s i) = codes "P[:I + 1]"
value_of language.Python (form.Before s i) = codes "P[:I]"
value_of language.Python (form.Since s i) = codes "P[I:]"
value_of language.Python (form.After s i) = codes "P[I + 1:]"
value_of language.C (form.Size s) = codes "S"
value_of language.C (form.First s) = codes "P[0]"
value_of language.C (form.Last s) = codes "P[dk_int(S) - 1]"
value_of language.C (form.At s i) = codes "P[I]"
value_of language.Smtlib (form.Size s) = codes "S"
value_of language.Smtlib (form.First s) = codes "(select P 0)"
value_of language.Smtlib (form.Last s) = codes "(select P (- S 1))"
value_of language.Smtlib (form.At s i) = codes "(select P I)"
value_of l f = codes "P"

-- the place of a sequence's first element, in C and SMT-LIB
abbrev pub start_of : Language → Form → List ℕ
start_of language.Python f = codes "0"
start_of language.C (form.Since s i) = codes "dk_int(I)"
start_of language.C (form.After s i) = codes "(dk_int(I) + 1)"
start_of language.Smtlib (form.Since s i) = codes "I"
start_of language.Smtlib (form.After s i) = codes "(+ I 1)"
start_of l f = codes "0"

-- the place behind its last one
abbrev pub end_of : Language → Form → List ℕ
end_of language.Python f = codes "S"
end_of language.C (form.Upto s i) = codes "(dk_int(I) + 1)"
end_of language.C (form.Before s i) = codes "dk_int(I)"
end_of language.C f = codes "dk_int(S)"
end_of language.Smtlib (form.Upto s i) = codes "(+ I 1)"
end_of language.Smtlib (form.Before s i) = codes "I"
end_of l f = codes "S"

-- where it is there; nothing where it is there always
abbrev pub presence_of : Language → Form → List ℕ
presence_of language.Python (form.First s) = codes "S > 0"
presence_of language.Python (form.Last s) = codes "S > 0"
presence_of language.Python (form.At s i) = codes "0 <= I < S"
presence_of language.Python (form.Upto s i) = codes "-1 <= I < S"
presence_of language.Python (form.Before s i) = codes "0 <= I <= S"
presence_of language.Python (form.Since s i) = codes "0 <= I <= S"
presence_of language.Python (form.After s i) = codes "-1 <= I < S"
presence_of language.C (form.First s) = codes "dk_int(S) > 0"
presence_of language.C (form.Last s) = codes "dk_int(S) > 0"
presence_of language.C (form.At s i) = codes "0 <= dk_int(I) && dk_int(I) < dk_int(S)"
presence_of language.C (form.Upto s i) = codes "-1 <= dk_int(I) && dk_int(I) < dk_int(S)"
presence_of language.C (form.Before s i) = codes "0 <= dk_int(I) && dk_int(I) <= dk_int(S)"
presence_of language.C (form.Since s i) = codes "0 <= dk_int(I) && dk_int(I) <= dk_int(S)"
presence_of language.C (form.After s i) = codes "-1 <= dk_int(I) && dk_int(I) < dk_int(S)"
presence_of language.Smtlib (form.First s) = codes "(> S 0)"
presence_of language.Smtlib (form.Last s) = codes "(> S 0)"
presence_of language.Smtlib (form.At s i) = codes "(and (<= 0 I) (< I S))"
presence_of language.Smtlib (form.Upto s i) = codes "(and (<= (- 1) I) (< I S))"
presence_of language.Smtlib (form.Before s i) = codes "(and (<= 0 I) (<= I S))"
presence_of language.Smtlib (form.Since s i) = codes "(and (<= 0 I) (<= I S))"
presence_of language.Smtlib (form.After s i) = codes "(and (<= (- 1) I) (< I S))"
presence_of l f = []
