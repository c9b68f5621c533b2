-- The tables of all rows are full.
use Rattle.std.proofs.Common.{◌≡◌, ◌<◌, ◌≤◌, ◌&&◌, ℕ, zero, suc, Bool, true, false, List, [], ◌∷◌, Some, None, length, drop, get_or, arith, refl, subst, sym}
use Rattle.std.proofs.lemmas.Bool.{and_from, and_parts, not-true, not_from_false}
use Rattle.std.specs.Prelude.{IsSome, if◌then◌else◌, not}
use Rattle.std.specs.List.{list_all}
use Rattle.dk_base.specs.Pieces.{is_empty}
use Rattle.dk_languages.specs.Laws.{EachRowHasALine, EachRowIsTold}
use Rattle.dk_languages.specs.Literals.{can_say}
use Rattle.dk_languages.specs.Rows.{row_in}
use Rattle.dk_languages.specs.Rows.CRows.{c_rows}
use Rattle.dk_languages.specs.Rows.PythonRows.{python_rows}
use Rattle.dk_languages.specs.Rows.SmtlibRows.{smtlib_rows}
use Rattle.dk_languages.specs.Speaking.{is_spoken}
use Rattle.dk_languages.specs.Tellings.{guarded, is_telling, roles_of, row_text}
use Rattle.dk_languages.specs.declared.languages.Language.TheVariants as language

abbrev is_line : List ℕ → Bool
is_line row = not (is_empty row)

-- in a list of lines there is a line at each place
line_at : (rows : List (List ℕ)) (n : ℕ) → n < length rows → list_all is_line rows ≡ true → is_empty (get_or rows n []) ≡ false
line_at [] n within all = absurd (omega arith)
line_at (r ∷ rs) zero within all = not-true (is_empty r) (and_parts (is_line r) (list_all is_line rs) all).0
line_at (r ∷ rs) (suc n) within all = line_at rs n (omega arith) (and_parts (is_line r) (list_all is_line rs) all).1

-- what stands at 0 is no row, and 68 lines follow
record IsFull (rows : List (List ℕ)) : Type 0 where
  long : length rows ≡ 69
  lines : list_all is_line (drop 1 rows) ≡ true

line_in : (rows : List (List ℕ)) → IsFull rows → (n : ℕ) → 1 ≤ n → n ≤ 68 → is_empty (get_or rows n []) ≡ false
line_in rows full zero low high = absurd (omega arith)
line_in [] full (suc n) low high = absurd (omega (arith, full.long))
line_in (r ∷ rs) full (suc n) low high = line_at rs n (omega (arith, full.long)) full.lines

python_is_full : IsFull python_rows
unfolding python_rows
python_is_full = record { long = refl; lines = refl }

c_is_full : IsFull c_rows
unfolding c_rows
c_is_full = record { long = refl; lines = refl }

smtlib_is_full : IsFull smtlib_rows
unfolding smtlib_rows
smtlib_is_full = record { long = refl; lines = refl }

pub each_row : EachRowHasALine
each_row language.Python row is = line_in python_rows python_is_full row.0 is.0 is.1
each_row language.C row is = line_in c_rows c_is_full row.0 is.0 is.1
each_row language.Smtlib row is = line_in smtlib_rows smtlib_is_full row.0 is.0 is.1

some_where : (b : Bool) (text : List ℕ) → b ≡ true → IsSome (if b then Some text else None)
some_where b text is = subst (λ x. IsSome (if x then Some text else None)) (sym is) refl

pub each_is_told : EachRowIsTold
each_is_told l infos bases row vars s is spoken sayable =
    some_where (is_telling l infos bases row vars s) (guarded l (roles_of l infos bases vars) (row_text l row (roles_of l infos bases vars) s))
    (and_from (list_all (is_spoken infos bases) vars) (can_say l s && not (is_empty (row_in l row))) spoken
    (and_from (can_say l s) (not (is_empty (row_in l row))) sayable (not_from_false (is_empty (row_in l row)) (each_row l row is))))
