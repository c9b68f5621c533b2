-- The rows that say more than others, and sums beside planes, can be asked where these admit the variables.
use Rattle.std.specs.Prelude.{◌≡◌, ◌≤◌, ◌==◌, ℕ, Bool, true, false, All, List, [], ◌∷◌, Option, Some, None, if◌then◌else◌, refl}
use Rattle.std.proofs.Common.{inl, inr, ◌∙◌, ap, arith, sym, subst}
use Rattle.std.proofs.lemmas.Bool.{eqb-true, false≢true, or_cases}
use Rattle.std.proofs.lemmas.List.Elements.{All-from_recursion, All-head, All-tail}
use Rattle.dk_base.specs.declared.kinds.VarId.{VarId}
use Rattle.dk_base.specs.declared.kinds.VarInfo.{VarInfo}
use Rattle.dk_suppress.proofs.Usable.{usable}
use Rattle.dk_template.specs.Admitted.{admits, suit}
use Rattle.dk_template.specs.Premises.{IsUsable, MayWantMemory as AnswerMayWantMemory}
use Rattle.dk_template.specs.Templates.{IsRowOf, roles_of, rows, rows_in, template_of}
use Rattle.dk_template.specs.declared.grammar.Grammar.{Grammar}
use Rattle.dk_template.specs.declared.grammar.Grammar.TheVariants as grammar
use Rattle.dk_template.specs.declared.grammar.RowId.{RowId}
use Rattle.dk_filters.specs.Facts.{each_in_front, is_one_of, row_of_number, sharper_than, sum_of}
use Rattle.dk_filters.specs.Memory.{MayWantMemoryWhenJudged}

-- rows that take the same admit the same
pub same-takes : (infos : List VarInfo) (row other : RowId) (vars : List VarId) → roles_of (template_of other).takes ≡ roles_of (template_of row).takes → admits row infos vars ≡ true → admits other infos vars ≡ true
same-takes infos row other vars same h = ap (λ roles. suit roles infos vars) same ∙ h

pub same-row : (r s : RowId) → (r.0 == s.0) ≡ true → r ≡ s
same-row r s h = ap (λ n. record { 0 = n }) (eqb-true r.0 s.0 h)

-- what a number of the list has, a row that is one of them has
is-one : (Q : ℕ → Type 0) (numbers : List ℕ) → All Q numbers → (r : RowId) → is_one_of numbers r ≡ true → Q r.0
is-one Q [] all r h = absurd (false≢true h)
is-one Q (n ∷ numbers) all r h = elim (or_cases (r.0 == n) (is_one_of numbers r) h) as (λ _. Q r.0) [
  | inl is ↦ subst Q (sym (eqb-true r.0 n is)) (All-head Q n numbers all)
  | inr is ↦ is-one Q numbers (All-tail Q n numbers all) r is
]

module _ (g : Grammar) where
  pub row-of : (n : ℕ) → 1 ≤ n → n ≤ 66 → IsRowOf g (row_of_number n)
  row-of n low high = (low, within g n high)
    where
      within : (g : Grammar) (n : ℕ) → n ≤ 66 → n ≤ rows_in g
      within grammar.One n high = high
      within grammar.Two n high = omega (arith, high)

  -- a row of the grammar that takes what the other one takes, and wants memory only where the other one may
  pub record Stands (n m : ℕ) : Type 0 where
    pub takes : roles_of (template_of (row_of_number n)).takes ≡ roles_of (template_of (row_of_number m)).takes
    pub memory : AnswerMayWantMemory (row_of_number n) → MayWantMemoryWhenJudged (row_of_number m)

  -- the row that says more, if there is one, is one of the grammar and stands for this row
  abbrev pub IsAsked : RowId → Option RowId → Type 0
  IsAsked r None = Unit {0}
  IsAsked r (Some s) = IsRowOf g s × Stands s.0 r.0

  one-step : (numbers : List ℕ) (n : ℕ) → IsRowOf g (row_of_number n) → All (Stands n) numbers → (rest : Option RowId) (r : RowId) → IsAsked r rest → IsAsked r (if is_one_of numbers r then Some (row_of_number n) else rest)
  one-step numbers n is all rest r asked = by_case (is_one_of numbers r) refl
    where
      by_case : (b : Bool) → is_one_of numbers r ≡ b → IsAsked r (if b then Some (row_of_number n) else rest)
      by_case true e = (is, is-one (Stands n) numbers all r e)
      by_case false e = asked

  pub sharper-asked : (r : RowId) → IsAsked r (sharper_than r)
  unfolding rows
  sharper-asked r =
      one-step (2 ∷ 3 ∷ 4 ∷ 5 ∷ []) 1 (row-of 1 (omega arith) (omega arith)) (All-from_recursion (Stands 1) (2 ∷ 3 ∷ 4 ∷ 5 ∷ []) (record { takes = refl; memory = λ h. absurd (false≢true h) }, (record { takes = refl; memory = λ h. absurd (false≢true h) }, (record { takes = refl; memory = λ h. absurd (false≢true h) }, (record { takes = refl; memory = λ h. absurd (false≢true h) }, tt))))) _ r (
      one-step (8 ∷ []) 7 (row-of 7 (omega arith) (omega arith)) (All-from_recursion (Stands 7) (8 ∷ []) (record { takes = refl; memory = λ h. absurd (false≢true h) }, tt)) _ r (
      one-step (10 ∷ []) 9 (row-of 9 (omega arith) (omega arith)) (All-from_recursion (Stands 9) (10 ∷ []) (record { takes = refl; memory = λ h. refl }, tt)) _ r (
      one-step (15 ∷ []) 11 (row-of 11 (omega arith) (omega arith)) (All-from_recursion (Stands 11) (15 ∷ []) (record { takes = refl; memory = λ h. absurd (false≢true h) }, tt)) _ r (
      one-step (36 ∷ 37 ∷ 38 ∷ []) 35 (row-of 35 (omega arith) (omega arith)) (All-from_recursion (Stands 35) (36 ∷ 37 ∷ 38 ∷ []) (record { takes = refl; memory = λ h. absurd (false≢true h) }, (record { takes = refl; memory = λ h. absurd (false≢true h) }, (record { takes = refl; memory = λ h. absurd (false≢true h) }, tt)))) _ r (
      one-step (46 ∷ []) 45 (row-of 45 (omega arith) (omega arith)) (All-from_recursion (Stands 45) (46 ∷ []) (record { takes = refl; memory = λ h. absurd (false≢true h) }, tt)) _ r (
      one-step (48 ∷ []) 47 (row-of 47 (omega arith) (omega arith)) (All-from_recursion (Stands 47) (48 ∷ []) (record { takes = refl; memory = λ h. refl }, tt)) _ r tt))))))

  pub asked-sharper : (r s : RowId) → Some s ≡ sharper_than r → IsRowOf g s × Stands s.0 r.0
  asked-sharper r s e = subst (IsAsked r) (sym e) (sharper-asked r)

  -- each variable of a plane may be asked about as the sum of the others
  pub sums-usable : (infos : List VarInfo) (vars : List VarId) → admits (row_of_number 67) infos vars ≡ true → All (λ roles. IsUsable g infos (sum_of roles) vars) each_in_front
  unfolding rows
  sums-usable infos vars h =
      All-from_recursion (λ roles. IsUsable g infos (sum_of roles) vars) each_in_front (
        usable (row_of_number 67) infos vars h g [] (sum_of (0 ∷ 1 ∷ 2 ∷ [])) refl,
        (usable (row_of_number 67) infos vars h g [] (sum_of (1 ∷ 0 ∷ 2 ∷ [])) refl, (usable (row_of_number 67) infos vars h g [] (sum_of (2 ∷ 0 ∷ 1 ∷ [])) refl, tt)),
      )

  pub plane-usable : (infos : List VarInfo) (r : RowId) (vars : List VarId) → r.0 ≡ 67 → admits r infos vars ≡ true → All (λ roles. IsUsable g infos (sum_of roles) vars) each_in_front
  plane-usable infos r vars is h = sums-usable infos vars (subst (λ (s : RowId). admits s infos vars ≡ true) (ap (λ n. record { 0 = n }) is) h)
