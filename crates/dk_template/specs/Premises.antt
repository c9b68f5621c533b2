-- What a premise of a rule asks, over the variables of the rule's conclusion.
use Rattle.std.specs.Prelude.{◌&&◌, ◌||◌, ◌==◌, ◌<◌, ℕ, ℤ, Bool, true, false, not, List, [], ◌∷◌, All, IsTrue, length, map, take, slice_index_or, int_le}
use Rattle.std.specs.Ordering.{int_eq}
use Rattle.std.specs.List.{list_any}
use Rattle.dk_base.specs.declared.kinds.VarId.{VarId}
use Rattle.dk_base.specs.declared.kinds.VarInfo.{VarInfo}
use Rattle.dk_forms.specs.declared.states.State.{State}
use Rattle.dk_forms.specs.declared.states.State.TheVariants as state
use Rattle.dk_template.specs.Admitted.{admits}
use Rattle.dk_template.specs.Fitting.{fits}
use Rattle.dk_template.specs.Numbers as number
use Rattle.dk_template.specs.Templates.{IsRowOf, arity_of, form_of, is_plain}
use Rattle.dk_template.specs.declared.answers.Premise.{Premise}
use Rattle.dk_template.specs.declared.answers.Premise.TheVariants.{Holds, LeastAtLeast, GreatestAtMost, Only}
use Rattle.dk_template.specs.declared.grammar.Grammar.{Grammar}
use Rattle.dk_template.specs.declared.grammar.RowId.{RowId}

-- the variable at a role
abbrev pub at_role : ℕ → List VarId → VarId
at_role role vars = slice_index_or vars role (record { 0 = 0 })

-- the variables at a row's roles
abbrev pub at_roles : RowId → List ℕ → List VarId → List VarId
at_roles row roles vars = map (λ role. at_role role vars) (take (arity_of row) roles)

abbrev pub is_least_from : ℤ → State → Bool
is_least_from k (state.Least v) = int_le k v
is_least_from k _ = false

abbrev pub is_greatest_to : ℤ → State → Bool
is_greatest_to k (state.Greatest v) = int_le v k
is_greatest_to k _ = false

abbrev pub is_only : ℤ → State → Bool
is_only k (state.Ints (v ∷ [])) = int_eq v k
is_only k _ = false

-- the row whose state says that a variable is only one number
abbrev pub one_of_int : RowId
one_of_int = record { 0 = number.one_of_int }

-- the row of a premise, and the variables that it asks about
abbrev pub row_of : Premise → RowId
row_of (Holds row roles) = row
row_of (LeastAtLeast row role k) = row
row_of (GreatestAtMost row role k) = row
row_of (Only role k) = one_of_int

abbrev pub vars_of : Premise → List VarId → List VarId
vars_of (Holds row roles) vars = at_roles row roles vars
vars_of (LeastAtLeast row role k) vars = at_role role vars ∷ []
vars_of (GreatestAtMost row role k) vars = at_role role vars ∷ []
vars_of (Only role k) vars = at_role role vars ∷ []

-- how many they are
abbrev pub asked_count : Premise → ℕ
asked_count (Holds row roles) = arity_of row
asked_count (LeastAtLeast row role k) = 1
asked_count (GreatestAtMost row role k) = 1
asked_count (Only role k) = 1

-- whether the state of the premise's row is as the premise wants it
abbrev pub suffices : Premise → State → Bool
suffices (Holds row roles) s = fits s
suffices (LeastAtLeast row role k) s = is_least_from k s
suffices (GreatestAtMost row role k) s = is_greatest_to k s
suffices (Only role k) s = is_only k s

-- Whether a premise fits over the conclusion's variables. One that a row holds wants its state to fit; one of a least number wants it
-- to be at least k; one of a greatest number, at most k; and one of an only number wants the variable to be only k.
abbrev pub premise_fits : (RowId → List VarId → State) → Premise → List VarId → Bool
premise_fits answered premise vars = suffices premise (answered (row_of premise) (vars_of premise vars))

-- the roles that a premise reads
abbrev pub roles_read : Premise → List ℕ
roles_read (Holds row roles) = take (arity_of row) roles
roles_read (LeastAtLeast row role k) = role ∷ []
roles_read (GreatestAtMost row role k) = role ∷ []
roles_read (Only role k) = role ∷ []

-- rows with a relation over strings, of which what is kept can't be asked without memory
abbrev pub is_laid_out : RowId → Bool
is_laid_out row = list_any (λ r. row.0 == r) (number.elt_non_null_str ∷ number.member_str ∷ number.subset_str ∷ [])

-- the premise has the row that its form speaks of: one with a relation that can be asked without memory, one of least numbers, or
-- one of greatest numbers
abbrev pub is_formed : Premise → Bool
is_formed (Holds row roles) = is_plain (form_of row) && not (is_laid_out row)
is_formed (LeastAtLeast row role k) = row.0 == number.lower_bound || row.0 == number.elt_lower
is_formed (GreatestAtMost row role k) = row.0 == number.upper_bound || row.0 == number.elt_upper
is_formed (Only role k) = true

-- a premise that can be asked over these variables: its roles are there, and its row admits the variables at them
pub record IsUsable (grammar : Grammar) (infos : List VarInfo) (premise : Premise) (vars : List VarId) : Type 0 where
  pub formed : IsTrue (is_formed premise)
  pub row : IsRowOf grammar (row_of premise)
  pub roles : All (λ role. role < length vars) (roles_read premise)
  pub admitted : IsTrue (admits (row_of premise) infos (vars_of premise vars))

-- ---- what answers take
-- the variables are there
abbrev pub AreThere : List VarInfo → List VarId → Type 0
AreThere infos vars = All (λ (v : VarId). v.0 < length infos) vars

-- The rows over strings whose answer may want memory: their states are texts, or their strings may have to be laid out anew. Whether
-- two sequences of strings are the same is told without.
abbrev pub MayWantMemory : RowId → Type 0
MayWantMemory row =
    IsTrue (list_any (λ r. row.0 == r)
    (number.one_of_str ∷ number.elt_one_of_str ∷ number.elt_non_null_str ∷ number.member_str ∷ number.subset_str ∷ []))
