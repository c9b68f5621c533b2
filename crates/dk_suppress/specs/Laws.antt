-- What the table of the rules comes to.
use Rattle.std.specs.Prelude.{◌≡◌, ◌<◌, ℕ, Bool, List, All, Contains, IsTrue, nat_lt}
use Rattle.std.specs.List.{list_all}
use Rattle.dk_base.specs.declared.kinds.VarId.{VarId}
use Rattle.dk_base.specs.declared.kinds.VarInfo.{VarInfo}
use Rattle.dk_base.specs.declared.values.Value.{Value}
use Rattle.dk_forms.specs.declared.states.State.{State}
use Rattle.dk_instances.specs.Laws.{AreAlike}
use Rattle.dk_suppress.specs.Rules.{Rule, is_suppressed, rules}
use Rattle.dk_suppress.specs.Soundness.{fit_of}
use Rattle.dk_template.specs.Admitted.{admits}
use Rattle.dk_template.specs.Premises.{IsUsable, roles_read, row_of}
use Rattle.dk_template.specs.Templates.{IsRowOf, arity_of, form_of, is_plain, rank_of}
use Rattle.dk_template.specs.declared.answers.Premise.{Premise}
use Rattle.dk_template.specs.declared.grammar.Grammar.{Grammar}
use Rattle.dk_template.specs.declared.grammar.RowId.{RowId}

-- each premise of each rule passes a test of the conclusion's row and the premise
abbrev pub AllPremises : (Rule → Premise → Bool) → Type 0
AllPremises test = IsTrue (list_all (λ (r : Rule). list_all (test r) r.1) rules)

-- a premise's rank is below that of its conclusion
abbrev pub PremisesAreBelow : Type 0
PremisesAreBelow = AllPremises (λ r p. nat_lt (rank_of (row_of p)) (rank_of r.0))

-- a conclusion is a row with a relation
abbrev pub ConclusionsArePlain : Type 0
ConclusionsArePlain = IsTrue (list_all (λ (r : Rule). is_plain (form_of r.0)) rules)

-- the roles that a premise reads are roles of its conclusion
abbrev pub RolesAreThere : Type 0
RolesAreThere = AllPremises (λ r p. list_all (λ role. nat_lt role (arity_of r.0)) (roles_read p))

-- over variables that a conclusion admits each premise of its rule can be asked, in either grammar
abbrev pub PremisesAreUsable : Type 0
PremisesAreUsable =
    (grammar : Grammar) (infos : List VarInfo) (vars : List VarId)
    → All (λ (r : Rule). IsTrue (admits r.0 infos vars) → All (λ p. IsUsable grammar infos p vars) r.1) rules

-- ---- what suppression depends on
-- two answers are the same for the rows of a rank below n, over variables that they admit and of which each is one of these
abbrev pub SameBelow : Grammar → List VarInfo → List VarId → (f g : RowId → List VarId → State) → ℕ → Type 0
SameBelow grammar infos vars f g n =
    (row : RowId) → IsRowOf grammar row → rank_of row < n → (others : List VarId)
    → IsTrue (admits row infos others) → All (Contains vars) others → f row others ≡ g row others

-- answers that are the same for the rows of lower rank over a row's variables suppress the same
abbrev pub SuppressionIsOfLowerRank : Type 0
SuppressionIsOfLowerRank =
    (grammar : Grammar) (infos : List VarInfo) (f g : RowId → List VarId → State) (row : RowId) (vars : List VarId)
    → IsTrue (admits row infos vars) → SameBelow grammar infos vars f g (rank_of row)
    → is_suppressed f row vars ≡ is_suppressed g row vars

-- variables that agree are suppressed alike
abbrev pub AgreeingVariablesAreSuppressedAlike : Type 0
AgreeingVariablesAreSuppressedAlike =
    (samples : List (List Value)) (vars others : List VarId) → AreAlike samples vars others
    → (row : RowId) → is_suppressed (fit_of samples) row vars ≡ is_suppressed (fit_of samples) row others
