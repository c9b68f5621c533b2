-- Whether a rule suppresses a row is asked of rows of lower rank alone.
use Rattle.std.specs.Prelude.{◌≡◌, ◌<◌, ◌&&◌, ◌||◌, ◌==◌, ℕ, Bool, true, List, [], ◌∷◌, All, IsTrue, length, map, nat_lt, take, refl}
use Rattle.std.specs.List.{list_all, list_any, AllByRecursion}
use Rattle.std.proofs.Common.{ap, inl, inr, subst, sym, ◌∙◌}
use Rattle.std.proofs.lemmas.Bool.{and_parts, cases_Bool, eqb-true, ltb-true}
use Rattle.std.proofs.lemmas.List.Elements.{All-map, All-weaker, recursion_from_All}
use Rattle.dk_base.specs.declared.kinds.VarId.{VarId}
use Rattle.dk_base.specs.declared.kinds.VarInfo.{VarInfo}
use Rattle.dk_forms.specs.declared.states.State.{State}
use Rattle.dk_suppress.proofs.Facts.{premises_below}
use Rattle.dk_suppress.proofs.Usable.{premises_usable}
use Rattle.dk_suppress.specs.Rules.{Rule, is_suppressed, rules}
use Rattle.dk_template.specs.Admitted.{admits}
use Rattle.dk_template.specs.Premises.{IsUsable, at_role, premise_fits, roles_read, row_of, suffices, vars_of}
use Rattle.dk_template.specs.Templates.{IsRowOf, arity_of, rank_of}
use Rattle.dk_template.specs.declared.answers.Premise.{Premise}
use Rattle.dk_template.specs.declared.answers.Premise.TheVariants.{Holds, LeastAtLeast, GreatestAtMost, Only}
use Rattle.dk_template.specs.declared.grammar.Grammar.{Grammar}
use Rattle.dk_template.specs.declared.grammar.RowId.{RowId}

-- two answers are the same for the rows of a rank below n over variables that they admit, each with a property
abbrev pub AlikeBelow : Grammar → List VarInfo → (VarId → Type 0) → (f g : RowId → List VarId → State) → ℕ → Type 0
AlikeBelow grammar infos P f g n =
    (row : RowId) → IsRowOf grammar row → rank_of row < n → (vars : List VarId) → admits row infos vars ≡ true → All P vars → f row vars ≡ g row vars

-- ---- the variables of a premise
module _ (P : VarId → Type 0) (vars : List VarId) (all : All P vars) where
  at_all : (roles : List ℕ) → All (λ role. role < length vars) roles → All P (map (λ role. at_role role vars) roles)
  at_all roles there = All-map P (λ role. at_role role vars) roles (All-weaker (λ role. role < length vars) (λ role. P (at_role role vars)) (λ role l. all role (record { 0 = 0 }) l) roles there)

  pub asked_all : (p : Premise) → All (λ role. role < length vars) (roles_read p) → All P (vars_of p vars)
  asked_all (Holds row roles) there = at_all (take (arity_of row) roles) there
  asked_all (LeastAtLeast row role k) there = at_all (role ∷ []) there
  asked_all (GreatestAtMost row role k) there = at_all (role ∷ []) there
  asked_all (Only role k) there = at_all (role ∷ []) there

-- ---- the table
module _ (grammar : Grammar) (infos : List VarInfo) (P : VarId → Type 0) (f g : RowId → List VarId → State) (row : RowId) (alike : AlikeBelow grammar infos P f g (rank_of row))
    (vars : List VarId) (admitted : admits row infos vars ≡ true) (all : All P vars) where
  premise_alike : (p : Premise) → IsUsable grammar infos p vars → rank_of (row_of p) < rank_of row → premise_fits f p vars ≡ premise_fits g p vars
  premise_alike p usable below = ap (suffices p) (alike (row_of p) usable.row below (vars_of p vars) usable.admitted (asked_all P vars all p usable.roles))

  premises_alike : (ps : List Premise) → AllByRecursion (λ p. IsUsable grammar infos p vars) ps → list_all (λ p. nat_lt (rank_of (row_of p)) (rank_of row)) ps ≡ true
      → list_all (λ p. premise_fits f p vars) ps ≡ list_all (λ p. premise_fits g p vars) ps
  premises_alike [] usable below = refl
  premises_alike (p ∷ ps) usable below =
      let lower = and_parts (nat_lt (rank_of (row_of p)) (rank_of row)) (list_all (λ q. nat_lt (rank_of (row_of q)) (rank_of row)) ps) below in
      ap (λ b. b && list_all (λ q. premise_fits f q vars) ps) (premise_alike p usable.0 (ltb-true (rank_of (row_of p)) (rank_of row) lower.0))
      ∙ ap (λ b. premise_fits g p vars && b) (premises_alike ps usable.1 lower.1)

  abbrev Usable : Rule → Type 0
  Usable r = IsTrue (admits r.0 infos vars) → All (λ p. IsUsable grammar infos p vars) r.1

  abbrev is_below : Rule → Bool
  is_below r = list_all (λ p. nat_lt (rank_of (row_of p)) (rank_of r.0)) r.1

  abbrev suppresses : (RowId → List VarId → State) → Rule → Bool
  suppresses answered r = r.0.0 == row.0 && list_all (λ p. premise_fits answered p vars) r.1

  rule_alike : (r : Rule) → Usable r → is_below r ≡ true → suppresses f r ≡ suppresses g r
  rule_alike r usable below =
      elim (cases_Bool (r.0.0 == row.0)) [
        | inl e ↦
            let is : r.0 ≡ row = ap (λ (n : ℕ). record { 0 = n }) (eqb-true r.0.0 row.0 e) in
            let own = usable (subst (λ (q : RowId). admits q infos vars ≡ true) (sym is) admitted) in
            ap (λ b. r.0.0 == row.0 && b) (premises_alike r.1 (recursion_from_All (λ p. IsUsable grammar infos p vars) r.1 own)
            (subst (λ (q : RowId). list_all (λ p. nat_lt (rank_of (row_of p)) (rank_of q)) r.1 ≡ true) is below))
        | inr o ↦ ap (λ b. b && list_all (λ p. premise_fits f p vars) r.1) o ∙ sym (ap (λ b. b && list_all (λ p. premise_fits g p vars) r.1) o)
      ]

  rules_alike : (rs : List Rule) → AllByRecursion Usable rs → list_all is_below rs ≡ true → list_any (suppresses f) rs ≡ list_any (suppresses g) rs
  rules_alike [] usable below = refl
  rules_alike (r ∷ rs) usable below =
      let lower = and_parts (is_below r) (list_all is_below rs) below in
      ap (λ b. b || list_any (suppresses f) rs) (rule_alike r usable.0 lower.0) ∙ ap (λ b. suppresses g r || b) (rules_alike rs usable.1 lower.1)

  -- such answers suppress the same
  pub suppressed_alike : is_suppressed f row vars ≡ is_suppressed g row vars
  suppressed_alike = rules_alike rules (recursion_from_All Usable rules (premises_usable grammar infos vars)) premises_below
