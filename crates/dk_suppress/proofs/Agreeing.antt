-- Variables that agree are suppressed alike.
use Rattle.std.specs.Prelude.{◌≡◌, ◌&&◌, ◌||◌, ◌==◌, ℕ, zero, suc, Bool, List, [], ◌∷◌, map, take, refl}
use Rattle.std.specs.List.{list_all, list_any}
use Rattle.std.proofs.Common.{ap, ◌∙◌}
use Rattle.dk_base.specs.declared.kinds.VarId.{VarId}
use Rattle.dk_base.specs.declared.values.Value.{Value}
use Rattle.dk_instances.proofs.Fitting.{fit_alike}
use Rattle.dk_instances.specs.Laws.{AreAlike}
use Rattle.dk_samples.specs.Samples.{Agree}
use Rattle.dk_suppress.specs.Laws.{AgreeingVariablesAreSuppressedAlike}
use Rattle.dk_suppress.specs.Rules.{Rule, rules}
use Rattle.dk_suppress.specs.Soundness.{fit_of}
use Rattle.dk_template.specs.Premises.{at_role, premise_fits, row_of, suffices, vars_of}
use Rattle.dk_template.specs.Templates.{arity_of}
use Rattle.dk_template.specs.declared.answers.Premise.{Premise}
use Rattle.dk_template.specs.declared.answers.Premise.TheVariants.{Holds, LeastAtLeast, GreatestAtMost, Only}
use Rattle.dk_template.specs.declared.grammar.RowId.{RowId}

-- the variables at a role agree
at_alike : (samples : List (List Value)) (vars others : List VarId) → AreAlike samples vars others → (role : ℕ) → Agree samples (at_role role vars) (at_role role others)
at_alike samples [] [] h role = λ k d l. refl
at_alike samples [] (w ∷ others) h role = absurd h
at_alike samples (v ∷ vars) [] h role = absurd h
at_alike samples (v ∷ vars) (w ∷ others) h zero = h.0
at_alike samples (v ∷ vars) (w ∷ others) h (suc role) = at_alike samples vars others h.1 role

module _ (samples : List (List Value)) (vars others : List VarId) (alike : AreAlike samples vars others) where
  roles_alike : (roles : List ℕ) → AreAlike samples (map (λ role. at_role role vars) roles) (map (λ role. at_role role others) roles)
  roles_alike [] = tt
  roles_alike (role ∷ roles) = (at_alike samples vars others alike role, roles_alike roles)

  asked_alike : (p : Premise) → AreAlike samples (vars_of p vars) (vars_of p others)
  asked_alike (Holds row roles) = roles_alike (take (arity_of row) roles)
  asked_alike (LeastAtLeast row role k) = roles_alike (role ∷ [])
  asked_alike (GreatestAtMost row role k) = roles_alike (role ∷ [])
  asked_alike (Only role k) = roles_alike (role ∷ [])

  premises_alike : (ps : List Premise) → list_all (λ p. premise_fits (fit_of samples) p vars) ps ≡ list_all (λ p. premise_fits (fit_of samples) p others) ps
  premises_alike [] = refl
  premises_alike (p ∷ ps) =
      ap (λ b. b && list_all (λ q. premise_fits (fit_of samples) q vars) ps) (ap (suffices p) (fit_alike samples (vars_of p vars) (vars_of p others) (asked_alike p) (row_of p)))
      ∙ ap (λ b. premise_fits (fit_of samples) p others && b) (premises_alike ps)

  abbrev suppresses : RowId → List VarId → Rule → Bool
  suppresses row tuple r = r.0.0 == row.0 && list_all (λ p. premise_fits (fit_of samples) p tuple) r.1

  rules_alike : (row : RowId) (rs : List Rule) → list_any (suppresses row vars) rs ≡ list_any (suppresses row others) rs
  rules_alike row [] = refl
  rules_alike row (r ∷ rs) =
      ap (λ b. (r.0.0 == row.0 && b) || list_any (suppresses row vars) rs) (premises_alike r.1) ∙ ap (λ b. suppresses row others r || b) (rules_alike row rs)

pub agreeing_suppressed : AgreeingVariablesAreSuppressedAlike
agreeing_suppressed samples vars others alike row = rules_alike samples vars others alike row rules
