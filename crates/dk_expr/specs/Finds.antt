-- What is found in a text, against what has the text.
use Rattle.std.specs.Prelude.{◌≡◌, ◌==◌, ℕ, zero, suc, Bool, false, not, IsSomeAnd, List, [], ◌∷◌, Option}
use Rattle.dk_base.specs.declared.kinds.VarId.{VarId}
use Rattle.dk_forms.specs.declared.states.State.{State}
use Rattle.dk_forms.specs.declared.states.State.TheVariants as state
use Rattle.dk_instances.specs.Instances.{Precedes}
use Rattle.dk_template.specs.Templates.{arity_of}
use Rattle.dk_template.specs.declared.grammar.RowId.{RowId}
use Rattle.dk_expr.specs.Telling.{Tells}
use Rattle.dk_expr.specs.declared.assertions.Assertion.{Assertion}
use Rattle.dk_expr.specs.declared.found.Parsed.{Parsed}

-- a hash code that isn't null
abbrev pub is_some_code : State → Bool
is_some_code (state.Code h) = not (h == 0)
is_some_code s = false

-- the first variables that were found, one to three of them
abbrev pub first_vars : ℕ → Parsed → List VarId
first_vars zero f = []
first_vars (suc zero) f = f.first ∷ []
first_vars (suc (suc zero)) f = f.first ∷ f.second ∷ []
first_vars (suc (suc (suc n))) f = f.first ∷ f.second ∷ f.third ∷ []

-- these variables and this state were found
pub record IsFoundBy (text : List ℕ) (row : RowId) (vars : List VarId) (s : State) (f : Parsed) : Type 0 where
  pub vars_so : first_vars (arity_of row) f ≡ vars
  pub tells : Tells text f s

-- there is an assertion, and its variables don't come after these
abbrev pub IsNoLater : Option Assertion → List VarId → Type 0
IsNoLater read vars = IsSomeAnd read (λ a. ¬ Precedes vars a.vars)
