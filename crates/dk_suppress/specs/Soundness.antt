-- Which fits follow from which: the rules are sound over any samples.
use Rattle.std.specs.Prelude.{◌≡◌, ℕ, zero, suc, List, All, IsTrue, length}
use Rattle.std.specs.List.{list_all}
use Rattle.dk_base.specs.Values.Spelling.{IsWritten}
use Rattle.dk_base.specs.declared.kinds.VarId.{VarId}
use Rattle.dk_base.specs.declared.values.Value.{Value}
use Rattle.dk_forms.specs.declared.states.State.{State}
use Rattle.dk_forms.specs.declared.states.State.TheVariants as state
use Rattle.dk_instances.specs.Fits.{fit, tuples_of}
use Rattle.dk_suppress.specs.Rules.{Rule, is_suppressed, rules}
use Rattle.dk_template.specs.Premises.{premise_fits}
use Rattle.dk_template.specs.Templates.{arity_of}
use Rattle.dk_template.specs.declared.grammar.RowId.{RowId}

-- what a row says of variables in the samples
abbrev pub fit_of : List (List Value) → RowId → List VarId → State
fit_of samples row vars = fit row vars samples

-- Holds of some tuples, Empty of none
abbrev pub holds_of : ℕ → State
holds_of zero = state.Empty
holds_of (suc n) = state.Holds

-- Where the premises of a rule fit, the conclusion's state is Holds if there is a sample in which none of its variables is missing, and
-- else Empty. The samples' numbers have 64 bits.
abbrev pub RulesAreSound : Type 0
RulesAreSound =
    (samples : List (List Value)) → All (λ s. All IsWritten s) samples
    → All (λ (r : Rule). (vars : List VarId) → length vars ≡ arity_of r.0
    → IsTrue (list_all (λ p. premise_fits (fit_of samples) p vars) r.1)
    → fit_of samples r.0 vars ≡ holds_of (length (tuples_of vars samples))) rules

-- so a suppressed instance holds
abbrev pub SuppressedInstancesHold : Type 0
SuppressedInstancesHold =
    (samples : List (List Value)) → All (λ s. All IsWritten s) samples
    → (row : RowId) (vars : List VarId) → length vars ≡ arity_of row → IsTrue (is_suppressed (fit_of samples) row vars)
    → fit_of samples row vars ≡ holds_of (length (tuples_of vars samples))
