-- The slots of a row whose number is known, and the first of them that a sample changes.
use Rattle.std.specs.Prelude.{◌≡◌, ℕ, List, Option}
use Rattle.std.proofs.Common.{subst, sym}
use Rattle.dk_base.specs.declared.kinds.VarId.{VarId}
use Rattle.dk_base.specs.declared.values.Value.{Value}
use Rattle.dk_forms.specs.declared.states.State.{State}
use Rattle.dk_grammar.specs.Runs.{AreSlots, IsFirstChanged}
use Rattle.dk_template.specs.declared.grammar.RowId.{RowId}

pub first_changed_by_number : {S : Type 0} (vars : S → List VarId) (state : S → State) (sample : List Value) (run : List S) (found : Option ℕ)
    → (row : RowId) (n : ℕ) → row.0 ≡ n → IsFirstChanged vars state (record { 0 = n }) sample run found
    → IsFirstChanged vars state row sample run found
first_changed_by_number vars state sample run found row n e h =
    subst (λ (k : ℕ). IsFirstChanged vars state (record { 0 = k }) sample run found) (sym e) h

pub slots_by_number : {S : Type 0} (vars : S → List VarId) (state : S → State) (sample : List Value) (run : List S)
    → (row : RowId) (n : ℕ) → row.0 ≡ n → AreSlots vars state row sample run → AreSlots vars state (record { 0 = n }) sample run
slots_by_number vars state sample run row n e h = subst (λ (k : ℕ). AreSlots vars state (record { 0 = k }) sample run) e h
