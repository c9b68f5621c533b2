-- What is told of a point and of its parents.
use Rattle.std.specs.Prelude.{ℕ, Bool, List, Option}
use Rattle.dk_base.specs.declared.kinds.VarId.{VarId}
use Rattle.dk_base.specs.declared.kinds.VarInfo.{VarInfo}
use Rattle.dk_forms.specs.declared.states.State.{State}
use Rattle.dk_template.specs.declared.grammar.RowId.{RowId}

-- What answers for a point tells: its variables, the state of each row over them, in how many samples variables are present together,
-- and which two agree.
pub record Answers : Type 0 where
  pub infos : List VarInfo
  pub answered : RowId → List VarId → State
  pub counted : List VarId → ℕ
  pub agreeing : VarId → VarId → Bool

-- A parent, as an edge shows it: what answers for it, and for each of its variables the partner.
pub record Parent : Type 0 where
  pub answers : Answers
  pub partners : List (Option VarId)
