-- What the kept parts of two lists of samples say together.
use Rattle.std.specs.Prelude.{◌≡◌, ◌+◌, ◌&&◌, ℕ, Bool, List, length}
use Rattle.dk_base.specs.declared.kinds.VarId.{VarId}
use Rattle.dk_engine.specs.Exact.{AreOfPoint}
use Rattle.dk_engine.specs.Reading.{agree_read, count_read, state_read}
use Rattle.dk_engine.specs.Reading.Levels.{Whole}
use Rattle.dk_engine.specs.declared.kept.Kept.{Kept}
use Rattle.dk_forms.specs.declared.states.State.{State}
use Rattle.dk_presence.specs.Patterns.{capped}
use Rattle.dk_template.specs.Joins.{joined}
use Rattle.dk_template.specs.Templates.{form_of}
use Rattle.dk_template.specs.declared.grammar.RowId.{RowId}

-- two engines
pub record Pair : Type 0 where
  pub first : Whole
  pub second : Whole

-- They are over the same variables, and answer for the same rows.
pub record AreAlike (pair : Pair) : Type 0 where
  pub grammar : pair.second.grammar ≡ pair.first.grammar
  pub infos : pair.second.infos ≡ pair.first.infos

-- They are over the same variables, those of a point, each of which has a leader in both.
pub record AreOfOnePoint (pair : Pair) : Type 0 where
  pub alike : AreAlike pair
  pub point : AreOfPoint pair.first.infos
  pub first_leaders : length pair.first.kept.leaders ≡ length pair.first.infos
  pub second_leaders : length pair.second.kept.leaders ≡ length pair.first.infos

-- the state of a row over variables: the join of both states
unfoldable pub read_joined : Kept → Kept → RowId → List VarId → State
read_joined first second row vars = joined (form_of row) (state_read first row vars) (state_read second row vars)

-- what two engines answer
abbrev pub answer_of : Pair → RowId → List VarId → State
answer_of pair = read_joined pair.first.kept pair.second.kept

-- in how many samples of both none of the variables is missing
abbrev pub count_joined : Kept → Kept → List VarId → ℕ
count_joined first second vars = capped (count_read first vars + count_read second vars)

-- whether two variables agree in both
abbrev pub agree_joined : Kept → Kept → VarId → VarId → Bool
agree_joined first second v w = agree_read first v w && agree_read second v w
