-- What a text is read as: the first instance that has it, and its state.
use Rattle.std.specs.Prelude.{◌≡◌, ◌==◌, ℕ, IsTrue, List, if◌then◌else◌}
use Rattle.dk_base.specs.declared.kinds.VarId.{VarId}
use Rattle.dk_base.specs.declared.kinds.VarInfo.{VarInfo}
use Rattle.dk_forms.specs.declared.states.State.{State}
use Rattle.dk_forms.specs.declared.states.State.TheVariants as state
use Rattle.dk_instances.specs.Instances.{ComesBefore, IsInstance}
use Rattle.dk_print.specs.Texts.{instance_text}
use Rattle.dk_template.specs.Fitting.{fits}
use Rattle.dk_template.specs.Proper.{IsProper}
use Rattle.dk_template.specs.Templates.{form_of}
use Rattle.dk_template.specs.declared.grammar.Grammar.TheVariants as grammar
use Rattle.dk_template.specs.declared.grammar.RowId.{RowId}
use Rattle.dk_expr.specs.Held.{is_held}
use Rattle.dk_expr.specs.declared.assertions.Assertion.{Assertion}

-- an instance prints this text with this state, which is proper for its row and fits
pub record HasText (infos : List VarInfo) (text : List ℕ) (row : RowId) (vars : List VarId) (s : State) : Type 0 where
  pub instance : IsInstance grammar.Two infos row vars
  pub proper : IsProper (form_of row) s
  pub holds : IsTrue (fits s)
  pub held : IsTrue (is_held s)
  pub prints : instance_text infos row vars s ≡ text

-- no instance that comes before this one has the text
abbrev pub IsFirst : List VarInfo → List ℕ → RowId → List VarId → Type 0
IsFirst infos text row vars =
    (q : RowId) (others : List VarId) (t : State) → HasText infos text q others t → ¬ ComesBefore (q, others) (row, vars)

-- What is read of a state. The text that there is only one hash code, which isn't null, doesn't tell the code: nothing is known yet.
abbrev pub told_state : State → State
told_state (state.Code h) = if h == 0 then state.Code 0 else state.Empty
told_state s = s

-- the text is read as this: the first instance that has it, and its state
pub record IsRead (infos : List VarInfo) (text : List ℕ) (read : Assertion) : Type 0 where
  pub printed : State
  pub has : HasText infos text read.row read.vars printed
  pub first : IsFirst infos text read.row read.vars
  pub tells : read.state ≡ told_state printed

-- no instance has the text
abbrev pub HasNone : List VarInfo → List ℕ → Type 0
HasNone infos text = (row : RowId) (vars : List VarId) (s : State) → ¬ HasText infos text row vars s
