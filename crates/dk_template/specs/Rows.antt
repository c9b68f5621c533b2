-- What a row promises.
use Rattle.std.specs.Prelude.{◌≡◌, ℕ, List, [], ◌++◌, length, slice_get, All}
use Rattle.dk_base.specs.Values.{kind_of}
use Rattle.dk_base.specs.Values.Spelling.{IsWritten}
use Rattle.dk_base.specs.Values.Tuples.{value_at}
use Rattle.dk_base.specs.declared.kinds.Kind.{Kind}
use Rattle.dk_base.specs.declared.values.Value.{Value}
use Rattle.dk_forms.specs.Laws.{JoinLaws, SameSet}
use Rattle.dk_forms.specs.declared.states.State.{State}
use Rattle.dk_forms.specs.declared.states.State.TheVariants.{Empty, Broken}
use Rattle.dk_template.specs.Joins.{joined}
use Rattle.dk_template.specs.Proper.{IsProper}
use Rattle.dk_template.specs.declared.templates.StateForm.{StateForm}

-- a tuple of values of these kinds, role by role, none of them missing, each one that some text writes
pub record IsTuple (kinds : List Kind) (tuple : List Value) : Type 0 where
  pub arity : length tuple ≡ length kinds
  pub each : (role : ℕ) → kind_of (value_at tuple role) ≡ slice_get kinds role
  pub written : All IsWritten tuple

-- The laws of a row. Its proper states keep the laws of a join. The state of no tuples is Empty, that of two lists together is the
-- join, and it depends on the set of the tuples alone. The state of tuples of the row's kinds is proper.
pub record RowLaws (kinds : List Kind) (form : StateForm) (state_of : List (List Value) → State) : Type 0 where
  pub joins : JoinLaws (IsProper form) Empty Broken (joined form)
  pub none : state_of [] ≡ Empty
  pub both : (xs ys : List (List Value)) → state_of (xs ++ ys) ≡ joined form (state_of xs) (state_of ys)
  pub same : (xs ys : List (List Value)) → SameSet xs ys → state_of xs ≡ state_of ys
  pub proper : (tuples : List (List Value)) → All (IsTuple kinds) tuples → IsProper form (state_of tuples)
