use Rattle.std.proofs.Common.{◌≡◌, ◌++◌, [], All, IsTrue, Some}
use Rattle.dk_state.specs.Given.{is_given_point}
use Rattle.dk_state.specs.Spelling.{table_behind}
use Rattle.dk_state.proofs.loading.table_of.Given as goal

abbrev pub invariant-loop-decl : goal.invariant-loop-decl
invariant-loop-decl l = record {
  given : All (λ d. IsTrue (is_given_point d)) l.yielded;
  rest : l.yielded ++ l.decl-iterator.rest.items ≡ l.fn.decls;
  made : table_behind [] l.yielded ≡ Some l.points;
}
