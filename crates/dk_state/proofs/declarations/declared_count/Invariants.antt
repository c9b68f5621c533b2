use Rattle.std.proofs.Common.{◌≡◌, ◌≤◌, length, take}
use Rattle.dk_state.specs.Declarations.{decls_of}
use Rattle.dk_state.proofs.declarations.declared_count.Given as goal

abbrev pub invariant-loop-p : goal.invariant-loop-p
invariant-loop-p l = record {
  counted : l.count ≡ length (decls_of (take l.p l.points));
  few : l.count ≤ l.p;
}
