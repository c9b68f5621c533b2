use Rattle.std.proofs.Common.{◌≡◌, [], drop, take}
use Rattle.dk_write.specs.Writable.{is_known_var, none_twice}
use Rattle.dk_write.proofs.writable.no_var_twice.Given as goal

abbrev pub invariant-loop-i : goal.invariant-loop-i
invariant-loop-i l = none_twice is_known_var (take l.i l.vars) (drop l.i l.vars) ≡ none_twice is_known_var [] l.vars
