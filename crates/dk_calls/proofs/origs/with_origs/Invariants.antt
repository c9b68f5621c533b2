use Rattle.std.proofs.Common.{◌≡◌, ◌++◌, List, drop}
use Rattle.dk_base.specs.Values.{values_of}
use Rattle.dk_base.specs.declared.kinds.VarInfo.{VarInfo}
use Rattle.dk_points.specs.Vars.{orig_vars}
use Rattle.dk_calls.specs.Origs.{IsPassed, orig_values}
use Rattle.dk_calls.proofs.origs.with_origs.Given as goal

-- the orig variables from here on are those of the entry's variables from here on, and so are the values
abbrev pub invariant-loop-i : goal.invariant-loop-i
invariant-loop-i l = (exit : List VarInfo) → l.origs ≡ orig_vars l.entry exit
    → IsPassed exit (drop l.i l.entry) (drop l.i l.kept) (drop l.place l.origs) (values_of l.more.items) (values_of l.fn.values.items ++ orig_values l.entry exit l.kept)
