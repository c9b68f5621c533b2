use Rattle.std.proofs.Common.{◌≡◌, map}
use Rattle.dk_snapshot.specs.Restored.{entry_of}
use Rattle.dk_snapshot.proofs.entries.entries_of.Given as goal

abbrev pub invariant-loop-constant : goal.invariant-loop-constant
invariant-loop-constant l = l.entries ≡ map entry_of l.yielded
