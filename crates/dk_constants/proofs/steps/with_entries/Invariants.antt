use Rattle.std.proofs.Common.{◌≡◌}
use Rattle.std.specs.Option.{option_or}
use Rattle.dk_base.specs.declared.kinds.VarId.{VarId}
use Rattle.dk_constants.specs.Known.{EntriesAscend, known_at}
use Rattle.dk_constants.proofs.steps.with_entries.Given as goal

abbrev pub invariant-loop-entry : goal.invariant-loop-entry
invariant-loop-entry l = record {
  ascend : EntriesAscend l.more.items;
  known : (v : VarId) → known_at l.more.items v ≡ option_or (known_at l.fn.known.items v) (known_at l.yielded v);
}
