use Rattle.std.specs.Prelude.{◌≡◌, ◌≤◌, ℕ, None, length, slice_index_or}
use Rattle.dk_report.proofs.Counts.{AreDone}
use Rattle.dk_report.specs.Counting.{brought}
use Rattle.dk_report.proofs.counting.add_way.Given as goal

abbrev pub invariant-loop-place : goal.invariant-loop-place
invariant-loop-place l = record {
  long : length l.found.items ≡ length l.initial.found.items;
  done : AreDone l.initial.found.items (brought l.engine.kept l.way) l.place l.found.items;
  rest : (v : ℕ) → l.place ≤ v → slice_index_or l.found.items v None ≡ slice_index_or l.initial.found.items v None;
}
