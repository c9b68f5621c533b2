use Rattle.std.specs.Prelude.{◌≡◌, length}
use Rattle.dk_report.specs.Counting.{AreIndexes}
use Rattle.dk_report.proofs.counting.all_indexes.Given as goal

abbrev pub invariant-loop-way : goal.invariant-loop-way
invariant-loop-way l = record {
  long : length l.indexes.items ≡ l.way-index;
  are : AreIndexes l.merged l.indexes.items;
}
