use Rattle.std.specs.Prelude.{◌≡◌, true, false}
use Rattle.std.specs.List.Sorted.{IsPartitionPoint}
use Rattle.std.proofs.Common.{arith, leb, rules}
use Rattle.std.proofs.lemmas.Bool.Decides.{nat_tests}
use Rattle.std.proofs.lemmas.List.Sorted.{IsPartitionPoint-from_clause, IsPartitionedBy-leb}
use Rattle.dk_engine.proofs.Running.{rows_rise}
use Rattle.dk_engine.specs.Reading.Parts.{no_slot}
use Rattle.dk_engine.specs.declared.slots.slot.Slot.{Slot}
use Rattle.dk_engine.proofs.feed.runs.rows_end.Goals as goal

pub returns-clause-in_front : goal.returns-clause-in_front
returns-clause-in_front c k l =
    let slots = c.args.slots.now in
    let row = c.args.row in
    let parted : IsPartitionPoint (λ (s : Slot). leb s.row.0 row.0 ≡ true) (λ s. leb s.row.0 row.0 ≡ false) slots c.partition_point.result =
    IsPartitionPoint-from_clause (λ (s : Slot). leb s.row.0 row.0) slots c.partition_point.result c.partition_point.ensures.partitioned
    (IsPartitionedBy-leb (λ (s : Slot). s.row.0) slots row.0 (rows_rise slots c.requires)) (λ a r f called. search rules) in
    let low = parted.0 k no_slot (omega arith) l in grind (arith, nat_tests, low)

pub returns-clause-behind : goal.returns-clause-behind
returns-clause-behind c k from l =
    let slots = c.args.slots.now in
    let row = c.args.row in
    let parted : IsPartitionPoint (λ (s : Slot). leb s.row.0 row.0 ≡ true) (λ s. leb s.row.0 row.0 ≡ false) slots c.partition_point.result =
    IsPartitionPoint-from_clause (λ (s : Slot). leb s.row.0 row.0) slots c.partition_point.result c.partition_point.ensures.partitioned
    (IsPartitionedBy-leb (λ (s : Slot). s.row.0) slots row.0 (rows_rise slots c.requires)) (λ a r f called. search rules) in
    let high = parted.1 k no_slot from l in grind (arith, nat_tests, high)
