use Rattle.std.proofs.Common.{◌≡◌, ◌-◌, length}
use Rattle.dk_table.specs.Tables.Marks.{AreAhead}
use Rattle.dk_table.proofs.rows.marks.Marks.found.Given as goal

abbrev pub invariant-blocks-2 : goal.invariant-blocks-2
invariant-blocks-2 l = record { ahead : AreAhead l.separator l.bytes l.marks; place : l.marks.place ≡ l.fn.self.place }

abbrev pub decreases-blocks-2 : goal.decreases-blocks-2
decreases-blocks-2 l = length l.bytes - l.marks.block
