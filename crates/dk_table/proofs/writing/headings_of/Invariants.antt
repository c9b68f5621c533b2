use Rattle.std.proofs.Common.{◌≡◌, map, take}
use Rattle.std.specs.List.{zip}
use Rattle.dk_table.specs.Writing.Forms.{heading_of}
use Rattle.dk_table.proofs.writing.headings_of.Given as goal

abbrev pub invariant-loop-i : goal.invariant-loop-i
invariant-loop-i l = l.headings ≡ map heading_of (take l.i (zip l.vars l.kinds))
