use Rattle.std.proofs.Common.{◌≡◌, map, take}
use Rattle.dk_table.specs.Writing.Forms.{tail_of}
use Rattle.dk_table.proofs.writing.tails_before.Given as goal

abbrev pub invariant-loop-heading : goal.invariant-loop-heading
invariant-loop-heading l = l.tails ≡ map (λ h. tail_of h.line) (take l.heading-index l.headings)
