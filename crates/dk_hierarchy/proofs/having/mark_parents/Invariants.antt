use Rattle.std.specs.Prelude.{◌≡◌, drop}
use Rattle.dk_hierarchy.specs.Having.{marked_all}
use Rattle.dk_hierarchy.proofs.having.mark_parents.Given as goal

abbrev pub invariant-loop-edge : goal.invariant-loop-edge
invariant-loop-edge l = marked_all (drop l.edge-index l.edges) (record { marks = l.marks; waiting = l.waiting.items })
    ≡ marked_all l.edges (record { marks = l.initial.marks; waiting = l.initial.waiting.items })
