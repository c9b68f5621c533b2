use Rattle.std.specs.Prelude.{All, take}
use Rattle.dk_base.specs.Values.{values_of}
use Rattle.dk_grammar.specs.Runs.{Stays}
use Rattle.dk_grammar.proofs.sweep.first_changed_by.Given as goal

abbrev pub invariant-loop-place : goal.invariant-loop-place
invariant-loop-place g l =
    All (λ slot. Stays (g.R.Row.form l.row) (g.R.Row.state_of l.row) (values_of l.sample) (g.S.Slot.vars slot) (g.S.Slot.state slot)) (take l.place l.run)
