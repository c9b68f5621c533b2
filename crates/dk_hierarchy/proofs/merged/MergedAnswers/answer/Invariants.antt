use Rattle.std.specs.Prelude.{◌≡◌, drop}
use Rattle.dk_hierarchy.specs.Merging.{merged_state, states_joined}
use Rattle.dk_template.specs.Proper.{IsProper}
use Rattle.dk_template.specs.Templates.{form_of}
use Rattle.dk_hierarchy.proofs.merged.MergedAnswers.answer.Given as goal

abbrev pub invariant-loop-way : goal.invariant-loop-way
invariant-loop-way l =
    (states_joined l.self l.row l.vars l.state (drop l.way-index l.ways) ≡ merged_state l.self l.row l.vars) × IsProper (form_of l.row) l.state
