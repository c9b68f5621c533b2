use Rattle.std.specs.Prelude.{◌&&◌, IsTrue, List}
use Rattle.std.proofs.Common.{subst, sym}
use Rattle.std.proofs.lemmas.Bool.{and_parts}
use Rattle.dk_base.specs.declared.kinds.VarId.{VarId}
use Rattle.dk_engine.specs.Reading.Levels.{Whole}
use Rattle.dk_filters.proofs.Asked.{admitted-there}
use Rattle.dk_filters.specs.declared.candidate.Candidate.{Candidate}
use Rattle.dk_instances.specs.Instances.{are_distinct}
use Rattle.dk_template.specs.Admitted.{admits, is_written}
use Rattle.dk_template.specs.Premises.{AreThere}
use Rattle.dk_implications.proofs.telling.is_told.Goals as goal

pub has_alike-requires-clause-vars : goal.has_alike-requires-clause-vars
has_alike-requires-clause-vars c =
    let whole : Whole = c.args.whole.now in
    let i : Candidate = c.args.instance.now in
    let admitted = (and_parts (admits i.row whole.infos i.vars) (is_written i.row i.vars && are_distinct i.vars) c.requires.instance.asked).0 in
    subst (AreThere whole.infos) (sym c.as_slice-vars.ensures.items) (admitted-there whole.infos i.row i.vars admitted)

pub answer-requires-clause-vars : goal.answer-requires-clause-vars
answer-requires-clause-vars c =
    let whole : Whole = c.args.whole.now in
    let i : Candidate = c.args.instance.now in
    let admitted = (and_parts (admits i.row whole.infos i.vars) (is_written i.row i.vars && are_distinct i.vars) c.requires.instance.asked).0 in
    subst (λ (vs : List VarId). IsTrue (admits i.row whole.infos vs)) (sym c.as_slice-vars.ensures.items) admitted
