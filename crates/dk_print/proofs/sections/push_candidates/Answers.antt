use Rattle.dk_print.specs.Sections.{candidate_line}
use Rattle.dk_print.proofs.Pieces.{one_more}
use Rattle.dk_print.proofs.sections.push_candidates.Goals as goal

pub loop-candidate-preserved : goal.loop-candidate-preserved
loop-candidate-preserved c =
    one_more (candidate_line c.args.vars.now) c.args.list.now c.loop-candidate.candidate-index c.candidate-item.result c.args.text.now c.loop-candidate.text c.push_candidate.new.text
    c.loop-candidate-test.true c.candidate-item.is c.loop-candidate.invariant c.in_ok-push_candidate.ensures
