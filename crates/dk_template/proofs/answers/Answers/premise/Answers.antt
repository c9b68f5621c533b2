use Rattle.std.proofs.Common.{subst}
use Rattle.dk_template.specs.Premises.{MayWantMemory}
use Rattle.dk_template.proofs.Askings.{premise_quiet}
use Rattle.dk_template.proofs.answers.Answers.premise.Goals as goal

pub unreachable-requires : goal.unreachable-requires
unreachable-requires g c = premise_quiet c.args.premise.now c.requires.formed (subst MayWantMemory c.asked_row.ensures c.in-Err.ensures.err)
