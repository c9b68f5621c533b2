use Rattle.dk_merging.proofs.OneAnswer.{answers_are_determined, readings_save_the_same}
use Rattle.dk_merging.proofs.laws.answers_are_determined.Goals as goal

pub returns-clause-readings : goal.returns-clause-readings
returns-clause-readings c = readings_save_the_same

pub returns-clause-answers : goal.returns-clause-answers
returns-clause-answers c = answers_are_determined
