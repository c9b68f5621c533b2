use Rattle.std.specs.Prelude.{◌≡◌, take}
use Rattle.dk_instances.specs.Fits.{fit}
use Rattle.dk_replay.specs.Samples.{samples_of}
use Rattle.dk_template.specs.Proper.{IsProper}
use Rattle.dk_template.specs.Templates.{form_of}
use Rattle.dk_replay.proofs.listed.ListedAnswers.answer.Given as goal

abbrev pub invariant-loop-sample : goal.invariant-loop-sample
invariant-loop-sample l = record {
  state : l.state ≡ fit l.row l.vars (samples_of (take l.sample-index l.samples));
  proper : IsProper (form_of l.row) l.state;
}
