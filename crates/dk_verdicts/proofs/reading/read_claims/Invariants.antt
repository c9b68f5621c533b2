use Rattle.std.specs.Prelude.{IfSome}
use Rattle.dk_verdicts.proofs.Rereading.{AreRereadTo}
use Rattle.dk_verdicts.specs.Reading.{AreListed}
use Rattle.dk_verdicts.specs.Standing.{AreFindingsOf}
use Rattle.dk_verdicts.proofs.reading.read_claims.Given as goal

abbrev pub invariant-loop-place : goal.invariant-loop-place
invariant-loop-place l = record {
  reread : AreRereadTo l.place l.known l.points l.claims l.fn.findings.items l.findings.items;
  are_of : AreFindingsOf l.points l.findings.items;
  last : IfSome l.last (AreListed l.points);
}
