use Rattle.std.specs.Prelude.{◌≡◌, All}
use Rattle.dk_instances.specs.Laws.{IsSample}
use Rattle.dk_replay.specs.Samples.{samples_of}
use Rattle.dk_replay.proofs.replaying.feed_all.Given as goal

abbrev pub invariant-loop : goal.invariant-loop
invariant-loop l = record {
  infos : l.engine.infos ≡ l.fn.engine.infos;
  samples : All (IsSample l.engine.infos) (samples_of l.samples);
}
