use Rattle.std.specs.Prelude.{All, List}
use Rattle.std.proofs.Common.{subst, sym}
use Rattle.dk_base.specs.Values.{values_of}
use Rattle.dk_base.specs.declared.values.View.{View}
use Rattle.dk_engine.specs.Exact.{AreOfKinds}
use Rattle.dk_instances.specs.Laws.{IsSample}
use Rattle.dk_replay.proofs.Drawing.{sample_more}
use Rattle.dk_replay.specs.Samples.{samples_of}
use Rattle.dk_replay.proofs.replaying.feed.Goals as goal

pub returns-in_ok-push-clause-samples : goal.returns-in_ok-push-clause-samples
returns-in_ok-push-clause-samples c =
    let infos = c.args.engine.now.infos in
    let kinds = subst (λ (vs : List View). AreOfKinds infos (values_of vs)) c.as_slice.ensures (c.takes.ensures.0 c.if-takes.true) in
    subst (λ (ss : List (List View)). All (IsSample infos) (samples_of ss)) (sym c.in_ok-push.ensures.ok)
    (sample_more infos c.args.samples.now c.args.next c.requires.samples (record { kinds = kinds; written = c.requires.written }))
