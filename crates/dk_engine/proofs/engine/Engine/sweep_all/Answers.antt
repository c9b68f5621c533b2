use Rattle.std.specs.Prelude.{◌≡◌}
use Rattle.std.proofs.Common.{rules, subst, sym}
use Rattle.std.proofs.lemmas.Result.{IfOk-weaker}
use Rattle.dk_base.specs.Values.{values_of}
use Rattle.dk_classes.specs.Leaders.{own_leaders}
use Rattle.dk_engine.proofs.StillFed.{swept_formed}
use Rattle.dk_engine.specs.Exact.{AreOfPoint}
use Rattle.dk_engine.specs.Feeding.{read_after, slots_of}
use Rattle.dk_engine.specs.Reading.Levels.{Whole}
use Rattle.dk_engine.specs.Saved.Conditions.{AreFormed, CanBeFed}
use Rattle.dk_engine.proofs.engine.Engine.sweep_all.Goals as goal

pub returns-clause-formed : goal.returns-clause-formed
returns-clause-formed c =
    let w : Whole = c.args.self.now in
    let sample = values_of c.args.sample.now in
    let now = c.args.now.now in
    let point : AreOfPoint w.infos = subst (λ (v : Whole). AreOfPoint v.infos) c.self.view_is c.self.invariant.0 in
    let can : CanBeFed w.grammar w.infos w.kept = subst (λ (v : Whole). CanBeFed v.grammar v.infos v.kept) c.self.view_is c.self.invariant.1 in
    let slots = slots_of w.grammar w.infos (own_leaders now.leaders) now.known (read_after w.kept sample) in
    IfOk-weaker c.all.result (λ s. s ≡ slots) (AreFormed w.grammar w.infos now.leaders)
    (λ s e. subst (AreFormed w.grammar w.infos now.leaders) (sym e) (swept_formed w.grammar w.infos point w.kept can sample c.requires now)) (search rules)
