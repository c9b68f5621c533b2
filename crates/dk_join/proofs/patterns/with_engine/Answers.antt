use Rattle.std.specs.Prelude.{IfOk, List}
use Rattle.std.proofs.Common.{◌∙◌, subst}
use Rattle.dk_base.specs.declared.kinds.VarId.{VarId}
use Rattle.dk_presence.specs.declared.held.Held.{Held}
use Rattle.dk_join.specs.Tallies.{AreAdded}
use Rattle.dk_join.proofs.patterns.with_engine.Goals as goal

pub returns : goal.returns
returns c =
    let kept = c.args.engine.now.kept in
    let Added : List VarId → List Held → Type 0 = λ old held. IfOk c.with_patterns.result (AreAdded old c.args.leaders.now held c.args.tally) in
    subst (Added kept.leaders) (c.held.ensures.all ∙ c.presence.ensures) (subst (λ old. Added old c.held.result.now) c.classes.ensures c.with_patterns.ensures)
