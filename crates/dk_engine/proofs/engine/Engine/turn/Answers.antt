use Rattle.std.specs.Prelude.{◌≡◌, None, All, List}
use Rattle.std.proofs.Common.{rules, subst, sym}
use Rattle.dk_base.specs.declared.kinds.VarId.{VarId}
use Rattle.dk_classes.proofs.OwnLeaders.{own_ascend}
use Rattle.dk_constants.specs.Known.{known_at}
use Rattle.dk_samples.specs.Leaders.{VarsAscend}
use Rattle.dk_engine.proofs.Turned.{unknown}
use Rattle.dk_engine.proofs.engine.Engine.turn.Goals as goal

pub first-requires : goal.first-requires
first-requires c = subst VarsAscend (sym c.leaders-then-self-eq0.ensures.all) (own_ascend c.in_ok-leaders.leaders)

pub feed_with-requires-clause-unknown : goal.feed_with-requires-clause-unknown
feed_with-requires-clause-unknown c =
    let e = c.self.inside in
    let new : c.as_slice.result.now ≡ c.in_ok-leaders.new = search rules in
    subst (λ (ns : List (VarId × VarId)). All (λ n. known_at e.kept.known n.0 ≡ None) ns) (sym new)
    (unknown e.grammar e.infos e.kept c.self.invariant.1 c.in_ok-leaders.leaders c.in_ok-leaders.new c.in_ok-leaders.ensures.new)
