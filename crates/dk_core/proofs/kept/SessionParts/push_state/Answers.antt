use Rattle.std.proofs.Common.{sym, subst}
use Rattle.dk_core.proofs.Resuming.{on_ok, state_told}
use Rattle.dk_core.specs.Keeping.{Keeping}
use Rattle.dk_core.specs.Standing.{Stands}
use Rattle.dk_core.proofs.kept.SessionParts.push_state.Goals as goal

pub returns-clause-history : goal.returns-clause-history
unfolding Stands
returns-clause-history c =
    let k : Keeping = record { reader = c.self.inside.reader; grammar = c.self.inside.grammar; engines = c.self.inside.engines.items } in
    on_ok c.push_saved.result _ _ c.push_saved.ensures.stands
    (λ says h stands. let own : Stands k h = subst (λ (x : Keeping). Stands x h) (sym c.self.view_is) stands in
    state_told k h c.points.result.now c.as_slice.result.now c.implicit.result c.args.text.now c.push_saved.new.text c.self.invariant own c.points.ensures.points c.as_slice.ensures.value (c.implicit.ensures.history h own.reader) says)
