use Rattle.std.proofs.Common.{◌≡◌, ◌<◌, ap, arith, length, sym, subst}
use Rattle.dk_core.proofs.Asking.{asked, grammar_is, if_ok_map, on_ok_if, stats_told}
use Rattle.dk_blocks.specs.Standing.{points_of as points_in}
use Rattle.dk_core.specs.Keeping.{Keeping}
use Rattle.dk_core.specs.Standing.{Stands}
use Rattle.dk_core.proofs.kept.SessionParts.push_stats.Goals as goal

pub returns-clause-has : goal.returns-clause-has
returns-clause-has c h stands =
    let k : Keeping = record { reader = c.self.inside.reader; grammar = c.self.inside.grammar; engines = c.self.inside.engines.items } in
    let own : Stands k h = subst (λ (x : Keeping). Stands x h) (sym c.self.view_is) stands in
    if_ok_map c.push_stats.result _ _ c.push_stats.ensures.samples (λ some says. says h.samples (asked k c.points.result.now c.as_slice.result.now h own c.points.ensures.points c.as_slice.ensures.value))

pub returns-clause-text : goal.returns-clause-text
returns-clause-text c h stands =
    let k : Keeping = record { reader = c.self.inside.reader; grammar = c.self.inside.grammar; engines = c.self.inside.engines.items } in
    let own : Stands k h = subst (λ (x : Keeping). Stands x h) (sym c.self.view_is) stands in
    let points : points_in c.self.inside.reader ≡ points_in c.args.self.now.reader = ap (λ (x : Keeping). points_in x.reader) c.self.view_is in
    let within : c.args.p.0 < length (points_in k.reader) = omega (arith, c.requires, ap length points) in
    (on_ok_if c.push_stats.result _ _ c.push_stats.ensures.text
    (λ says. stats_told k c.points.result.now h c.args.p.0 c.args.text.now c.push_stats.new.text _ own c.points.ensures.points (grammar_is k c.as_slice.result.now c.args.p.0 c.self.invariant c.as_slice.ensures.value within) (says h.samples (asked k c.points.result.now c.as_slice.result.now h own c.points.ensures.points c.as_slice.ensures.value))))
