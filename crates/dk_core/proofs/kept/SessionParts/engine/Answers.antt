use Rattle.std.proofs.Common.{◌≡◌, ◌∙◌, ap, arith, length, slice_get, sym, subst, Some}
use Rattle.dk_engine.specs.Reading.Levels.{Whole}
use Rattle.dk_core.proofs.Keeping.{all_get, got}
use Rattle.dk_core.proofs.Taking.{engine_stands}
use Rattle.dk_blocks.specs.Standing.{points_of as points_in}
use Rattle.dk_core.specs.Keeping.{Keeping}
use Rattle.dk_core.specs.Standing.{Stands}
use Rattle.dk_core.proofs.kept.SessionParts.engine.Goals as goal

pub returns-clause-grammar : goal.returns-clause-grammar
returns-clause-grammar c =
    let k : Keeping = record { reader = c.self.inside.reader; grammar = c.self.inside.grammar; engines = c.self.inside.engines.items } in
    let points : points_in c.self.inside.reader ≡ points_in c.args.self.now.reader = ap (λ (x : Keeping). points_in x.reader) c.self.view_is in
    let at : slice_get k.engines c.args.p.0 ≡ Some c.index.result.now =
    got k.engines c.args.p.0 c.index.result.now (omega (arith, c.requires, ap length points, c.self.invariant.engines.long)) c.index.ensures in
    all_get (λ (e : Whole). e.grammar ≡ k.grammar) k.engines c.args.p.0 c.index.result.now c.self.invariant.grammar at ∙ ap (λ (x : Keeping). x.grammar) c.self.view_is

pub returns-clause-stands : goal.returns-clause-stands
returns-clause-stands c h stands =
    let k : Keeping = record { reader = c.self.inside.reader; grammar = c.self.inside.grammar; engines = c.self.inside.engines.items } in
    let points : points_in c.self.inside.reader ≡ points_in c.args.self.now.reader = ap (λ (x : Keeping). points_in x.reader) c.self.view_is in
    let at : slice_get k.engines c.args.p.0 ≡ Some c.index.result.now =
    got k.engines c.args.p.0 c.index.result.now (omega (arith, c.requires, ap length points, c.self.invariant.engines.long)) c.index.ensures in
    engine_stands k c.args.p.0 c.index.result.now h at (subst (λ (x : Keeping). Stands x h) (sym c.self.view_is) stands)
