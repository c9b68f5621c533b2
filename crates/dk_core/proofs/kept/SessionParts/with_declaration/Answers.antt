use Rattle.std.proofs.Common.{ap, arith, length, subst, sym, List, Ok}
use Rattle.std.proofs.lemmas.Result.{err_from_is_err_and}
use Rattle.dk_engine.specs.Reading.Levels.{Whole}
use Rattle.dk_points.specs.Table.{Point}
use Rattle.dk_blocks.proofs.Growing.{more_points}
use Rattle.dk_blocks.specs.History.{with_declaration}
use Rattle.dk_blocks.specs.Standing.{ReaderStandsFor, points_of as points_in}
use Rattle.dk_core.proofs.Keeping.{engines_grown}
use Rattle.dk_core.proofs.Taking.{declared_taken}
use Rattle.dk_core.specs.Growing.{AreGrown}
use Rattle.dk_core.specs.Keeping.{Keeping}
use Rattle.dk_core.specs.Taking.{TakenAs}
use Rattle.dk_core.proofs.kept.SessionParts.with_declaration.Goals as goal

pub with_new-requires : goal.with_new-requires
with_new-requires c =
    let more = more_points (points_in c.self.inside.reader) (points_in c.in_ok-reader.reader) c.in_ok-reader.ensures.points in
    omega (arith, more, c.self.invariant.engines.long, ap length c.points.ensures.points)

pub invariant_of-result : goal.invariant_of-result
invariant_of-result c =
    let k : Keeping = record { reader = c.self.inside.reader; grammar = c.self.inside.grammar; engines = c.self.inside.engines.items } in
    let all : List Whole = c.in-Ok.engines.items in
    let grown = subst (λ (ps : List Point). AreGrown ps k.grammar k.engines all) c.points.ensures.points c.in-Ok.ensures in
    let sound = engines_grown (points_in k.reader) (points_in c.in_ok-reader.reader) k.grammar k.engines all c.in_ok-reader.ensures.points c.self.invariant.engines c.self.invariant.grammar grown in
    record { engines = sound.0; grammar = sound.1 }

pub returns-in-Ok-clause-gives : goal.returns-in-Ok-clause-gives
returns-in-Ok-clause-gives c h now stands =
    let k : Keeping = record { reader = c.self.inside.reader; grammar = c.self.inside.grammar; engines = c.self.inside.engines.items } in
    let all : List Whole = c.in-Ok.engines.items in
    let grown = subst (λ (ps : List Point). AreGrown ps k.grammar k.engines all) c.points.ensures.points c.in-Ok.ensures in
    subst (λ (x : Keeping). TakenAs x h (Ok (record { reader = c.in_ok-reader.reader; grammar = k.grammar; engines = all })) (with_declaration now c.args.line c.args.decl)) c.self.view_is
    (declared_taken k c.in_ok-reader.reader _ all h (with_declaration now c.args.line c.args.decl) grown
    (c.in_ok-reader.ensures.gives now (subst (λ (x : Keeping). ReaderStandsFor x.reader now) (sym c.self.view_is) stands)))

pub returns-in_err-reader-clause-gives : goal.returns-in_err-reader-clause-gives
returns-in_err-reader-clause-gives c h now stands =
    let p = err_from_is_err_and c.from_residual.result c.from_residual.ensures.1 in
    rw (p.1, p.2) (c.in_err-reader.ensures.gives now (subst (λ (x : Keeping). ReaderStandsFor x.reader now) (sym c.self.view_is) stands))
