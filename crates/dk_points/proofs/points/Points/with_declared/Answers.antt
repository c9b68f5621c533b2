use Rattle.std.proofs.Common.{◌≡◌, ◌∙◌, ◌++◌, ◌∷◌, [], ap, subst, IfOk}
use Rattle.dk_graph.specs.Names.{place_of}
use Rattle.dk_points.proofs.MorePoints.{declared-next, declared-point-at}
use Rattle.dk_points.specs.Kept.{TableGrows}
use Rattle.dk_points.specs.Table.{names}
use Rattle.dk_points.proofs.points.Points.with_declared.Goals as goal

pub with_one-requires-clause-new : goal.with_one-requires-clause-new
with_one-requires-clause-new c = ap (place_of (names c.args.self)) c.in_ok-added.ensures.name ∙ c.requires.new

pub with_one-requires-clause-next : goal.with_one-requires-clause-next
with_one-requires-clause-next c =
    declared-next c.args.self c.args.own c.requires.own c.requires.few_vars c.in_ok-added.added c.in_ok-added.ensures.own c.in_ok-added.ensures.declared
    c.in_ok-added.ensures.name c.in_ok-kept.kept.links c.args.combined c.in_ok-added.ensures.links c.in_ok-kept.ensures.links c.requires.combined
    (c.in_ok-added.ensures.kept ∙ c.in_ok-kept.ensures.places)

pub returns : goal.returns
returns c =
    subst (λ p. IfOk c.with_one.result (λ points. TableGrows points (c.args.self ++ p ∷ [])))
    (declared-point-at c.args.own c.in_ok-added.added.place c.in_ok-added.ensures.own c.in_ok-added.ensures.declared) c.with_one.ensures
