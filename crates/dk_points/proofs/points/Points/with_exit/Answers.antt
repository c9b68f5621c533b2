use Rattle.std.proofs.Common.{◌≡◌, ◌∙◌, ◌++◌, ◌∷◌, [], Some, map, sym, ap, subst, IfOk}
use Rattle.dk_points.proofs.Exits.{combined-differs, exit-next, exit-point, makes-new, makes-subexit, subexit-next}
use Rattle.dk_points.proofs.MorePoints.{declared-point-at}
use Rattle.dk_points.specs.Kept.{TableGrows, point_of_place}
use Rattle.dk_points.specs.KeptEdges.{kept_by}
use Rattle.dk_points.specs.Next.{IsNext}
use Rattle.dk_points.specs.declared.places.Own.{Own}
use Rattle.dk_points.proofs.points.Points.with_exit.Goals as goal

pub with_two-requires-clause-differ : goal.with_two-requires-clause-differ
with_two-requires-clause-differ c =
    let shared = c.in_ok-clone.ensures.cases ∙ c.in_ok-own.ensures.ok in
    rw (c.in_ok-exit.ensures.name, c.requires.combined, c.in_ok-point.ensures.name, shared)
    (combined-differs c.args.own.decl.name (makes-subexit c.args.self c.args.own.decl c.requires.makes))

pub with_two-requires-clause-first : goal.with_two-requires-clause-first
with_two-requires-clause-first c =
    exit-next c.args.self c.args.own c.requires.makes c.requires.own c.requires.few_vars c.in_ok-exit.exit (c.in_ok-exit.ensures.own ∙ c.in_ok-own.ensures.ok)
    c.in_ok-exit.ensures.implicit c.args.combined c.requires.combined c.in_ok-exit.ensures.name
    (c.in_ok-exit.ensures.kept ∙ ap (λ (o : Own). map (λ e. e.0) (kept_by (Some c.args.combined) [] o.decl.edges)) c.in_ok-own.ensures.ok)
    (c.in_ok-exit.ensures.links ∙ ap (λ (o : Own). map (λ e. e.1.parent) (kept_by (Some c.args.combined) [] o.decl.edges)) c.in_ok-own.ensures.ok)

pub with_two-requires-clause-second : goal.with_two-requires-clause-second
with_two-requires-clause-second c =
    let shared = c.in_ok-clone.ensures.cases ∙ c.in_ok-own.ensures.ok in
    subst (λ p. IsNext (c.args.self ++ p ∷ []) c.in_ok-point.point)
    (sym (exit-point c.args.own c.in_ok-exit.exit.place (c.in_ok-exit.ensures.own ∙ c.in_ok-own.ensures.ok) c.in_ok-exit.ensures.implicit))
    (subexit-next c.args.self c.args.own c.requires.makes c.requires.own c.requires.few_vars c.in_ok-point.point (c.in_ok-point.ensures.own ∙ shared)
    c.in_ok-point.ensures.declared (c.in_ok-point.ensures.name ∙ ap (λ (o : Own). o.decl.name) shared) c.args.combined c.requires.combined
    c.in_ok-point.ensures.kept c.in_ok-point.ensures.links)
