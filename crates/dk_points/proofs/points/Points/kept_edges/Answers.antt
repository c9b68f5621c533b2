use Rattle.std.proofs.Common.{◌≡◌, ◌∙◌, [], IfOk, map, ap, subst}
use Rattle.std.specs.Option.{option_map, option_map_or}
use Rattle.dk_points.proofs.KeptBy.{kept-declared}
use Rattle.dk_points.specs.KeptEdges.{kept_by}
use Rattle.dk_points.specs.Links.{edges_of_implicit, kept_edges}
use Rattle.dk_points.specs.Names.{combined_of}
use Rattle.dk_points.specs.Table.{declared_point}
use Rattle.dk_points.proofs.points.Points.kept_edges.Goals as goal

whole : (c : goal.After-kept_edges) → kept_by (option_map (λ t. t.now) c.args.combined) c.taken_edges-taken.result.now c.as_slice.result.now ≡ kept_edges c.args.self.now (declared_point c.args.decl.now)
whole c =
    ap (λ taken. kept_by (option_map (λ t. t.now) c.args.combined) taken c.as_slice.result.now) c.taken_edges-taken.ensures
    ∙ ap (λ o. kept_by o (option_map_or (edges_of_implicit c.args.self.now) o []) c.as_slice.result.now) c.requires
    ∙ ap (kept_by (combined_of c.args.decl.now.name) (option_map_or (edges_of_implicit c.args.self.now) (combined_of c.args.decl.now.name) [])) c.as_slice.ensures
    ∙ kept-declared c.args.self.now c.args.decl.now

pub returns-clause-places : goal.returns-clause-places
returns-clause-places c = subst (λ es. IfOk c.kept_edges.result (λ kept. kept.places ≡ map (λ e. e.0) es)) (whole c) c.kept_edges.ensures.places

pub returns-clause-links : goal.returns-clause-links
returns-clause-links c = subst (λ es. IfOk c.kept_edges.result (λ kept. kept.links ≡ map (λ e. e.1.parent) es)) (whole c) c.kept_edges.ensures.links
