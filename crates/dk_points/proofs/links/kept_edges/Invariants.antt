use Rattle.std.proofs.Common.{◌≡◌, ◌++◌, drop, filter, map, not}
use Rattle.std.specs.List.{enumerate_from}
use Rattle.std.specs.Option.{option_map}
use Rattle.dk_points.specs.KeptEdges.{is_dropped, kept_by}
use Rattle.dk_points.proofs.links.kept_edges.Given as goal

abbrev pub invariant-loop-place : goal.invariant-loop-place
invariant-loop-place l = record {
  places : l.places ++ map (λ e. e.0) (filter (λ e. not (is_dropped (option_map (λ c. c.now) l.combined) l.taken e.1)) (enumerate_from l.place (drop l.place l.edges)))
      ≡ map (λ e. e.0) (kept_by (option_map (λ c. c.now) l.combined) l.taken l.edges);
  links : l.links ++ map (λ e. e.1.parent) (filter (λ e. not (is_dropped (option_map (λ c. c.now) l.combined) l.taken e.1)) (enumerate_from l.place (drop l.place l.edges)))
      ≡ map (λ e. e.1.parent) (kept_by (option_map (λ c. c.now) l.combined) l.taken l.edges);
}
