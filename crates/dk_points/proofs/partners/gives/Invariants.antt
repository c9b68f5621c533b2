use Rattle.std.proofs.Common.{◌≡◌, ◌==◌, ◌&&◌, drop, bytes_eq}
use Rattle.std.specs.List.{list_any}
use Rattle.dk_points.specs.Partners.{gives}
use Rattle.dk_points.proofs.partners.gives.Given as goal

abbrev pub invariant-loop-line : goal.invariant-loop-line
invariant-loop-line l = list_any (λ p. p.edge == l.edge && bytes_eq l.name p.name) (drop l.line-index l.var.parents) ≡ gives l.edge l.name l.var
