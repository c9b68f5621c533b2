use Rattle.std.proofs.Common.{◌≡◌, drop, find}
use Rattle.dk_points.specs.Partners.{gives}
use Rattle.dk_points.proofs.partners.giver.Given as goal

abbrev pub invariant-loop-var : goal.invariant-loop-var
invariant-loop-var l = find (gives l.edge l.name) (drop l.var-index l.vars) ≡ find (gives l.edge l.name) l.vars
