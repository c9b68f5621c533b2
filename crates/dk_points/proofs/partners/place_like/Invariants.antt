use Rattle.std.proofs.Common.{◌≡◌, ◌+◌, drop}
use Rattle.std.specs.List.{position_or_len}
use Rattle.dk_points.specs.Partners.{is_like}
use Rattle.dk_points.proofs.partners.place_like.Given as goal

abbrev pub invariant-loop-place : goal.invariant-loop-place
invariant-loop-place l = l.place + position_or_len (is_like l.w l.name) (drop l.place l.vars) ≡ position_or_len (is_like l.w l.name) l.vars
