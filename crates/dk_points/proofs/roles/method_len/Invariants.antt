use Rattle.std.proofs.Common.{◌≡◌, ◌≤◌, length, filter, unwrap_or, None}
use Rattle.std.specs.List.{last_or, range_with_len}
use Rattle.dk_points.specs.Names.{is_separator}
use Rattle.dk_points.proofs.roles.method_len.Given as goal

-- the last separator in front of this place
abbrev pub invariant-loop-place : goal.invariant-loop-place
invariant-loop-place l = record {
  last : l.len ≡ unwrap_or (last_or None (filter (is_separator l.name) (range_with_len 0 l.place))) (length l.name);
  within : l.len ≤ length l.name;
}
