use Rattle.std.proofs.Common.{◌≡◌, ◌+◌, nat_lt, drop}
use Rattle.std.specs.List.{position_or_len}
use Rattle.dk_graph.proofs.rows.place_by_number.Given as goal

abbrev pub invariant-loop-place : goal.invariant-loop-place
invariant-loop-place l = l.place + position_or_len (λ e. nat_lt l.number e.number) (drop l.place l.row) ≡ position_or_len (λ e. nat_lt l.number e.number) l.row
