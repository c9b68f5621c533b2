use Rattle.std.proofs.Common.{◌≡◌, length}
use Rattle.dk_calls.specs.Stacks.{below_first, is_at}
use Rattle.dk_calls.proofs.stack.Stack.cut.Given as goal

-- what lies below the point's latest entry is the same
abbrev pub invariant-cut : goal.invariant-cut
invariant-cut l = below_first (is_at l.point) l.self ≡ below_first (is_at l.point) l.initial.self

abbrev pub decreases-cut : goal.decreases-cut
decreases-cut l = length l.self
