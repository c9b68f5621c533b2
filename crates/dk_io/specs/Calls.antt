-- Calls that are counted, some of which fail.
use Rattle.std.specs.Prelude.{◌+◌, ◌-◌, ◌^◌, Bool, ℕ, List, ◌==◌, min, if◌then◌else◌}
use Rattle.std.specs.List.{list_any}

-- the numbers of the calls that fail, counted from 1; how many calls there were, and how many faults
pub record Calls : Type 0 where
  pub failing : List ℕ
  pub count : ℕ
  pub faults : ℕ

-- no call was made
abbrev pub uncalled : List ℕ → Calls
uncalled failing = record { failing = failing; count = 0; faults = 0 }

-- one more, up to the type's end
abbrev pub one_more : ℕ → ℕ
one_more n = min (n + 1) (2 ^ 64 - 1)

-- the next call is on the list of those that fail
abbrev pub next_fails : Calls → Bool
next_fails c = list_any (λ k. k == one_more c.count) c.failing

-- one more call, which met a fault or not
abbrev pub counted : Bool → Calls → Calls
counted has_fault c = record c { count = one_more c.count; faults = if has_fault then one_more c.faults else c.faults }
