-- The entries that wait within a file.
use Rattle.std.specs.Prelude.{◌&&◌, ◌==◌, ℕ, ℤ, Bool, true, false, List, [], ◌∷◌, Option, None, Some, find, is_none, if◌then◌else◌}
use Rattle.std.specs.List.{list_any}
use Rattle.std.specs.Ordering.{int_eq}
use Rattle.dk_base.specs.declared.values.Value.{Value}

-- an entry by its point, with its nonce, if it has one, and its values
pub record Entry : Type 0 where
  pub point : ℕ
  pub nonce : Option ℤ
  pub values : List Value

-- A record, as far as calls see it: an entry; an exit that must match an entry of this point, with its nonce, if it has one; or neither.
pub data Call : Type 0 where
  enters : Entry → Call
  exits : ℕ → Option ℤ → Call
  other : Call

abbrev pub same_nonce : Option ℤ → Option ℤ → Bool
same_nonce None None = true
same_nonce None (Some m) = false
same_nonce (Some n) None = false
same_nonce (Some n) (Some m) = int_eq n m

-- the entry is of this point, and has this nonce or, as the exit, none
abbrev pub is_of : ℕ → Option ℤ → Entry → Bool
is_of point n w = w.point == point && same_nonce w.nonce n

abbrev pub is_plain : Entry → Bool
is_plain w = is_none w.nonce

-- the entry that an exit takes: of those that wait, the latest of its method and nonce, or of its method without a nonce
abbrev pub taken_by : ℕ → Option ℤ → List Entry → Option Entry
taken_by point n waiting = find (is_of point n) waiting

-- without the first that passes
abbrev pub without_first : (Entry → Bool) → List Entry → List Entry
without_first p [] = []
without_first p (w ∷ ws) = if p w then ws else w ∷ without_first p ws

-- without the first of the point that has no nonce, and without those in front of it that have none
abbrev pub without_plain : ℕ → List Entry → List Entry
without_plain point [] = []
without_plain point (w ∷ ws) =
    if is_of point None w then ws
    else if is_plain w then without_plain point ws
    else w ∷ without_plain point ws

-- What an exit leaves, the latest first: with a nonce it takes its entry and no other. Without a nonce it takes its entry and all later
-- entries without a nonce. Where there is no entry for it, it takes nothing.
abbrev pub left_by : ℕ → Option ℤ → List Entry → List Entry
left_by point (Some n) ws = without_first (is_of point (Some n)) ws
left_by point None ws = if list_any (is_of point None) ws then without_plain point ws else ws

-- the entries that wait after these records of a file, both with the latest first
abbrev pub waiting_of : List Call → List Entry
waiting_of [] = []
waiting_of (enters w ∷ earlier) = w ∷ waiting_of earlier
waiting_of (exits point n ∷ earlier) = left_by point n (waiting_of earlier)
waiting_of (other ∷ earlier) = waiting_of earlier

-- the entry of a record behind these
abbrev pub entry_of_call : Call → List Call → Option Entry
entry_of_call (exits point n) earlier = taken_by point n (waiting_of earlier)
entry_of_call _ earlier = None
