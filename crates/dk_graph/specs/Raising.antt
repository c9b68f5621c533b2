-- Ranks that rise along edges, until each parent's is greater than its children's.
use Rattle.std.specs.Prelude.{◌≡◌, ℕ, ◌+◌, ◌-◌, ◌<◌, ◌≤◌, ◌⊎◌, Bool, true, false, nat_lt, List, [], ◌∷◌, ◌++◌, length, Option, None, Some, option_and_then, if◌then◌else◌, slice_get, slice_index, slice_set, Contains}
use Rattle.dk_graph.specs.Graphs.{height}
use Rattle.dk_graph.specs.declared.nodes.Edge.{Edge}

-- the ranks so far, and the points whose parents are still to be raised
pub record Raising : Type 0 where
  pub ranks : List ℕ
  pub queue : List ℕ

-- A parent is raised above its child, unless it is deeper already; none if it would come to the limit.
unfoldable pub above : ℕ → ℕ → Raising → ℕ → Option Raising
above limit child s parent =
    if nat_lt (slice_index s.ranks child) (slice_index s.ranks parent) then Some s
    else if nat_lt (slice_index s.ranks child + 1) limit
    then Some (record { ranks = slice_set s.ranks parent (slice_index s.ranks child + 1); queue = s.queue ++ parent ∷ [] })
    else None

-- the parents of one child, one after another
abbrev pub raised : ℕ → ℕ → List Edge → Raising → Option Raising
raised limit child [] s = Some s
raised limit child (e ∷ es) s = option_and_then (raised limit child es) (above limit child s e.parent.0)

-- whether it went on, and what it left
abbrev pub WentOn : Bool → Option Raising → List ℕ → List ℕ → Type 0
WentOn true r ranks queue = r ≡ Some (record { ranks = ranks; queue = queue })
WentOn false r ranks queue = r ≡ None

abbrev pub ParentsBelow : ℕ → List Edge → Type 0
ParentsBelow n es = (k : ℕ) (e : Edge) → slice_get es k ≡ Some e → e.parent.0 < n

abbrev pub rank : Raising → ℕ → ℕ
rank s q = slice_index s.ranks q

-- The first point's rank. Each that comes later begins one lower, and so below all that came before.
abbrev pub first_rank : ℕ
first_rank = 65535

-- how far a rank is above that
abbrev pub over : Raising → ℕ → ℕ
over s q = rank s q - first_rank

-- the parent's rank is greater, or the child waits
abbrev pub IsSettled : Raising → ℕ → ℕ → Type 0
IsSettled s child parent = (rank s child < rank s parent) ⊎ Contains s.queue child

-- some path has as many edges as the depth says
abbrev pub IsReached : List Edge → (ℕ → ℕ) → Type 0
IsReached es d = (q : ℕ) → d q ≤ height es (d q) q

abbrev pub IsLow : ℕ → List ℕ → Type 0
IsLow limit ds = (q : ℕ) → q < length ds → slice_index ds q < limit

-- Ranks that are to rise: that of a point that waits may be no less than a parent's. None is more above the first one than a path has
-- edges.
pub record IsRising (n : ℕ) (es : List Edge) (s : Raising) : Type 0 where
  pub settled : (e : Edge) → Contains es e → IsSettled s e.child.0 e.parent.0
  pub reached : IsReached es (over s)
  pub low : IsLow (first_rank + n) s.ranks
  pub waiting : (q : ℕ) → Contains s.queue q → q < length s.ranks

-- Each parent's rank is greater than its child's, and none is n or more above the first one, or more than a path has edges.
pub record IsRisen (n : ℕ) (es : List Edge) (rs : List ℕ) : Type 0 where
  pub climbs : (e : Edge) → Contains es e → slice_index rs e.child.0 < slice_index rs e.parent.0
  pub reached : IsReached es (λ q. slice_index rs q - first_rank)
  pub low : IsLow (first_rank + n) rs

-- a path of n edges to one of these points
abbrev pub HasLongPath : ℕ → ℕ → List Edge → Type 0
HasLongPath n points es = (q : ℕ) × (q < points) × (n ≤ height es n q)

abbrev pub Rises : Bool → ℕ → List Edge → List ℕ → Type 0
Rises true n es rs = IsRisen n es rs
Rises false n es rs = HasLongPath n (length rs) es
