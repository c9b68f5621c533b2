-- What becomes of patterns where a sample is added, and where classes split.
use Rattle.std.specs.Prelude.{◌≡◌, ◌≢◌, ◌+◌, false, All, List, [], ◌∷◌, nat_lt, if◌then◌else◌}
use Rattle.std.specs.List.{AllPairs}
use Rattle.dk_base.specs.declared.kinds.VarId.{VarId}
use Rattle.dk_presence.specs.declared.held.Held.{Held}
use Rattle.dk_presence.specs.Patterns.{capped, has, same_vars}

-- with one sample more
abbrev pub counted_once_more : Held → Held
counted_once_more h = record { count = capped (h.count + 1); leaders = h.leaders }

-- a pattern of one sample
abbrev pub first_held : List VarId → Held
first_held present = record { count = 1; leaders = present }

-- the patterns with a sample more, in which these leaders are present
abbrev pub with_sample_of : List VarId → List Held → List Held
with_sample_of present [] = first_held present ∷ []
with_sample_of present (h ∷ held) = if same_vars h.leaders present then counted_once_more h ∷ held else h ∷ with_sample_of present held

-- a variable at its place among ascending ones
abbrev pub put : VarId → List VarId → List VarId
put v [] = v ∷ []
put v (w ∷ vars) = if nat_lt v.0 w.0 then v ∷ w ∷ vars else w ∷ put v vars

-- more variables: each new leader of which the old one is among these leaders
abbrev pub with_new : List (VarId × VarId) → List VarId → List VarId → List VarId
with_new [] leaders more = more
with_new (n ∷ new) leaders more = with_new new leaders (if has leaders n.1 then put n.0 more else more)

-- a pattern after classes were split: each new leader is present where its old one is
abbrev pub refined : List (VarId × VarId) → Held → Held
refined new h = record { count = h.count; leaders = with_new new h.leaders h.leaders }

-- new leaders differ
abbrev pub Differ : List (VarId × VarId) → Type 0
Differ new = AllPairs (λ m n. m.0.0 ≢ n.0.0) new

-- no new leader stands in a pattern
abbrev pub AreUnheld : List (VarId × VarId) → List Held → Type 0
AreUnheld new held = All (λ h. All (λ n. has h.leaders n.0 ≡ false) new) held
