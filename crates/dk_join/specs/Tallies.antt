-- How patterns are counted together, and how classes are joined.
use Rattle.std.specs.Prelude.{◌≡◌, ◌+◌, ℕ, pos, List, [], ◌∷◌, if◌then◌else◌}
use Rattle.dk_base.specs.declared.kinds.VarId.{VarId}
use Rattle.dk_base.specs.declared.values.Value.{Value}
use Rattle.dk_base.specs.declared.values.Value.TheVariants as value
use Rattle.dk_presence.specs.Patterns.{capped, pattern_count, same_vars}
use Rattle.dk_presence.specs.declared.held.Held.{Held}
use Rattle.dk_join.specs.Joined.{times_present}

-- with so many samples more
abbrev pub counted_more : ℕ → Held → Held
counted_more count h = record { count = capped (h.count + count); leaders = h.leaders }

-- the patterns with so many samples more in which these leaders are present
abbrev pub with_samples_of : ℕ → List VarId → List Held → List Held
with_samples_of count present [] = record { count = capped count; leaders = present } ∷ []
with_samples_of count present (h ∷ held) =
    if same_vars h.leaders present then counted_more count h ∷ held else h ∷ with_samples_of count present held

-- With patterns of the old leaders, each over the new ones, the counts of equal ones are added. So far each was counted so often.
abbrev pub AreAdded : List VarId → List VarId → List Held → List Held → List Held → Type 0
AreAdded old leaders held before after = (so_far : List VarId → ℕ) → ((p : List VarId) → pattern_count before p ≡ capped (so_far p))
    → (p : List VarId)
    → pattern_count after p ≡ capped (so_far p + times_present old leaders held p)

-- a leader as a value
abbrev pub leader_value : VarId → Value
leader_value v = value.Int (pos v.0)
