-- Counts of single variables, found once for a point, and of several by an index of the patterns.
use Rattle.std.specs.Prelude.{◌≡◌, ◌<◌, ◌+◌, ◌*◌, ℕ, Bool, IfSome, List, [], ◌∷◌, get_or, if◌then◌else◌, length, slice_index_or, slice_set, Option, Some, None}
use Rattle.std.specs.Option.{option_map_or}
use Rattle.dk_base.specs.declared.kinds.VarId.{VarId}
use Rattle.dk_bitmaps.specs.Bitmaps.{Indexed}
use Rattle.dk_classes.specs.Leaders.{own_leaders}
use Rattle.dk_engine.specs.Reading.{count_read}
use Rattle.dk_engine.specs.declared.kept.Kept.{Kept}
use Rattle.dk_hierarchy.specs.Edges.{partners_at}
use Rattle.dk_hierarchy.specs.Merging.{Joint, engine_at, merged_count}
use Rattle.dk_hierarchy.specs.declared.way.Way.{Way}
use Rattle.dk_presence.specs.Patterns.{capped}

-- the numbers at variables' places are these counts
abbrev pub AreAt : (VarId → ℕ) → List ℕ → Type 0
AreAt count numbers = (v : VarId) → v.0 < length numbers → slice_index_or numbers v.0 0 ≡ count v

-- so many more at each of the variables
abbrev pub added : List VarId → ℕ → List ℕ → List ℕ
added [] more counts = counts
added (v ∷ vars) more counts = added vars more (slice_set counts v.0 (capped (slice_index_or counts v.0 0 + more)))

-- the count with so many more, where they count
abbrev pub with_more : Bool → ℕ → ℕ → ℕ
with_more counts more count = if counts then capped (count + more) else count

-- the counts that are found at places are these
abbrev pub AreFound : (ℕ → ℕ) → List (Option ℕ) → Type 0
AreFound count found = (v : ℕ) → IfSome (slice_index_or found v None) (λ n. n ≡ count v)

-- in how many samples of what an engine keeps a partner is present; where there is none, in none
abbrev pub partner_count : Kept → Option VarId → ℕ
partner_count kept None = 0
partner_count kept (Some v) = count_read kept (v ∷ [])

-- in how many of the samples that a way brings from what an engine keeps the variable at a place is present
abbrev pub brought : Kept → Way → ℕ → ℕ
brought kept way v = partner_count kept (slice_index_or way.partners v None) * way.paths

-- in how many samples of a point the variable at a place is present
abbrev pub single_count : Joint → ℕ → ℕ
single_count joint v = let var : VarId = record { 0 = v } in merged_count joint (var ∷ [])

-- ---- several variables
-- the index is that of what an engine keeps
abbrev pub IsIndexOf : Kept → Indexed → Type 0
IsIndexOf kept index = index ≡ record { held = kept.held; leaders = own_leaders kept.leaders }

-- for each of the ways, or the first of them, the index of its engine
abbrev pub AreIndexes : Joint → List Indexed → Type 0
AreIndexes joint indexes =
    (k : ℕ) (index : Indexed) (way : Way) → k < length indexes
    → IsIndexOf (engine_at joint (get_or joint.ways k way)).kept (get_or indexes k index)

-- in how many of the samples that a way brings from what an engine keeps all of the variables are present
abbrev pub brought_together : Kept → Way → List VarId → ℕ
brought_together kept way vars = option_map_or (count_read kept) (partners_at way.partners vars) 0 * way.paths
