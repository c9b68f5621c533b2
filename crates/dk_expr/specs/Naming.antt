-- Variables by their names.
use Rattle.std.specs.Prelude.{◌≡◌, ◌<◌, ℕ, Bool, true, Contains, List, length, nat_eq, slice_index_or}
use Rattle.std.specs.List.{list_any}
use Rattle.dk_base.specs.declared.kinds.VarId.{VarId}
use Rattle.dk_base.specs.declared.kinds.VarInfo.{VarInfo}
use Rattle.dk_filters.specs.Facts.{info_at}
use Rattle.dk_graph.specs.Notes.{noted_under}

-- variables, listed under names
abbrev pub Listed : Type 0
Listed = List (List ℕ × List VarId)

-- each variable is listed under its name
abbrev pub AreUnderNames : List VarInfo → Listed → Type 0
AreUnderNames infos listed = (v : VarId) → v.0 < length infos → Contains (noted_under listed (info_at infos v).name) v

-- one of the lengths is this
abbrev pub has_length : List ℕ → ℕ → Bool
has_length lengths n = list_any (λ m. nat_eq m n) lengths

-- the names under which something is listed are of these lengths
abbrev pub HaveLengths : Listed → List ℕ → Type 0
HaveLengths listed lengths = (name : List ℕ) (v : VarId) → Contains (noted_under listed name) v → has_length lengths (length name) ≡ true

abbrev pub no_var : VarId
no_var = record { 0 = 0 }

abbrev pub var_at : List VarId → ℕ → VarId
var_at vars role = slice_index_or vars role no_var
