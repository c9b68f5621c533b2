-- Patterns by their hashes.
use Rattle.std.specs.Prelude.{◌+◌, ◌*◌, ◌%◌, ◌^◌, ℕ, All, List, fold, nat_eq}
use Rattle.dk_base.specs.declared.kinds.VarId.{VarId}
use Rattle.indexmap.specs.IndexMap.{ContainsKey, IndexMap}

-- the hash of a pattern's leaders
abbrev pub hash_of : List VarId → ℕ
hash_of leaders = fold (λ hash v. (hash * 6364136223846793005 + v.0) % 2 ^ 64) 1 leaders

-- the hash of each of the patterns is a key
abbrev pub AreKeyed : {S : Type 0} → IndexMap ℕ ℕ S → List (List VarId) → Type 0
AreKeyed places patterns = All (λ pattern. ContainsKey nat_eq places (hash_of pattern)) patterns
