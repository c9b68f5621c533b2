-- What stands in front of what is kept.
use Rattle.std.specs.Prelude.{◌==◌, ◌&&◌, ◌||◌, ℕ, Bool, true, List, [], ◌∷◌, codes, if◌then◌else◌, nat_eq}
use Rattle.std.specs.List.{starts_with}

-- a line begins that says what is kept of samples, or the last one
abbrev pub begins_kept : List ℕ → Bool
begins_kept bytes = starts_with nat_eq bytes (codes "samples ") || starts_with nat_eq bytes (codes "end-state")

-- the bytes in front of the first such line, where it is told whether a line begins with these bytes; an LF (10) ends a line
abbrev pub front_from : Bool → List ℕ → List ℕ
front_from begins [] = []
front_from begins (b ∷ bytes) = if begins && begins_kept (b ∷ bytes) then [] else b ∷ front_from (b == 10) bytes

-- the bytes in front of the first line of `samples`, or of `end-state` where there is none
abbrev pub front_of : List ℕ → List ℕ
front_of bytes = front_from true bytes
