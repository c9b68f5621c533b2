-- How a state file is read: what its lines and fields end with.
use Rattle.std.specs.Prelude.{◌≡◌, ◌==◌, ◌||◌, ◌&&◌, ℕ, Bool, true, false, nat_le, not, List, [], ◌∷◌}
use Rattle.std.specs.List.{list_all}

-- an LF (10) ends a line
abbrev pub ends_line : ℕ → Bool
ends_line b = b == 10

-- a blank (32) or an LF ends a field
abbrev pub ends_field : ℕ → Bool
ends_field b = b == 32 || b == 10

-- no byte passes the test
abbrev pub HasNone : (ℕ → Bool) → List ℕ → Type 0
HasNone test bytes = list_all (λ b. not (test b)) bytes ≡ true

-- the first byte passes the test
abbrev pub BeginsWith : (ℕ → Bool) → List ℕ → Type 0
BeginsWith test [] = ⊥
BeginsWith test (b ∷ bytes) = test b ≡ true

-- a field that begins with a digit (48 to 57)
abbrev pub begins_number : List ℕ → Bool
begins_number (b ∷ c ∷ bytes) = b == 32 && (nat_le 48 c && nat_le c 57)
begins_number _ = false
