-- Draws of numbers.
use Rattle.std.specs.Prelude.{◌+◌, ◌*◌, ◌/◌, ◌%◌, ◌^◌, ℕ}

-- the state behind a draw
abbrev pub next_state : ℕ → ℕ
next_state u = (u * 6364136223846793005 + 1442695040888963407) % 2 ^ 64

-- the number that is drawn with it
abbrev pub drawn_number : ℕ → ℕ
drawn_number u = u / 2 ^ 33
