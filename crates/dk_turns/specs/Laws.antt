-- What the definitions come to, in the words of the format.
use Rattle.std.specs.Prelude.{◌≡◌, ◌<◌, ◌++◌, ℕ, List, drop, flat_map, map, take}
use Rattle.dk_turns.specs.Blocks.{Block}
use Rattle.dk_turns.specs.Turns.{in_rounds}

-- A round stands in front, n of each list, and what it leaves of the lists follows in the same way.
abbrev pub RoundsGoOn : Type 0
RoundsGoOn =
    (n : ℕ) (lists : List (List Block)) → 0 < n → in_rounds n lists ≡ flat_map (take n) lists ++ in_rounds n (map (drop n) lists)
