-- Eight numbers as four vectors.
use Rattle.std.specs.Prelude.{◌≡◌, ℤ, List, ◌++◌, All, FitsSigned, length}
use Rattle.std.specs.Int.{w64}

-- the block is the four vectors in a row, each of two lanes, and its numbers are of 64 bits
pub record IsInLanes (block a b c d : List ℤ) : Type 0 where
  pub order : block ≡ a ++ (b ++ (c ++ d))
  pub a_long : length a ≡ 2
  pub b_long : length b ≡ 2
  pub c_long : length c ≡ 2
  pub d_long : length d ≡ 2
  pub fit : All (FitsSigned w64) block
