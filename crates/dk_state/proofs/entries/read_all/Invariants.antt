use Rattle.std.proofs.Common.{◌≡◌, ◌++◌, ◌≤◌, ℕ, false, All, List, flat_map, length}
use Rattle.dk_state.proofs.Going.{GoesOn}
use Rattle.dk_state.proofs.entries.read_all.Given as goal

abbrev pub invariant-entries : goal.invariant-entries
invariant-entries g l = record {
  read : (xs : List _) (rest : List ℕ) → All (g.T.Entry.fits l.vars) xs → g.T.Entry.begins rest ≡ false → g.T.Entry.follows rest
      → l.fn.front ≡ flat_map g.T.Entry.text_of xs ++ rest → GoesOn g.T.Entry.text_of xs rest l.all l.front;
  within : All g.T.Entry.within l.all;
  shorter : length l.front ≤ length l.fn.front;
}

abbrev pub decreases-entries : goal.decreases-entries
decreases-entries g l = length l.front
