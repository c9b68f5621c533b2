use Rattle.std.proofs.Common.{◌≡◌, ◌<◌, ◌≤◌, ◌++◌, ◌∷◌, [], ℕ, get_or, length}
use Rattle.std.specs.Global.{Vec}
use Rattle.dk_engine.proofs.saved.mapping.push_row.Given as goal

abbrev pub invariant-loop-k : goal.invariant-loop-k
invariant-loop-k l = record {
  long : length l.maps.items ≡ length l.initial.maps.items;
  done : (k : ℕ) (d : Vec ℕ) → k < l.k → (get_or l.maps.items k d).items ≡ (get_or l.initial.maps.items k d).items ++ get_or l.row k 0 ∷ [];
  rest : (k : ℕ) (d : Vec ℕ) → l.k ≤ k → get_or l.maps.items k d ≡ get_or l.initial.maps.items k d;
}
