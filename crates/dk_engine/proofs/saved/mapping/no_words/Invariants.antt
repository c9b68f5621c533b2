use Rattle.std.proofs.Common.{◌≡◌, ℕ, All, [], length}
use Rattle.std.specs.Global.{Vec}
use Rattle.dk_engine.proofs.saved.mapping.no_words.Given as goal

abbrev pub invariant-loop : goal.invariant-loop
invariant-loop l = record {
  long : length l.maps.items ≡ l.counter;
  none : All (λ (m : Vec ℕ). m.items ≡ []) l.maps.items;
}
