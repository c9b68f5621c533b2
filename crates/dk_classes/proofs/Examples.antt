-- Small examples, computed from the definitions.
use Rattle.std.proofs.Common.{◌≡◌, ◌∷◌, [], refl}
use Rattle.dk_samples.specs.Leaders.{old_of}
use Rattle.dk_classes.specs.Leaders.{leader_at, own_leaders, var}

-- three variables, of which the first two are one class
own : own_leaders (var 0 ∷ var 0 ∷ var 2 ∷ []) ≡ var 0 ∷ var 2 ∷ []
own = refl

leader : leader_at (var 0 ∷ var 0 ∷ var 2 ∷ []) 1 ≡ 0
leader = refl

-- the old leader of a new one, and of any other variable
new_one : old_of ((var 1, var 0) ∷ []) (var 1) ≡ var 0
new_one = refl

other : old_of ((var 1, var 0) ∷ []) (var 2) ≡ var 2
other = refl
