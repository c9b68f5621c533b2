-- Small ways, by computing.
use Rattle.std.specs.Prelude.{◌≡◌, ℕ, pos, [], ◌∷◌, Some, None, refl}
use Rattle.dk_base.specs.Shapes.{var}
use Rattle.dk_base.specs.declared.values.Value.TheVariants as value
use Rattle.dk_hierarchy.specs.Ways.{partners_below, repeated_samples, samples_through, with_way}
use Rattle.dk_hierarchy.specs.declared.way.Way.{Way}

-- a way by so many paths to point 3, in which the first of two variables has the variable 1 as its partner and the second has none
abbrev by_paths : ℕ → Way
by_paths n = record { point = record { 0 = 3 }; partners = Some (var 1) ∷ None ∷ []; paths = n }

-- two edges with the same partners are one way by two paths
two_edges : with_way (by_paths 1 ∷ []) (by_paths 1) ≡ by_paths 2 ∷ []
two_edges = refl

-- numbers of paths end at 2^64 - 1
many_paths : with_way (by_paths 18446744073709551615 ∷ []) (by_paths 2) ≡ by_paths 18446744073709551615 ∷ []
many_paths = refl

-- such a way brings each sample once for each path, without a value for the second variable
two_paths : samples_through (λ p. (value.Int (pos 4) ∷ value.Int (pos 5) ∷ []) ∷ []) (by_paths 2) ≡ (value.Int (pos 5) ∷ value.Missing ∷ []) ∷ (value.Int (pos 5) ∷ value.Missing ∷ []) ∷ []
unfolding repeated_samples
two_paths = refl

-- down one edge more: the first variable's partner has itself a partner, and the second stays without one
one_more : partners_below (None ∷ Some (var 0) ∷ []) (by_paths 1).partners ≡ Some (var 0) ∷ None ∷ []
one_more = refl
