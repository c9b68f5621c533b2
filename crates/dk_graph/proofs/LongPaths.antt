-- A long path is a cycle of a graph.
use Rattle.std.proofs.Common.{◌≡◌, ℕ, zero, suc, ◌<◌, ◌≤◌, Bool, true, false, ◌||◌, nat_le, List, length, ◌≢◌, true≢false, refl, ap, sym, ◌∙◌, arith}
use Rattle.dk_graph.specs.Graphs.{height, edges, depth_of, has_cycle, some_below}
use Rattle.dk_graph.specs.Raising.{HasLongPath}
use Rattle.dk_graph.specs.declared.nodes.Node.{Node}

pub below-true : (p : ℕ → Bool) (n q : ℕ) → q < n → p q ≡ true → some_below p n ≡ true
below-true p zero q within h = absurd (omega (arith, within))
below-true p (suc n) q within h = by (p n) (some_below p n) refl (below-true p n q)
  where
    by : (b c : Bool) → p n ≡ b → (q < n → p q ≡ true → c ≡ true) → b || c ≡ true
    by true c at rest = refl
    by false c at rest = rest (below q n within (λ same. true≢false (sym h ∙ ap p same ∙ at))) h
      where
        below : (q n : ℕ) → q < suc n → (q ≢ n) → q < n
        below q n within other = omega (arith, within, other)

le-true : (m n : ℕ) → m ≤ n → nat_le m n ≡ true
le-true m n h = grind (arith, h)

pub cycle : (ns : List Node) → HasLongPath (length ns) (length ns) (edges ns) → has_cycle ns ≡ true
unfolding has_cycle depth_of
cycle ns (q, within, long) = below-true (λ q. nat_le (length ns) (height (edges ns) (length ns) q)) (length ns) q within
    (le-true (length ns) (height (edges ns) (length ns) q) long)
