-- The two ends of edges.
use Rattle.std.specs.Prelude.{◌≡◌, ◌<◌, ℕ, All, List}
use Rattle.dk_graph.specs.declared.nodes.Edge.{Edge}

-- edges into the parent p from children among n points
abbrev pub AreInto : ℕ → ℕ → List Edge → Type 0
AreInto n p es = All (λ e. (e.child.0 < n) × (e.parent.0 ≡ p)) es

-- edges from the child p to parents among n points
abbrev pub AreFrom : ℕ → ℕ → List Edge → Type 0
AreFrom n p es = All (λ e. (e.child.0 ≡ p) × (e.parent.0 < n)) es
