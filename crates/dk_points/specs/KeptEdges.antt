-- The declared edges that a point keeps, by what drops the others.
use Rattle.std.specs.Prelude.{ℕ, ◌||◌, Bool, false, not, List, filter, Option}
use Rattle.std.specs.List.{enumerate_from, list_any}
use Rattle.std.specs.Option.{option_map_or}
use Rattle.dk_decl.specs.declared.decls.EdgeDecl.{EdgeDecl}
use Rattle.dk_points.specs.Links.{is_to, same_edge}

-- an edge to the combined exit, if there is one, and an edge that is taken already
abbrev pub is_dropped : Option (List ℕ) → List EdgeDecl → EdgeDecl → Bool
is_dropped combined taken e = option_map_or (λ name. is_to name e) combined false || list_any (same_edge e) taken

abbrev pub kept_by : Option (List ℕ) → List EdgeDecl → List EdgeDecl → List (ℕ × EdgeDecl)
kept_by combined taken es = filter (λ e. not (is_dropped combined taken e.1)) (enumerate_from 0 es)
