-- What records and verdicts come to.
use Rattle.std.specs.Prelude.{◌≡◌, ◌↔◌, ◌<◌, ◌≤◌, ◌++◌, ℕ, Contains, false, List, [], ◌∷◌, flat_map, length, map, slice_get, Some}
use Rattle.dk_claims.specs.declared.claims.Claim.{Claim}
use Rattle.dk_derive.specs.Values.{values_by_form}
use Rattle.dk_graph.specs.Graphs.{edges, edges_into, has_cycle}
use Rattle.dk_graph.specs.Paths.{IsPath}
use Rattle.dk_graph.specs.declared.nodes.Edge.{Edge}
use Rattle.dk_graph.specs.declared.nodes.Node.{Node}
use Rattle.dk_hierarchy.specs.Samples.{all_vars_of, mapped_sample, own_samples_of, partners_of}
use Rattle.dk_points.specs.Links.{nodes}
use Rattle.dk_points.specs.Table.{Point}
use Rattle.dk_verdicts.specs.Paths.{along, paths_to}
use Rattle.dk_verdicts.specs.Records.{Record, only, reaching}
use Rattle.dk_verdicts.specs.Reports.{IsReport}
use Rattle.dk_verdicts.specs.Verdicts.{IsVerdict}
use Rattle.dk_verdicts.specs.declared.verdicts.Verdict.{Verdict}
use Rattle.dk_verdicts.specs.declared.verdicts.Verdict.TheVariants.{Violated}

-- In a table without a cycle a record reaches a point with what the point has of it itself, and then, over each edge into the point, with
-- the samples that reach the edge's child, mapped. So it does over each path once.
abbrev pub RecordsReachOverEdges : Type 0
RecordsReachOverEdges =
    (r : Record) → has_cycle (nodes r.table) ≡ false → (q : ℕ)
    → reaching q r
    ≡ own_samples_of r.table (only r.point r.values) q
    ++ flat_map (λ e. map (mapped_sample (partners_of r.table e)) (reaching e.child.0 r)) (edges_into (nodes r.table) q)

-- its own point has its sample, with derived values
abbrev pub RecordsAreOfTheirPoints : Type 0
RecordsAreOfTheirPoints =
    (r : Record) → own_samples_of r.table (only r.point r.values) r.point ≡ values_by_form (all_vars_of r.table r.point) r.values ∷ []

-- and a point that is declared behind a record isn't reached by it
abbrev pub LaterPointsAreNotReached : Type 0
LaterPointsAreNotReached = (r : Record) → r.point < length r.table → (q : ℕ) → length r.table ≤ q → reaching q r ≡ []

-- A record reaches a point with its own point's sample, mapped along each path from that point.
abbrev pub RecordsReachAlongPaths : Type 0
RecordsReachAlongPaths =
    (r : Record) (q : ℕ)
    → reaching q r
    ≡ map (λ path. along r.table path (values_by_form (all_vars_of r.table r.point) r.values)) (paths_to (nodes r.table) r.point q)

-- In a table without a cycle these are all paths,
abbrev pub PathsAreAll : Type 0
PathsAreAll =
    (ns : List Node) → has_cycle ns ≡ false → (p q : ℕ) (path : List Edge) → Contains (paths_to ns p q) path ↔ IsPath (edges ns) p path q

-- and each of them comes once.
abbrev pub PathsAreOnce : Type 0
PathsAreOnce =
    (ns : List Node) (p q i j : ℕ) (path : List Edge)
    → slice_get (paths_to ns p q) i ≡ Some path → slice_get (paths_to ns p q) j ≡ Some path
    → i ≡ j

-- a claim that is violated stays so with more records
abbrev pub ViolatedStays : Type 0
ViolatedStays =
    (ps : List Point) (rs more : List Record) (claim : Claim) (file line : ℕ) → IsVerdict ps rs claim (Violated file line)
    → IsVerdict ps (rs ++ more) claim (Violated file line)

-- A claim has at most one verdict.
abbrev pub VerdictsAreOne : Type 0
VerdictsAreOne =
    (ps : List Point) (rs : List Record) (claim : Claim) (v w : Verdict) → IsVerdict ps rs claim v → IsVerdict ps rs claim w → v ≡ w

-- and so claims have at most one report
abbrev pub ReportsAreOne : Type 0
ReportsAreOne =
    (name : ℕ → List ℕ) (claims : List Claim) (ps : List Point) (rs : List Record) (text other : List ℕ)
    → IsReport name claims ps rs text → IsReport name claims ps rs other → text ≡ other
