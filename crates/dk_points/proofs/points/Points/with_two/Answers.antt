use Rattle.std.proofs.Common.{◌≡◌, ◌<◌, ◌∙◌, ◌++◌, ◌∷◌, [], List, length, refl, sym, ap, append_assoc, length-append, arith}
use Rattle.dk_graph.specs.Graphs.{has_cycle, node_names as graph_names}
use Rattle.dk_graph.specs.Names.{place_of}
use Rattle.dk_graph.specs.declared.nodes.Node.{Node}
use Rattle.dk_points.proofs.MorePoints.{IsMore, next-more}
use Rattle.dk_points.proofs.Nodes.{length-nodes, names-nodes}
use Rattle.dk_points.specs.Kept.{IsKept, point_of_place, points_of_places}
use Rattle.dk_points.specs.Links.{nodes}
use Rattle.dk_points.specs.Next.{IsNext}
use Rattle.dk_points.specs.Table.{Point, names}
use Rattle.dk_points.specs.declared.growing.Added.{Added}
use Rattle.dk_points.specs.declared.places.KeptPoint.{KeptPoint}
use Rattle.dk_points.proofs.points.Points.with_two.Goals as goal

-- the table with both points
record IsTwoMore (self : List Point) (graph : List Node) (places : List KeptPoint) (a b : Added) : Type 0 where
  pub kept : IsKept (graph ++ a.node ∷ b.node ∷ []) ((places ++ a.place ∷ []) ++ b.place ∷ [])
  pub sees : points_of_places ((places ++ a.place ∷ []) ++ b.place ∷ []) ≡ self ++ point_of_place a.place ∷ point_of_place b.place ∷ []
  pub are_nodes : graph ++ a.node ∷ b.node ∷ [] ≡ nodes (self ++ point_of_place a.place ∷ point_of_place b.place ∷ [])

two-more : (self : List Point) (graph : List Node) (places : List KeptPoint) → points_of_places places ≡ self → IsKept graph places → length self < 65534
    → (a b : Added) → IsNext self a → IsNext (self ++ point_of_place a.place ∷ []) b → IsTwoMore self graph places a b
two-more self graph places is kept few a b first second =
    let one = next-more self graph places is kept (omega (arith, few)) a first in
    let two = next-more (self ++ point_of_place a.place ∷ []) (graph ++ a.node ∷ []) (places ++ a.place ∷ []) one.sees one.kept
    (omega (arith, few, length-append self (point_of_place a.place ∷ []))) b second in
    let all : (self ++ point_of_place a.place ∷ []) ++ point_of_place b.place ∷ [] ≡ self ++ point_of_place a.place ∷ point_of_place b.place ∷ [] = append_assoc self (point_of_place a.place ∷ []) (point_of_place b.place ∷ []) in
    let all_nodes : (graph ++ a.node ∷ []) ++ b.node ∷ [] ≡ graph ++ a.node ∷ b.node ∷ [] = append_assoc graph (a.node ∷ []) (b.node ∷ []) in
    record { kept = rw (← all_nodes) two.kept; sees = two.sees ∙ all; are_nodes = sym all_nodes ∙ two.are_nodes ∙ ap nodes all }

pub with_two-requires-clause-first_new : goal.with_two-requires-clause-first_new
with_two-requires-clause-first_new c =
    ap (λ all. place_of all c.args.first.node.name) (ap graph_names (c.self.invariant.joined ∙ ap nodes c.self.view_is) ∙ names-nodes c.args.self)
    ∙ c.requires.first_new

pub with_two-requires-clause-second_new : goal.with_two-requires-clause-second_new
with_two-requires-clause-second_new c =
    ap (λ all. place_of all c.args.second.node.name) (ap graph_names (c.self.invariant.joined ∙ ap nodes c.self.view_is) ∙ names-nodes c.args.self)
    ∙ c.requires.second_new

pub with_two-requires-clause-few : goal.with_two-requires-clause-few
with_two-requires-clause-few c = omega (arith, c.requires.few, ap length (c.self.invariant.joined ∙ ap nodes c.self.view_is), length-nodes c.args.self)

pub returns-in-None : goal.returns-in-None
returns-in-None c =
    let grown = two-more c.args.self c.self.inside.graph c.self.inside.places c.self.view_is c.self.invariant c.requires.few c.args.first c.args.second c.requires.first c.requires.second in
    let told = rw (c.in-None.is) at c.in_ok-with_two.ensures in
    ap has_cycle (sym grown.are_nodes) ∙ told

pub returns-in-Some : goal.returns-in-Some
returns-in-Some c =
    let grown = two-more c.args.self c.self.inside.graph c.self.inside.places c.self.view_is c.self.invariant c.requires.few c.args.first c.args.second c.requires.first c.requires.second in
    let told = rw (c.in-Some.is) at c.in_ok-with_two.ensures in
    let pushed = c.in_ok-push-2.ensures.ok ∙ ap (λ ls. ls ++ c.args.second.place ∷ []) c.in_ok-push.ensures.ok in
    (ap points_of_places pushed ∙ grown.sees, ap has_cycle (sym grown.are_nodes) ∙ told.1)

pub invariant_of-result : goal.invariant_of-result
invariant_of-result c =
    let grown = two-more c.args.self c.self.inside.graph c.self.inside.places c.self.view_is c.self.invariant c.requires.few c.args.first c.args.second c.requires.first c.requires.second in
    let told = rw (c.in-Some.is) at c.in_ok-with_two.ensures in
    let pushed = c.in_ok-push-2.ensures.ok ∙ ap (λ ls. ls ++ c.args.second.place ∷ []) c.in_ok-push.ensures.ok in
    rw (told.0, pushed) grown.kept
