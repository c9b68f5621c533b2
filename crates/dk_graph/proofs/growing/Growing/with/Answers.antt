use Rattle.std.proofs.Common.{◌≡◌, ◌∙◌, ◌++◌, ◌∷◌, ◌-◌, [], List, ℕ, None, length, max, sym, ap, subst}
use Rattle.dk_graph.specs.Names.{place_of}
use Rattle.dk_graph.specs.Graphs.{node_names, edges_into}
use Rattle.dk_graph.specs.Kept.{HasRisingRanks}
use Rattle.dk_graph.specs.Raising.{first_rank}
use Rattle.dk_graph.specs.Rows.{above_children}
use Rattle.dk_graph.specs.declared.nodes.Node.{Node}
use Rattle.dk_graph.proofs.Climbing.{rising-push}
use Rattle.dk_graph.proofs.growing.Growing.with.Goals as goal

-- the ranks as the code meets them
module _ (self nodes : List Node) (n : Node) (ds queue : List ℕ) (view : nodes ≡ self) (kept : HasRisingRanks nodes ds queue)
    (new : place_of (node_names self) n.name ≡ None) (place : ℕ) (place-is : place ≡ length nodes) (more : List Node) (more-is : more ≡ nodes ++ n ∷ [])
    (d : ℕ) (is : d ≡ max (first_rank - place) (above_children ds (edges_into more place))) where
  d-is : d ≡ max (first_rank - length nodes) (above_children ds (edges_into (nodes ++ n ∷ []) (length nodes)))
  d-is =
      is ∙ ap (λ ns. max (first_rank - place) (above_children ds (edges_into ns place))) more-is
      ∙ ap (λ k. max (first_rank - k) (above_children ds (edges_into (nodes ++ n ∷ []) k))) place-is

  rising : (ranks waits : List ℕ) → ranks ≡ ds ++ d ∷ [] → waits ≡ queue ++ place ∷ [] → HasRisingRanks more ranks waits
  rising ranks waits ranks-are waits-are =
      rw (more-is, ranks-are, waits-are, place-is)
      (rising-push nodes n (subst (λ ns. place_of (node_names ns) n.name ≡ None) (sym view) new) ds queue kept d d-is)

pub invariant_of-result : goal.invariant_of-result
invariant_of-result c =
    let i = c.self.inside in
    rising c.args.self i.edges c.args.node i.ranks.items i.queue.items c.self.view_is c.self.invariant c.requires.new
    c.len-place.result c.len-place.ensures.len c.in_ok-edges.edges c.in_ok-edges.ensures c.number_above-rank.result
    (c.number_above-rank.ensures
    ∙ ap (λ ds. max (first_rank - c.len-place.result) (above_children ds c.edges_into-children.result.now)) c.as_slice.ensures.value
    ∙ ap (λ es. max (first_rank - c.len-place.result) (above_children i.ranks.items es)) c.edges_into-children.ensures)
    c.push.new.self.items c.push_back.new.self.items c.in_ok-push.ensures.items c.in_ok-push_back.ensures.items
