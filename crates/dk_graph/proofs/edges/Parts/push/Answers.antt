use Rattle.std.proofs.Common.{◌≡◌, ◌∙◌, ◌++◌, ◌∷◌, [], ◌<◌, List, ℕ, None, length, map, filter_map, sym, ap, subst, arith, refl}
use Rattle.std.specs.Prelude.{Result, Ok, Err, OnOk}
use Rattle.dk_graph.specs.Names.{place_of}
use Rattle.dk_graph.specs.Graphs.{node_names, edge_of, links_to_parents}
use Rattle.dk_graph.specs.Kept.{IsJoined, waited}
use Rattle.dk_graph.specs.Notes.{noted_under}
use Rattle.dk_graph.specs.Raising.{ParentsBelow}
use Rattle.dk_graph.specs.Rows.{edge_to, inserted, spread, ChildrenBelow}
use Rattle.dk_graph.specs.declared.nodes.Edge.{Edge}
use Rattle.dk_graph.specs.declared.nodes.Node.{Node}
use Rattle.dk_graph.specs.declared.nodes.Waiting.{Waiting}
use Rattle.dk_graph.proofs.Joining.{children-below, parents-below, joined-as}
use Rattle.dk_graph.proofs.edges.Parts.push.Goals as goal

on_ok : {T E P Q : Type 0} (r : Result T E) → (P → Q) → OnOk r P → OnOk r Q
on_ok (Ok x) f h = f h
on_ok (Err e) f h = tt

-- the points with what is kept beside them, and the new point, as the code meets them
module _ (self nodes : List Node) (n : Node) (all : List (List ℕ)) (waiting : List (List ℕ × List Waiting)) (from into : List (List Edge))
    (view : nodes ≡ self) (joined : IsJoined nodes all waiting from into) (new : place_of (node_names self) n.name ≡ None) (room : length self < 65535)
    (place : ℕ) (place-is : place ≡ length nodes) (name : List ℕ) (name-is : name ≡ n.name) (found : List Waiting) (found-is : found ≡ noted_under waiting name)
    (children : List Edge) (came : children ≡ map (edge_to (record { 0 = place })) found) where
  kept : IsJoined nodes (node_names nodes) waiting from into
  kept = subst (λ a. IsJoined nodes a waiting from into) joined.named joined

  none : place_of (node_names nodes) n.name ≡ None
  none = subst (λ ns. place_of (node_names ns) n.name ≡ None) (sym view) new

  few : length nodes < 65535
  few = omega (arith, room, ap length view)

  came-is : children ≡ map (edge_to (record { 0 = length nodes })) (noted_under waiting n.name)
  came-is = came ∙ ap (λ k. map (edge_to (record { 0 = k })) found) place-is ∙ ap (map (edge_to (record { 0 = length nodes }))) (found-is ∙ ap (noted_under waiting) name-is)

  children-of : (es : List Edge) → es ≡ children → ChildrenBelow (length from) es
  children-of es is = subst (ChildrenBelow (length from)) (sym is) (children-below nodes n waiting from into kept none few children came-is)

  module _ (mine : List Edge) (start : List Edge) (start-is : start ≡ []) (all' : List (List ℕ)) (all-is : all' ≡ all ++ n.name ∷ [])
      (links : List (List ℕ)) (links-are : links ≡ n.links) (is : mine ≡ start ++ filter_map (edge_of all') (links_to_parents place links)) where
    names-are : all' ≡ node_names nodes ++ n.name ∷ []
    names-are = all-is ∙ ap (λ a. a ++ n.name ∷ []) joined.named

    mine-is : mine ≡ filter_map (edge_of (node_names nodes ++ n.name ∷ [])) (links_to_parents (length nodes) n.links)
    mine-is =
        is
        ∙ ap (λ s. s ++ filter_map (edge_of all') (links_to_parents place links)) start-is
        ∙ ap (λ a. filter_map (edge_of a) (links_to_parents place links)) names-are
        ∙ ap (λ k. filter_map (edge_of (node_names nodes ++ n.name ∷ [])) (links_to_parents k links)) place-is
        ∙ ap (λ ls. filter_map (edge_of (node_names nodes ++ n.name ∷ [])) (links_to_parents (length nodes) ls)) links-are

    parents-of : (es : List Edge) (rows : List (List Edge)) → es ≡ mine → rows ≡ into ++ children ∷ [] → ParentsBelow (length rows) es
    parents-of es rows es-are rows-are =
        subst (λ r. ParentsBelow (length r) es) (sym rows-are)
        (subst (ParentsBelow (length (into ++ children ∷ []))) (sym es-are) (parents-below nodes n waiting from into kept none few children came-is mine mine-is))

    all-kept : (nodes' : List Node) (notes : List (List ℕ × List Waiting)) (from' into' : List (List Edge))
        → nodes' ≡ nodes ++ n ∷ [] → notes ≡ waited all' (links_to_parents place links) waiting
        → from' ≡ inserted from children ++ mine ∷ [] → into' ≡ spread (into ++ children ∷ []) mine → IsJoined nodes' all' notes from' into'
    all-kept nodes' notes from' into' a b c d =
        joined-as nodes n waiting from into kept none few children came-is mine mine-is nodes' all' notes from' into' a names-are
        (b
        ∙ ap (λ x. waited x (links_to_parents place links) waiting) names-are
        ∙ ap (λ k. waited (node_names nodes ++ n.name ∷ []) (links_to_parents k links) waiting) place-is
        ∙ ap (λ ls. waited (node_names nodes ++ n.name ∷ []) (links_to_parents (length nodes) ls) waiting) links-are)
        c d

pub insert_by_child-requires : goal.insert_by_child-requires
insert_by_child-requires c =
    let i = c.args.self.now in
    children-of i.nodes i.nodes c.args.node i.names i.waiting i.from.items i.into.items refl c.requires.joined c.requires.new c.requires.few
    c.len.result c.len.ensures c.as_slice.result.now c.as_slice.ensures c.under.result.now c.under.ensures c.in_ok-children.children c.in_ok-children.ensures
    c.as_slice-2.result.now c.as_slice-2.ensures

pub push_by_parent-requires : goal.push_by_parent-requires
push_by_parent-requires c =
    let i = c.args.self.now in
    parents-of i.nodes i.nodes c.args.node i.names i.waiting i.from.items i.into.items refl c.requires.joined c.requires.new c.requires.few
    c.len.result c.len.ensures c.as_slice.result.now c.as_slice.ensures c.under.result.now c.under.ensures c.in_ok-children.children c.in_ok-children.ensures
    c.sort_links.new.own c.new-own.result c.new-own.ensures c.push-2.new.self (c.in_ok-push-2.ensures.ok ∙ ap (λ m. i.names ++ m ∷ []) c.as_slice-3.ensures)
    c.as_slice-4.result.now c.as_slice-4.ensures c.in_ok-sort_links.ensures.own
    c.as_slice-5.result.now c.push.new.self.items c.as_slice-5.ensures c.in_ok-push.ensures.items

pub returns-clause-joined : goal.returns-clause-joined
returns-clause-joined c =
    let i = c.args.self.now in
    on_ok c.push-4.result
    (λ pushed. all-kept i.nodes i.nodes c.args.node i.names i.waiting i.from.items i.into.items refl c.requires.joined c.requires.new c.requires.few
    c.len.result c.len.ensures c.as_slice.result.now c.as_slice.ensures c.under.result.now c.under.ensures c.in_ok-children.children c.in_ok-children.ensures
    c.sort_links.new.own c.new-own.result c.new-own.ensures c.push-2.new.self (c.in_ok-push-2.ensures.ok ∙ ap (λ m. i.names ++ m ∷ []) c.as_slice-3.ensures)
    c.as_slice-4.result.now c.as_slice-4.ensures c.in_ok-sort_links.ensures.own
    c.push-4.new.self c.sort_links.new.waiting c.push-3.new.self.items c.push_by_parent.new.into.items
    pushed c.in_ok-sort_links.ensures.waiting
    (c.in_ok-push-3.ensures.items ∙ ap (λ f. f ++ c.sort_links.new.own ∷ []) (c.in_ok-insert_by_child.ensures ∙ ap (inserted i.from.items) c.as_slice-2.ensures))
    (c.in_ok-push_by_parent.ensures ∙ ap (λ r. spread r c.as_slice-5.result.now) c.in_ok-push.ensures.items
    ∙ ap (spread (i.into.items ++ c.in_ok-children.children ∷ [])) c.as_slice-5.ensures))
    c.push-4.ensures.ok
