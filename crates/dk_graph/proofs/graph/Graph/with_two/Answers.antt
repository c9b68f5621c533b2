use Rattle.std.proofs.Common.{◌≡◌, ◌∙◌, ◌++◌, ◌∷◌, [], List, ℕ, Bool, true, false, None, length, bytes_eq, append_assoc, true≢false, IfOk, refl, ap, subst, sym}
use Rattle.dk_graph.specs.Names.{place_of}
use Rattle.dk_graph.specs.Graphs.{node_names, GraphGrows}
use Rattle.dk_graph.specs.declared.nodes.Node.{Node}
use Rattle.dk_graph.proofs.Places.{bytes_eq-true, bytes_eq-same, map-append}
use Rattle.dk_graph.proofs.Positions.{or_last, place_of-push}
use Rattle.dk_graph.proofs.graph.Graph.with_two.Goals as goal

differ-back : (xs ys : List ℕ) → bytes_eq xs ys ≡ false → bytes_eq ys xs ≡ false
differ-back xs ys h = by (bytes_eq ys xs) refl
  where
    by : (b : Bool) → bytes_eq ys xs ≡ b → b ≡ false
    by true is = absurd (true≢false (sym (bytes_eq-same xs) ∙ ap (bytes_eq xs) (sym (bytes_eq-true ys xs is)) ∙ h))
    by false is = refl

still-new : (ns : List Node) (first second : Node) → place_of (node_names ns) second.name ≡ None → bytes_eq first.name second.name ≡ false → place_of (node_names (ns ++ first ∷ [])) second.name ≡ None
still-new ns first second new differ =
    ap (λ all. place_of all second.name) (map-append (λ n. n.name) ns (first ∷ []))
    ∙ place_of-push (node_names ns) first.name second.name
    ∙ ap (λ b. or_last (place_of (node_names ns) second.name) b (length (node_names ns))) (differ-back first.name second.name differ)
    ∙ ap (λ o. or_last o false (length (node_names ns))) new

grown-is : (self graph one two : List Node) (first second : Node) → graph ≡ self → one ≡ graph ++ first ∷ [] → two ≡ one ++ second ∷ [] → two ≡ self ++ first ∷ second ∷ []
grown-is self graph one two first second a b c =
    c ∙ ap (λ ns. ns ++ second ∷ []) (b ∙ ap (λ ns. ns ++ first ∷ []) a) ∙ append_assoc self (first ∷ []) (second ∷ [])

pub with-requires-2-clause-new : goal.with-requires-2-clause-new
with-requires-2-clause-new c =
    subst (λ ns. place_of (node_names ns) c.args.second.name ≡ None) (sym (c.in_ok-with.ensures ∙ ap (λ ns. ns ++ c.args.first ∷ []) c.new.ensures))
    (still-new c.args.self c.args.first c.args.second c.requires.second_new c.requires.differ)

pub returns : goal.returns
returns c =
    subst (λ ns. IfOk c.into_graph.result (λ g. GraphGrows g ns))
    (grown-is c.args.self c.new.result c.in_ok-with.field-0 c.in_ok-with-2.field-0 c.args.first c.args.second c.new.ensures c.in_ok-with.ensures c.in_ok-with-2.ensures)
    c.into_graph.ensures
