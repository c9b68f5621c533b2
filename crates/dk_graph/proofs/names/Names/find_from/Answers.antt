use Rattle.std.proofs.Common.{◌≡◌, ◌∙◌, ℕ, List, Some, length, get_or, map, sym, subst, bytes_eq, rules, ap, arith}
use Rattle.dk_graph.specs.Names.{place_of}
use Rattle.dk_graph.proofs.Different.{found_here, stands_at}
use Rattle.dk_graph.proofs.Places.{position-map}
use Rattle.dk_graph.proofs.names.Names.find_from.Goals as goal

pub returns-then-same_bytes-clause-place : goal.returns-then-same_bytes-clause-place
returns-then-same_bytes-clause-place c =
    let same : c.as_slice-names.result.now ≡ c.self.inside.kept.keys = search rules in
    let at = c.index-names-place.is ∙ ap (λ ks. get_or ks c.args.place c.index-names-place.result) same in
    subst (λ (ns : List (List ℕ)). Some c.args.place ≡ place_of ns c.args.name.now) c.self.view_is
    (found_here (map (λ k. k.items) c.self.inside.kept.keys) c.args.place c.index-names-place.result.items c.args.name.now c.same_bytes.result c.self.invariant
    (stands_at (λ k. k.items) c.self.inside.kept.keys c.args.place c.index-names-place.result (omega (arith, ap length same)) at) (search rules) (search rules))

pub returns-clause-place : goal.returns-clause-place
unfolding place_of
returns-clause-place c = rw (← c.self.view_is) (c.get_index_of.ensures.index ∙ sym (position-map (bytes_eq c.args.name.now) (λ k. k.items) c.self.inside.kept.keys))
