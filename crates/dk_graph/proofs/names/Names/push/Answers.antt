use Rattle.std.proofs.Common.{◌≡◌, ◌∙◌, ap, map, rules, subst, sym}
use Rattle.dk_graph.specs.Names.{AreDifferent, place_of}
use Rattle.dk_graph.proofs.Different.{one_more}
use Rattle.dk_graph.proofs.Places.{insert_key-new}
use Rattle.dk_graph.proofs.names.Names.push.Goals.{in-Ok, in-Err}
use Rattle.dk_graph.proofs.names.Names.push.Goals as goal

pub returns-clause-ok : goal.returns-clause-ok
unfolding place_of
returns-clause-ok c =
    let none = rw (← c.self.view_is) at c.requires in
    elim c.match-insert.branch [
      | in-Ok w ↦ rw (w.result-is, ← c.self.view_is) (ap (map (λ k. k.items)) w.in-Ok.ensures.keys
          ∙ insert_key-new (λ k. k.items) c.self.inside.kept.keys c.in_ok-key.key c.args.name.now c.in_ok-key.ensures.items none)
      | in-Err w ↦ rw w.result-is tt
    ]

pub invariant_of-self : goal.invariant_of-self
unfolding place_of
invariant_of-self c =
    let none = rw (← c.self.view_is) at c.requires in
    elim c.match-insert.branch [
      | in-Ok w ↦ one_more (map (λ k. k.items) c.self.inside.kept.keys) (map (λ k. k.items) c.insert.new.self.keys) c.args.name.now
          (ap (map (λ k. k.items)) w.in-Ok.ensures.keys ∙ insert_key-new (λ k. k.items) c.self.inside.kept.keys c.in_ok-key.key c.args.name.now c.in_ok-key.ensures.items none) none c.self.invariant
      | in-Err w ↦ let same : c.insert.new.self.keys ≡ c.self.inside.kept.keys = search rules in
          subst AreDifferent (ap (map (λ k. k.items)) (sym same)) c.self.invariant
    ]
