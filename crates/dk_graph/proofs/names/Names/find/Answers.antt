use Rattle.std.proofs.Common.{◌∙◌, sym, bytes_eq}
use Rattle.dk_graph.specs.Names.{place_of}
use Rattle.dk_graph.proofs.Places.{position-map}
use Rattle.dk_graph.proofs.names.Names.find.Goals as goal

pub returns-clause-place : goal.returns-clause-place
unfolding place_of
returns-clause-place c = rw (← c.self.view_is) (c.get_index_of.ensures.index ∙ sym (position-map (bytes_eq c.args.name.now) (λ k. k.items) c.self.inside.kept.keys))
