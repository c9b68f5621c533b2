use Rattle.std.proofs.Common.{◌∙◌, sym, ap}
use Rattle.dk_graph.proofs.Noting.{noted_under-lookup, listed}
use Rattle.dk_expr.proofs.names.VarNames.under.Goals as goal

pub returns-in-Some : goal.returns-in-Some
returns-in-Some c = rw (← c.self.view_is)
    (c.as_slice.ensures ∙ ap listed c.in-Some.ensures.value ∙ sym (noted_under-lookup (λ k. k.items) c.self.inside.table.entries c.args.name.now))

pub returns-in-None : goal.returns-in-None
returns-in-None c = rw (← c.self.view_is)
    (ap listed c.in-None.ensures.value ∙ sym (noted_under-lookup (λ k. k.items) c.self.inside.table.entries c.args.name.now))
