use Rattle.std.proofs.Common.{◌∙◌, map, sym, ap}
use Rattle.std.proofs.lemmas.Result.{on_ok_weaker}
use Rattle.dk_graph.proofs.Noting.{noted-new, noted-more, entry}
use Rattle.dk_page.proofs.headings.Headings.push.Goals as goal

pub returns-in-Some : goal.returns-in-Some
returns-in-Some c = rw (← c.self.view_is)
    (on_ok_weaker c.push.result
    (λ more. noted-more (λ k. k.items) c.self.inside.table.entries c.args.name.now c.args.number c.in-Some.place c.index_mut.result.now c.push.new.self
    (sym c.in-Some.ensures.index) c.index_mut.ensures.value more)
    c.push.ensures.ok)

pub returns-in-Ok : goal.returns-in-Ok
returns-in-Ok c = rw (← c.self.view_is)
    (ap (map (entry (λ k. k.items))) (rw c.in_ok-list-in-None.ensures at c.in-Ok.ensures.entries)
    ∙ noted-new (λ k. k.items) c.self.inside.table.entries c.in_ok-key-in-None.key c.args.name.now c.args.number c.in_ok-key-in-None.ensures.items
    (sym c.in-None.ensures.index))
