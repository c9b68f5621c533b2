use Rattle.std.proofs.Common.{◌∙◌, map, sym, ap, Result, Ok, Err, OnOk}
use Rattle.dk_graph.proofs.Noting.{noted-new, noted-more, entry}
use Rattle.dk_graph.proofs.notes.Notes.push.Goals as goal

on_ok : {T E P Q : Type 0} (r : Result T E) → (P → Q) → OnOk r P → OnOk r Q
on_ok (Ok x) f h = f h
on_ok (Err e) f h = tt

pub returns-in-Some : goal.returns-in-Some
returns-in-Some c = rw (← c.self.view_is)
    (on_ok c.push.result
    (λ more. noted-more (λ k. k.items) c.self.inside.table.entries c.args.name.now c.args.link c.in-Some.place c.index_mut.result.now c.push.new.self
    (sym c.in-Some.ensures.index) c.index_mut.ensures.value more)
    c.push.ensures.ok)

pub returns-in-Ok : goal.returns-in-Ok
returns-in-Ok c = rw (← c.self.view_is)
    (ap (map (entry (λ k. k.items))) (rw c.in_ok-list-in-None.ensures at c.in-Ok.ensures.entries)
    ∙ noted-new (λ k. k.items) c.self.inside.table.entries c.in_ok-key-in-None.key c.args.name.now c.args.link c.in_ok-key-in-None.ensures.items
    (sym c.in-None.ensures.index))
