use Rattle.std.proofs.Common.{◌∙◌, map, sym, ap}
use Rattle.dk_graph.proofs.Noting.{noted-new, noted-more, entry}
use Rattle.dk_expr.proofs.names.put.Goals as goal
use Rattle.dk_expr.proofs.names.put.Goals.{in-Some+in_ok-push-in-Some, in-None+in_ok-key-in-None+in_ok-list-in-None+in_ok-insert-in-None+in-Some-1, in-None+in_ok-key-in-None+in_ok-list-in-None+in_ok-insert-in-None+in-None-1}

pub returns : goal.returns
returns c = elim c.match-get_index_of.branch [
  | in-Some+in_ok-push-in-Some w ↦
      rw w.more-is
      (noted-more (λ k. k.items) c.args.table.entries c.args.name.now c.args.v w.in-Some.place w.index_mut.result.now w.push.new.self (sym w.in-Some.ensures.index) w.index_mut.ensures.value w.in_ok-push-in-Some.ensures.ok)
  | in-None+in_ok-key-in-None+in_ok-list-in-None+in_ok-insert-in-None+in-Some-1 w ↦
      rw w.more-is
      (ap (map (entry (λ k. k.items))) (rw w.in_ok-list-in-None.ensures at w.in_ok-insert-in-None.ensures.entries)
      ∙ noted-new (λ k. k.items) c.args.table.entries w.in_ok-key-in-None.key c.args.name.now c.args.v w.in_ok-key-in-None.ensures.items (sym w.in-None.ensures.index))
  | in-None+in_ok-key-in-None+in_ok-list-in-None+in_ok-insert-in-None+in-None-1 w ↦
      rw w.more-is
      (ap (map (entry (λ k. k.items))) (rw w.in_ok-list-in-None.ensures at w.in_ok-insert-in-None.ensures.entries)
      ∙ noted-new (λ k. k.items) c.args.table.entries w.in_ok-key-in-None.key c.args.name.now c.args.v w.in_ok-key-in-None.ensures.items (sym w.in-None.ensures.index))
]
