use Rattle.std.specs.Prelude.{length, option_to_list, take}
use Rattle.std.proofs.Common.{◌∙◌, ap, arith, length-append, sym}
use Rattle.dk_points.specs.Table.{decl_at}
use Rattle.dk_state.specs.Declarations.{decls_of}
use Rattle.dk_state.proofs.Declared.{counted_none, counted_some, decls_more}
use Rattle.dk_state.proofs.declarations.declared_count.Goals as goal
use Rattle.dk_state.proofs.declarations.declared_count.Goals.{then-is_some, else-is_some}

pub loop-p-preserved : goal.loop-p-preserved
loop-p-preserved c =
    let ps = c.args.points.now in
    let p = c.loop-p.p in
    let all = c.len-p-end.ensures.len in
    let more = ap length (decls_more ps p (omega (arith, all))) ∙ length-append (decls_of (take p ps)) (option_to_list (decl_at ps p)) in
    let same = ap (λ d. length (option_to_list d)) c.decl.ensures in
    elim c.if-is_some.branch [
      | then-is_some w ↦
          let one = counted_some c.decl.result (sym c.is_some.ensures ∙ w.if-is_some.true) in
          record { counted = omega (arith, more, same, one); few = omega arith }
      | else-is_some w ↦
          let none = counted_none c.decl.result (sym c.is_some.ensures ∙ w.if-is_some.false) in
          record { counted = omega (arith, more, same, none); few = omega arith }
    ]
