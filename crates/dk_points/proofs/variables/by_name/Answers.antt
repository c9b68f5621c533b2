use Rattle.std.proofs.Common.{◌≡◌, ◌∙◌, ℕ, List, Option, Some, None, is_some, false, refl, sym, ap, subst, bytes_eq, take, ◌+◌, if◌then◌else◌}
use Rattle.std.specs.Map.{lookup}
use Rattle.std.specs.Option.{option_or}
use Rattle.indexmap.specs.IndexMap.{get_by}
use Rattle.dk_points.specs.VarsByName.{typed_in}
use Rattle.dk_points.proofs.Typing.{lookup-insert_new, typed-known, typed-new}
use Rattle.dk_points.proofs.variables.by_name.Goals as goal
use Rattle.dk_points.proofs.variables.by_name.Goals.{then-not-contains_key+in_ok-key+in_ok-insert, else-not-contains_key}

none_of : {X : Type 0} (o : Option X) → is_some o ≡ false → o ≡ None
none_of None h = refl
none_of (Some x) h = cc

pub loop-var-preserved : goal.loop-var-preserved
loop-var-preserved c =
    elim c.if-not-contains_key.branch [
      | then-not-contains_key+in_ok-key+in_ok-insert w ↦
          let name : w.in_ok-key.key.items ≡ c.var-item.result.name = w.in_ok-key.ensures.items ∙ w.as_slice-then-not-contains_key.ensures in
          let new : get_by (λ k. bytes_eq w.in_ok-key.key.items k.items) c.loop-var.found ≡ None =
          none_of (get_by (λ k. bytes_eq w.in_ok-key.key.items k.items) c.loop-var.found)
          (ap (λ n. is_some (get_by (λ k. bytes_eq n k.items) c.loop-var.found)) (name ∙ sym c.as_slice.ensures) ∙ sym c.contains_key.ensures ∙ w.if-not-contains_key.true) in
          typed-new c.args.vars.now c.loop-var.var-index c.var-item.result (λ n. get_by (λ k. bytes_eq n k.items) c.loop-var.found) (λ n. get_by (λ k. bytes_eq n k.items) c.if-not-contains_key.found)
          c.loop-var-test.true c.var-item.is c.loop-var.invariant
          (λ n. ap (get_by (λ k. bytes_eq n k.items)) w.found-is
          ∙ ap (lookup (λ k. bytes_eq n k.items)) w.in_ok-insert.ensures.entries
          ∙ lookup-insert_new (λ k. k.items) c.loop-var.found.entries w.in_ok-key.key (c.var-item.result.kind, c.var-item.result.compar) n new
          ∙ ap (λ m. option_or (get_by (λ k. bytes_eq n k.items) c.loop-var.found) (if bytes_eq n m then Some (c.var-item.result.kind, c.var-item.result.compar) else None)) name)
      | else-not-contains_key w ↦
          subst (λ m. (n : List ℕ) → get_by (λ k. bytes_eq n k.items) m ≡ typed_in (take (c.loop-var.var-index + 1) c.args.vars.now) n) (sym w.found-is)
          (typed-known c.args.vars.now c.loop-var.var-index c.var-item.result (λ n. get_by (λ k. bytes_eq n k.items) c.loop-var.found) c.loop-var-test.true c.var-item.is c.loop-var.invariant
          (ap (λ n. is_some (get_by (λ k. bytes_eq n k.items) c.loop-var.found)) (sym c.as_slice.ensures) ∙ sym c.contains_key.ensures ∙ w.if-not-contains_key.false))
    ]
