use Rattle.std.specs.Prelude.{◌++◌, [], ◌∷◌, List, Option, Some}
use Rattle.std.proofs.Common.{◌∙◌, ap, arith, sym}
use Rattle.std.proofs.lemmas.List.FromFn.{map-range_with_len_more}
use Rattle.dk_base.specs.Shapes.{var}
use Rattle.dk_base.specs.declared.kinds.VarId.{VarId}
use Rattle.dk_hierarchy.proofs.composing.own_partners.Goals as goal

pub loop-v-preserved : goal.loop-v-preserved
loop-v-preserved c =
    let v = c.loop-v.v in
    c.in_ok-push.ensures.ok
    ∙ (ap (λ (ps : List (Option VarId)). ps ++ Some (var v) ∷ []) c.loop-v.invariant ∙ sym (map-range_with_len_more {X = Option VarId} (λ v. Some (var v)) 0 v v (omega arith)))
