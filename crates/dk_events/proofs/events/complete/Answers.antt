use Rattle.std.proofs.Common.{◌≡◌, ◌∙◌, ◌∷◌, [], ap, arith, length, length-append, subst, sym, List}
use Rattle.dk_base.specs.declared.kinds.VarInfo.{VarInfo}
use Rattle.dk_derive.specs.Laws.{all_vars_of}
use Rattle.dk_derive.specs.Vars.{with_derived_vars}
use Rattle.dk_events.proofs.Followed.{one_more}
use Rattle.dk_events.specs.Following.{AreVarsOfFirst}
use Rattle.dk_events.proofs.events.complete.Goals as goal

pub loop-place-preserved : goal.loop-place-preserved
loop-place-preserved c =
    let own : List VarInfo = c.in_ok-derive.field-0 in
    let is : own ≡ all_vars_of c.args.points.now c.loop-place.place = c.in_ok-derive.ensures.vars ∙ ap with_derived_vars c.vars.ensures.vars in
    record {
      first = subst (AreVarsOfFirst c.args.points.now) (sym {A = List (List VarInfo)} c.in_ok-push.ensures.items)
          (one_more c.args.points.now c.loop-place.vars.items own c.loop-place.place c.loop-place.invariant.first c.loop-place.invariant.many is);
      many = ap length c.in_ok-push.ensures.items ∙ omega (arith, length-append c.loop-place.vars.items (own ∷ []), c.loop-place.invariant.many);
    }
