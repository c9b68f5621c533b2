use Rattle.std.proofs.Common.{◌<◌, ◌^◌, ap, ◌∙◌, [], length, arith}
use Rattle.std.proofs.lemmas.List.{length-map}
use Rattle.dk_base.specs.declared.kinds.VarInfo.{VarInfo}
use Rattle.dk_classes.specs.Classes.{var_kinds}
use Rattle.dk_classes.specs.Leaders.{own_leaders}
use Rattle.dk_classes.proofs.Agreement.{classes_of_leaders}
use Rattle.dk_classes.proofs.class.Classes.new.Goals as goal

pub invariant_of-result : goal.invariant_of-result
invariant_of-result c =
    let few : length c.in_ok-leaders.leaders.items < 2 ^ 32 = omega (arith, c.in_ok-leaders.ensures.long, length-map c.args.vars.now (λ (i : VarInfo). i.kind)) in
    (classes_of_leaders (var_kinds c.args.vars.now) [] c.in_ok-leaders.leaders.items c.in_ok-leaders.ensures few, c.in_ok-own.ensures ∙ ap own_leaders c.as_slice.ensures.value)
