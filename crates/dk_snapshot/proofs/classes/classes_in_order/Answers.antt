use Rattle.std.specs.Prelude.{◌≡◌, IfOk, List}
use Rattle.std.proofs.Common.{subst}
use Rattle.dk_base.specs.declared.kinds.VarId.{VarId}
use Rattle.dk_snapshot.proofs.Grouping.{nonempty_groups}
use Rattle.dk_snapshot.proofs.classes.classes_in_order.Goals as goal

pub returns : goal.returns
returns c =
    subst (λ (all : List (List VarId)). IfOk c.nonempty.result (λ left. left ≡ all))
    (nonempty_groups c.args.classes.now c.args.count c.in_ok-group_members.field-0.items c.requires c.leaders-leaders.ensures.classes c.in_ok-group_members.ensures) c.nonempty.ensures
