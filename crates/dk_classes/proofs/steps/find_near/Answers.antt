use Rattle.std.proofs.Common.{ap, get_or, subst, refl}
use Rattle.std.specs.List.{Contains}
use Rattle.std.proofs.lemmas.List.Elements.{Contains-get_or}
use Rattle.dk_base.specs.declared.kinds.VarId.{VarId}
use Rattle.dk_classes.specs.Leaders.{var}
use Rattle.dk_classes.proofs.steps.find_near.Goals as goal

pub returns-then-is_like : goal.returns-then-is_like
returns-then-is_like c =
    let new = c.args.new.now in
    let n : VarId × VarId = get_or new c.args.place (var 0, var 0) in
    let told = c.if-is_like.ensures.0 refl in
    (subst (Contains new) (ap (λ (o : VarId). (n.0, o)) told.0) (Contains-get_or new c.args.place (var 0, var 0) c.if-place-new.true), told.1)
