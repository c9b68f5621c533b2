use Rattle.std.specs.Prelude.{◌≡◌, ◌==◌}
use Rattle.std.specs.Bool.{Decides}
use Rattle.std.specs.Cmp.Lexicographic.{pointwise_decides}
use Rattle.std.proofs.Common.{ap}
use Rattle.std.proofs.lemmas.Bool.Decides.{Decides-at, Decides-eqb}
use Rattle.dk_base.specs.declared.kinds.VarId.{VarId}
use Rattle.dk_snapshot.proofs.members.are_same.Goals as goal

vars_decided : (v w : VarId) → Decides (v.0 == w.0) (v ≡ w)
vars_decided v w =
    let one = Decides-eqb v.0 w.0 in
    (λ t. ap (λ n. record { 0 = n }) (one.0 t), λ e. one.1 (ap (λ (u : VarId). u.0) e))

pub returns : goal.returns
returns c = Decides-at _ _ c.eq.ensures (pointwise_decides (λ vs ws. pointwise_decides vars_decided vs ws) c.args.classes.now c.args.others.now)
