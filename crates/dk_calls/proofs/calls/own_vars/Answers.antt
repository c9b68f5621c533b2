use Rattle.std.proofs.Common.{◌∙◌, List, ℕ, ap, take}
use Rattle.dk_base.specs.declared.kinds.VarInfo.{VarInfo}
use Rattle.dk_calls.specs.Origs.{own_len}
use Rattle.dk_calls.proofs.Owning.{own_part}
use Rattle.dk_calls.proofs.calls.own_vars.Goals as goal

pub returns : goal.returns
returns c =
    ap (λ (n : ℕ). take n c.vars-vars.result.now) c.own_len.ensures.value
    ∙ ap (λ (vs : List VarInfo). take (own_len vs) vs) c.vars-vars.ensures.vars
    ∙ own_part c.args.points.now c.args.point.0
