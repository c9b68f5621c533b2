use Rattle.std.proofs.Common.{◌≡◌, ◌∙◌, ◌-◌, List, ℕ, ap, drop, length, take, arith}
use Rattle.std.proofs.lemmas.List.{length-drop, take_all}
use Rattle.dk_base.specs.declared.kinds.VarInfo.{VarInfo}
use Rattle.dk_calls.specs.Origs.{own_len}
use Rattle.dk_calls.proofs.Owning.{orig_part}
use Rattle.dk_calls.proofs.calls.orig_vars.Goals as goal

pub returns : goal.returns
returns c = λ (e : ℕ) entered before.
    let vars : List VarInfo = c.vars-vars.result.now in
    let long : length (drop c.own_len.result vars) ≡ length vars - c.own_len.result = length-drop c.own_len.result vars in
    let whole : take (length vars - c.own_len.result) (drop c.own_len.result vars) ≡ drop c.own_len.result vars = take_all (length vars - c.own_len.result) (drop c.own_len.result vars) (omega arith) in
    whole
    ∙ ap (λ (n : ℕ). drop n vars) c.own_len.ensures.value
    ∙ ap (λ (vs : List VarInfo). drop (own_len vs) vs) c.vars-vars.ensures.vars
    ∙ orig_part c.args.points.now c.args.exit.0 e entered before
