use Rattle.std.proofs.Common.{◌∙◌, ap, subst, sym}
use Rattle.dk_base.specs.Values.Spelling.{IsWritten}
use Rattle.dk_base.specs.Values.{IsOfKind, value_of_text}
use Rattle.dk_base.proofs.ReadBack.{spelled_back}
use Rattle.dk_state.proofs.ReadWithin.{value_within}
use Rattle.dk_state.proofs.front.Front.parse_value.Goals as goal

pub returns-clause-read : goal.returns-clause-read
returns-clause-read c v of written is =
    c.or_give_up.ensures.read v (c.in_ok-value.ensures ∙ ap (value_of_text c.args.kind) is ∙ spelled_back c.args.kind v of written)

pub returns-clause-within : goal.returns-clause-within
returns-clause-within c =
    let kind = c.args.kind in
    subst (λ v. IsOfKind kind v × IsWritten v) (sym c.or_give_up.ensures.value) (value_within kind c.args.text.now c.in_ok-value.value c.in_ok-value.ensures)
