use Rattle.std.proofs.Common.{◌∙◌, ◌++◌, append-nil, sym, ap}
use Rattle.dk_base.proofs.names.unescape.Goals as goal

pub returns : goal.returns
returns c = sym (append-nil c.bytes.name) ∙ ap (λ bs. c.bytes.name ++ bs) (sym c.in_default.ensures.byte) ∙ c.bytes.invariant
