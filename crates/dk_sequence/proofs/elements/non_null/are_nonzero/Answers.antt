use Rattle.std.proofs.Common.{ap, ◌∙◌, not, int_eq, pos}
use Rattle.dk_sequence.proofs.ElementRows.Relating.{none_passes}
use Rattle.dk_sequence.proofs.elements.non_null.are_nonzero.Goals as goal

pub returns : goal.returns
returns c = ap not c.member.ensures ∙ none_passes (λ x. int_eq x (pos 0)) c.args.numbers.now
