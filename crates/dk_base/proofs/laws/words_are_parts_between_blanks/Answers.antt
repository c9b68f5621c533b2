use Rattle.dk_base.proofs.Parted.{words_are_parts}
use Rattle.dk_base.proofs.laws.words_are_parts_between_blanks.Goals as goal

pub returns : goal.returns
returns c = words_are_parts
