use Rattle.std.specs.Prelude.{refl}
use Rattle.dk_print.specs.Texts.{row_texts}
use Rattle.dk_print.proofs.parts.texts.Goals as goal

pub returns : goal.returns
unfolding row_texts
returns c = refl
