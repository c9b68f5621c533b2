use Rattle.dk_decl.proofs.LastWord.{last_word_holds}
use Rattle.dk_decl.proofs.laws.last_word_holds.Goals as goal

pub returns : goal.returns
returns c = last_word_holds
