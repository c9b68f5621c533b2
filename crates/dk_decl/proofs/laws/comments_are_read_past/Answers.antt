use Rattle.dk_decl.proofs.PastLines.{comments}
use Rattle.dk_decl.proofs.laws.comments_are_read_past.Goals as goal

pub returns : goal.returns
returns c = comments
