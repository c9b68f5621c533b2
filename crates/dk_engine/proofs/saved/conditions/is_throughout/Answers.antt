use Rattle.std.proofs.Common.{subst}
use Rattle.dk_engine.specs.Saved.Bitmaps.{IsBitmap}
use Rattle.dk_engine.proofs.saved.conditions.is_throughout.Goals as goal

pub returns-in-Some : goal.returns-in-Some
returns-in-Some c = c.are_same_words.ensures c.args.leader (subst (λ hs. IsBitmap hs c.args.leader c.in-Some.words.now) c.requires.bitmaps c.in-Some.ensures)
