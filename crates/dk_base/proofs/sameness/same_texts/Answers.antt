use Rattle.std.proofs.lemmas.Bool.Decides.{Decides-at}
use Rattle.dk_base.proofs.Samenesses.{texts_decided}
use Rattle.dk_base.proofs.sameness.same_texts.Goals as goal

pub returns : goal.returns
returns c = Decides-at _ _ c.eq.ensures (texts_decided c.args.a.now c.args.b.now)
