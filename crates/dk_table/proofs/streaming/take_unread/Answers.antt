use Rattle.dk_table.proofs.Onward.{has_failed, unread_says}
use Rattle.dk_table.proofs.streaming.take_unread.Goals.{in-Err, in-Ok}
use Rattle.dk_table.proofs.streaming.take_unread.Goals as goal

pub returns : goal.returns
returns g c names held rest contents base start since now h =
    elim c.match-take_whole.branch [
      | in-Ok w ↦ let on = w.in-Ok.ensures.goes names held rest contents base start since now h in rw w.result-is (unread_says _ _ _ _ _ _ _ _ _ _ _ _ _ _ on (has_failed _ _ _ _ _ _ _ _ _ _ _ _ _ _ h c.requires))
      | in-Err w ↦ rw w.result-is (w.in-Err.ensures.goes names held rest contents base start since now h)
    ]
