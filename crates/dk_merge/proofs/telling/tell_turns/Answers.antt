use Rattle.dk_turns.specs.Turns.{turns_of}
use Rattle.dk_merge.proofs.TurnsRuns.{turns_early}
use Rattle.dk_merge.proofs.telling.tell_turns.Goals as goal

pub returns-in-Err : goal.returns-in-Err
returns-in-Err g c = turns_early c.args.least (turns_of c.args.n c.args.traces.now) _ _
