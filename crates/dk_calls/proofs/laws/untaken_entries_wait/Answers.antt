use Rattle.dk_calls.proofs.Untaken.{untaken_entries}
use Rattle.dk_calls.proofs.laws.untaken_entries_wait.Goals as goal

pub returns : goal.returns
returns c = untaken_entries
