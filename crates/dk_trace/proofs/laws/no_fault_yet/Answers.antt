use Rattle.dk_trace.proofs.Unfaulted.{no_fault_yet}
use Rattle.dk_trace.proofs.laws.no_fault_yet.Goals as goal

pub returns : goal.returns
returns c = no_fault_yet
