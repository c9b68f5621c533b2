use Rattle.dk_table.proofs.Agreed.{streams_are_traces, traces_are_streams}
use Rattle.dk_table.proofs.laws.streams_are_traces.Goals as goal

pub returns : goal.returns
returns c = λ command point types files asked. (streams_are_traces command point types files asked, traces_are_streams command point types files asked)
