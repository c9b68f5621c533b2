use Rattle.std.proofs.Common.{rules}
use Rattle.dk_trace.specs.Answers.{shown_value}
use Rattle.dk_trace.proofs.whole.push_marked.Goals as goal

pub returns : goal.returns
returns c = record { front = shown_value c.in-Some.value; mark = c.in-Some.ensures; added = search rules }
