use Rattle.std.proofs.Common.{sym}
use Rattle.dk_lines.proofs.Cut.{len_none, len_some}
use Rattle.dk_turns.proofs.lines.lf_place.Goals as goal

pub returns-in-Some-clause-len : goal.returns-in-Some-clause-len
returns-in-Some-clause-len c = sym (len_some c.args.bytes.now c.in-Some.place c.in-Some.ensures.0 c.in-Some.ensures.1)

pub returns-in-None-clause-len : goal.returns-in-None-clause-len
returns-in-None-clause-len c = sym (len_none c.args.bytes.now c.in-None.ensures)
