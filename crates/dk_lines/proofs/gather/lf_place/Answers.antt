use Rattle.std.proofs.Common.{sym}
use Rattle.dk_lines.proofs.Cut.{len_none, len_some}
use Rattle.dk_lines.proofs.gather.lf_place.Goals as goal

pub returns-in-Some-memchr-clause-len : goal.returns-in-Some-memchr-clause-len
returns-in-Some-memchr-clause-len c = sym (len_some c.args.bytes.now c.in-Some-memchr.place c.in-Some-memchr.ensures.0 c.in-Some-memchr.ensures.1)

pub returns-in-None-clause-len : goal.returns-in-None-clause-len
returns-in-None-clause-len c = sym (len_none c.args.bytes.now c.in-None.ensures)
