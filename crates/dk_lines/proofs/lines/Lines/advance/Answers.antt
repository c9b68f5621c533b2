use Rattle.std.proofs.Common.{rules}
use Rattle.dk_lines.proofs.Lined.{is_next}
use Rattle.dk_lines.proofs.lines.Lines.advance.Goals as goal

pub returns-in-Ok-Line-clause-next : goal.returns-in-Ok-Line-clause-next
returns-in-Ok-Line-clause-next g c = is_next (search rules) (search rules) (search rules)

pub returns-in-Ok-Long-clause-next : goal.returns-in-Ok-Long-clause-next
returns-in-Ok-Long-clause-next g c = is_next (search rules) (search rules) (search rules)

pub returns-in-Ok-Many-clause-next : goal.returns-in-Ok-Many-clause-next
returns-in-Ok-Many-clause-next g c = is_next (search rules) (search rules) (search rules)

pub returns-in-Err-Read-clause-next : goal.returns-in-Err-Read-clause-next
returns-in-Err-Read-clause-next g c = is_next (search rules) (search rules) (search rules)
