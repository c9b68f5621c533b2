use Rattle.dk_engine.proofs.feed.runs.end_of_row.Goals as goal

pub returns-then-is_end-clause-from : goal.returns-then-is_end-clause-from
returns-then-is_end-clause-from c = c.is_end.ensures.from c.if-is_end.true

pub returns-then-is_end-clause-to : goal.returns-then-is_end-clause-to
returns-then-is_end-clause-to c = c.is_end.ensures.to c.if-is_end.true

pub returns-then-is_end-clause-of_row : goal.returns-then-is_end-clause-of_row
returns-then-is_end-clause-of_row c = c.is_end.ensures.of_row c.if-is_end.true
