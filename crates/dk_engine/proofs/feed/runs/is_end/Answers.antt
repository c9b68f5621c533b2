use Rattle.dk_engine.proofs.feed.runs.is_end.Goals as goal

pub returns-clause-of_row : goal.returns-clause-of_row
returns-clause-of_row c h = c.are_of_row.ensures h
