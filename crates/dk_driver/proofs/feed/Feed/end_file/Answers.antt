use Rattle.dk_blocks.specs.History.{file_ended}
use Rattle.dk_driver.proofs.feed.Feed.end_file.Goals as goal

pub returns-clause-stands : goal.returns-clause-stands
unfolding file_ended
returns-clause-stands g c h records stands = record { events = c.end_file.ensures.stands h stands.events; consumer = stands.consumer }
