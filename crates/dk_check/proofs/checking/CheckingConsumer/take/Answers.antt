use Rattle.dk_check.proofs.Taking.{claims_stay, kept_up, still_over_all, taken_stands}
use Rattle.dk_check.proofs.checking.CheckingConsumer.take.Goals as goal

pub take_event-requires-clause-kept_up : goal.take_event-requires-clause-kept_up
take_event-requires-clause-kept_up c = kept_up c.args.points.now c.args.event c.args.self.now.checker c.requires.behind

pub returns-clause-given : goal.returns-clause-given
returns-clause-given c = claims_stay c.take_event.result c.args.points.now c.args.file c.args.event c.args.self.now.checker c.take_event.new.self.checker c.take_event.ensures

pub returns-clause-fits : goal.returns-clause-fits
returns-clause-fits c =
    still_over_all c.take_event.result c.args.points.now c.args.file c.args.event c.args.self.now.checker c.take_event.new.self.checker
    (kept_up c.args.points.now c.args.event c.args.self.now.checker c.requires.behind) c.take_event.ensures

pub returns-clause-stands : goal.returns-clause-stands
returns-clause-stands c = taken_stands c.args.self.now c.take_event.new.self c.take_event.result c.args.points.now c.args.file c.args.event c.take_event.ensures
