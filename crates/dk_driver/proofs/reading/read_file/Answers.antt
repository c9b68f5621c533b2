use Rattle.std.proofs.Common.{rules, ◌≡◌}
use Rattle.dk_events.specs.Standing.{ignores_of}
use Rattle.dk_driver.specs.WholeFile.{fresh_reading}
use Rattle.dk_driver.proofs.Filing.{told_started}
use Rattle.dk_driver.proofs.reading.read_file.Goals as goal

pub returns-in-Ok-clause-gives : goal.returns-in-Ok-clause-gives
returns-in-Ok-clause-gives g c h steps stands xs holds =
    let started : c.start.new.self ≡ fresh_reading c.args.lines.now = search rules in
    told_started g.C.Consumer.stands (ignores_of c.args.feed.events) c.args.place h steps c.args.lines.now c.start.new.self c.read_started.new.lines _ xs _ _ c.read_started.result
    c.read_started.ensures.started started c.in-Ok.ensures.rest holds c.read_started.ensures.emptied (c.read_started.ensures.gives h steps stands)
