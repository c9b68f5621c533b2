use Rattle.dk_driver.proofs.Complete.{complete_by}
use Rattle.dk_driver.proofs.Running.{files_say, traces_begin}
use Rattle.dk_driver.proofs.reading.read_files.Goals as goal

pub returns-clause-says : goal.returns-clause-says
returns-clause-says g c =
    files_say g.C.Consumer.stands c.args.traces.now _ _ _ _ c.read_all.result c.read_all.new.lines
    (c.read_all.ensures.gives _ (traces_begin g.C.Consumer.stands c.args.traces.now _ _ c.in_ok-feed.feed _ c.in_ok-feed.ensures.stands))

pub returns-clause-complete : goal.returns-clause-complete
returns-clause-complete g c calm =
    complete_by g.C.Consumer.stands c.args.traces.now _ _ _ _ _ c.read_all.result
    (files_say g.C.Consumer.stands c.args.traces.now _ _ _ _ c.read_all.result c.read_all.new.lines
    (c.read_all.ensures.gives _ (traces_begin g.C.Consumer.stands c.args.traces.now _ _ c.in_ok-feed.feed _ c.in_ok-feed.ensures.stands)))
    c.read_all.ensures.placed c.read_all.ensures.cause calm
