use Rattle.std.proofs.Common.{◌≡◌, [], List, subst, sym}
use Rattle.dk_blocks.specs.History.{no_history}
use Rattle.dk_events.specs.Standing.{points_of}
use Rattle.dk_points.specs.Table.{Point}
use Rattle.dk_template.specs.declared.grammar.Grammar.TheVariants.{Two}
use Rattle.dk_driver.proofs.Taking.{table_of}
use Rattle.dk_driver.proofs.feed.Feed.new.Goals as goal

pub returns-clause-fits : goal.returns-clause-fits
unfolding no_history
returns-clause-fits g c =
    let none : points_of c.in_ok-events.events ≡ [] = table_of c.in_ok-events.events.reader no_history (c.in_ok-events.ensures.stands Two) in
    subst (λ (ps : List Point). g.C.Consumer.fits c.args.consumer ps) (sym none) c.requires.fits

pub returns-clause-stands : goal.returns-clause-stands
unfolding no_history
returns-clause-stands g c = record { events = c.in_ok-events.ensures.stands Two; consumer = c.requires.stands }
