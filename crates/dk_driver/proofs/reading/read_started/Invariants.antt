use Rattle.std.proofs.Common.{◌≡◌, ◌≤◌, ◌-◌, ◌+◌, ◌*◌, List, not, IfSome, if◌then◌else◌}
use Rattle.dk_blocks.specs.History.{History}
use Rattle.dk_events.specs.Standing.{ignores_of, over_of}
use Rattle.dk_lines.specs.Reading.{left_of}
use Rattle.dk_driver.specs.Standing.{StandsBehind, points_of}
use Rattle.dk_driver.specs.Trails.{Step}
use Rattle.dk_driver.specs.WholeFile.{FileGoesOn}
use Rattle.dk_driver.proofs.reading.read_started.Given as goal

abbrev pub invariant-steps : goal.invariant-steps
invariant-steps g l = record {
  fits : g.C.Consumer.fits l.feed.consumer (points_of l.feed);
  started : l.lines.is_started ≡ not (over_of l.feed.events);
  limits : l.lines.limits ≡ l.fn.lines.limits;
  ignores : ignores_of l.feed.events ≡ ignores_of l.fn.feed.events;
  files : g.I.Inputs.file l.inputs ≡ g.I.Inputs.file l.fn.inputs;
  later : g.I.Inputs.faults l.fn.inputs ≤ g.I.Inputs.faults l.inputs;
  given : g.C.Consumer.given l.feed.consumer ≡ g.C.Consumer.given l.fn.feed.consumer;
  goes : (h : History) (steps : List Step) → StandsBehind g.C.Consumer.stands l.fn.feed h steps → IfSome (left_of l.fn.lines (g.I.Inputs.rest l.fn.inputs))
      (λ xs. FileGoesOn (ignores_of l.fn.feed.events) l.fn.place h steps l.fn.lines xs (StandsBehind g.C.Consumer.stands l.feed) (over_of l.feed.events) l.lines (left_of l.lines (g.I.Inputs.rest l.inputs)));
}

abbrev pub decreases-steps : goal.decreases-steps
decreases-steps g l = (l.lines.limits.total - l.lines.total) * 2 + (if over_of l.feed.events then 0 else 1)
