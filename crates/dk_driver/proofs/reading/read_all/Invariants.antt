use Rattle.std.proofs.Common.{◌≡◌, ◌≤◌, ℕ, false}
use Rattle.dk_events.specs.Standing.{ignores_of, over_of}
use Rattle.dk_lines.specs.Reading.{room_of}
use Rattle.dk_driver.specs.AllFiles.{TracesAreReadTo}
use Rattle.dk_driver.specs.Standing.{points_of}
use Rattle.dk_driver.specs.Walks.{line_limit}
use Rattle.dk_driver.proofs.reading.read_all.Given as goal

abbrev pub invariant-loop-place : goal.invariant-loop-place
invariant-loop-place g l = record {
  fits : g.C.Consumer.fits l.feed.consumer (points_of l.feed);
  begins : over_of l.feed.events ≡ false;
  limits : l.lines.limits.line ≡ line_limit;
  ignores : ignores_of l.feed.events ≡ l.traces.ignore_missing_entry;
  files : g.I.Inputs.file l.inputs ≡ g.I.Inputs.file l.fn.inputs;
  later : g.I.Inputs.faults l.fn.inputs ≤ g.I.Inputs.faults l.inputs;
  given : g.C.Consumer.given l.feed.consumer ≡ g.C.Consumer.given l.fn.feed.consumer;
  goes : (room : ℕ) → TracesAreReadTo g.C.Consumer.stands l.traces room (g.I.Inputs.file l.fn.inputs) (g.I.Inputs.rest l.fn.inputs) (g.I.Inputs.rest l.fn.inputs) l.fn.feed (room_of l.fn.lines) 0
      → TracesAreReadTo g.C.Consumer.stands l.traces room (g.I.Inputs.file l.fn.inputs) (g.I.Inputs.rest l.fn.inputs) (g.I.Inputs.rest l.inputs) l.feed (room_of l.lines) l.place;
}
