use Rattle.std.proofs.Common.{List, subst, sym, ℕ}
use Rattle.dk_io.specs.Outside.{HeldFile, Rose}
use Rattle.dk_table.proofs.Gathering.{gathered_since, opened, rose_before}
use Rattle.dk_table.specs.Streams.Pieces.{IsGathered, without_mark}
use Rattle.dk_table.proofs.streaming.filling.open.Goals as goal

pub returns-in_ok-text-in-Ok-clause-opened : goal.returns-in_ok-text-in-Ok-clause-opened
returns-in_ok-text-in-Ok-clause-opened g c =
    let filled = c.in_ok-filled-in-Ok.filled in
    let held : HeldFile = g.I.Inputs.file c.args.inputs.now c.args.name.now in
    let early : Type 0 = Rose (g.I.Inputs.faults c.args.inputs.now) (g.I.Inputs.faults c.fill.new.inputs) in
    let late : Type 0 = Rose (g.I.Inputs.faults c.start.new.self) (g.I.Inputs.faults c.fill.new.inputs) in
    subst (λ (l : List ℕ). IsGathered filled held l (g.I.Inputs.rest c.fill.new.inputs) early) (sym c.in_ok-text-in-Ok.ensures)
    (gathered_since filled held (without_mark filled c.fill.new.text) (g.I.Inputs.rest c.fill.new.inputs) early late
    (rose_before (g.I.Inputs.faults c.args.inputs.now) (g.I.Inputs.faults c.start.new.self) (g.I.Inputs.faults c.fill.new.inputs) c.in-Ok.ensures.later)
    (opened filled held c.new-text.result c.fill.new.text (g.I.Inputs.rest c.start.new.self) (g.I.Inputs.rest c.fill.new.inputs) late c.new-text.ensures c.in-Ok.ensures.rest c.in_ok-filled-in-Ok.ensures.filled))
