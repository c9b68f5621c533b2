use Rattle.std.specs.Prelude.{◌<◌, length}
use Rattle.std.proofs.Common.{subst, sym}
use Rattle.dk_engine.specs.Reading.Levels.{Whole}
use Rattle.dk_print.proofs.Pieces.{one_more}
use Rattle.dk_implications.proofs.Lines.{conditions_there}
use Rattle.dk_implications.specs.Standing.{AreOver, HalvesStandFor}
use Rattle.dk_implications.specs.Telling.{lines_of}
use Rattle.dk_implications.specs.declared.halves.Halves.{Halves}
use Rattle.dk_implications.proofs.telling.Telling.push_all.Goals as goal

pub push_halves-requires-clause-condition : goal.push_halves-requires-clause-condition
push_halves-requires-clause-condition c =
    let whole : Whole = c.args.self.now.whole.now in
    let item : Halves = c.halves-item.result in
    subst (λ (halves : Halves). halves.condition.0 < length whole.infos) (sym c.halves-item.is)
    (conditions_there whole.infos c.args.all.now c.requires.conditions c.loop-halves.halves-index item c.loop-halves-test.true)

pub push_halves-requires-clause-over : goal.push_halves-requires-clause-over
push_halves-requires-clause-over c =
    let whole : Whole = c.args.self.now.whole.now in
    let item : Halves = c.halves-item.result in
    subst (AreOver whole.grammar whole.infos) (sym c.halves-item.is) (c.requires.over c.loop-halves.halves-index item c.loop-halves-test.true)

pub loop-halves-preserved : goal.loop-halves-preserved
loop-halves-preserved c samples stands stand =
    let whole : Whole = c.args.self.now.whole.now in
    let item : Halves = c.halves-item.result in
    one_more (λ (halves : Halves). lines_of whole.grammar c.args.self.now.least whole.infos samples halves.condition) c.args.all.now c.loop-halves.halves-index item c.args.text.now c.loop-halves.text
    c.push_halves.new.text c.loop-halves-test.true c.halves-item.is (c.loop-halves.invariant samples stands stand)
    (c.in_ok-push_halves.ensures samples stands
    (subst (λ (halves : Halves). HalvesStandFor halves samples) (sym c.halves-item.is) (stand c.loop-halves.halves-index item c.loop-halves-test.true)))
