use Rattle.std.proofs.Common.{subst, sym}
use Rattle.dk_filters.specs.declared.candidate.Candidate.{Candidate}
use Rattle.dk_print.proofs.Pieces.{one_more}
use Rattle.dk_implications.proofs.Lines.{IsOneOf}
use Rattle.dk_implications.specs.Telling.{told_line}
use Rattle.dk_implications.proofs.telling.Telling.push_told_lines.Goals as goal

pub push_told_line-requires-clause-instance : goal.push_told_line-requires-clause-instance
push_told_line-requires-clause-instance c =
    let item : Candidate = c.instance-item.result in
    subst (IsOneOf c.args.self.now.whole.now) (sym c.instance-item.is) (c.requires.list c.loop-instance.instance-index item c.loop-instance-test.true)

pub loop-instance-preserved : goal.loop-instance-preserved
loop-instance-preserved c =
    one_more (told_line c.args.self.now.whole.now c.args.b c.args.truth) c.args.list.now c.loop-instance.instance-index c.instance-item.result c.args.text.now c.loop-instance.text
    c.push_told_line.new.text c.loop-instance-test.true c.instance-item.is c.loop-instance.invariant c.in_ok-push_told_line.ensures
