use Rattle.std.proofs.Common.{◌+◌, Err, sym, subst}
use Rattle.dk_blocks.specs.AtHand.{HandGives}
use Rattle.dk_blocks.specs.declared.gather.Stop.{Stop}
use Rattle.dk_blocks.proofs.AtHand.{all_lines, are_lines, fault_gives, found_gives}
use Rattle.dk_blocks.proofs.reader.take_record.Goals as goal

pub pass-requires-clause-lines : goal.pass-requires-clause-lines
pass-requires-clause-lines c =
    (all_lines c.requires.stands, are_lines c.args.lines.now c.args.kept.now.points (c.args.lines.now.number + 1) c.args.whole.now c.requires.stands)

pub returns-in-Ok-clause-gives : goal.returns-in-Ok-clause-gives
returns-in-Ok-clause-gives c = λ h stands rest.
    let closes = c.in-Ok.ensures.closes h stands in
    found_gives c.args.ignores c.args.kept.now c.with_record.new.self h c.args.lines.now c.pass.new.self c.args.whole.now c.in-Ok.found stands c.requires c.pass.ensures.state
    (c.pass.ensures.passes (all_lines c.requires.stands) (are_lines c.args.lines.now c.args.kept.now.points (c.args.lines.now.number + 1) c.args.whole.now c.requires.stands))
    c.in-Ok.ensures.some closes.0 closes.1 closes.2 rest

pub returns-in-Err-clause-gives : goal.returns-in-Err-clause-gives
returns-in-Err-clause-gives c = λ h stands rest.
    subst (λ (s : Stop). HandGives c.args.ignores h c.args.lines.now c.with_record.new.self (Err s) c.pass.new.self rest) (sym c.stop_of.ensures)
    (fault_gives c.args.ignores c.args.kept.now c.with_record.new.self h c.args.lines.now c.pass.new.self c.args.whole.now c.in-Err.fault stands c.requires
    (c.pass.ensures.passes (all_lines c.requires.stands) (are_lines c.args.lines.now c.args.kept.now.points (c.args.lines.now.number + 1) c.args.whole.now c.requires.stands))
    (c.in-Err.ensures.closes h stands) rest)
