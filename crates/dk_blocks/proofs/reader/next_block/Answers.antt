use Rattle.std.proofs.Common.{◌≡◌, Option, Result, Ok, Some, subst, rules}
use Rattle.dk_blocks.specs.AtHand.{HandGives}
use Rattle.dk_blocks.specs.declared.found.Found.{Found}
use Rattle.dk_blocks.specs.declared.gather.Stop.{Stop}
use Rattle.dk_blocks.proofs.reader.next_block.Goals as goal

pub returns-in-Ok-Some-clause-gives : goal.returns-in-Ok-Some-clause-gives
returns-in-Ok-Some-clause-gives g c h stands =
    let is : c.record_at_hand.result ≡ Ok (Some c.in-Ok-Some.found) = search rules in
    subst (λ (r : Result (Option Found) Stop). HandGives c.args.ignores h c.args.lines.now c.record_at_hand.new.kept r c.record_at_hand.new.lines (g.I.Inputs.rest c.args.inputs.now)) is
    (c.record_at_hand.ensures.gives h stands (g.I.Inputs.rest c.args.inputs.now))
