use Rattle.std.proofs.Common.{Err, sym, subst}
use Rattle.dk_base.specs.Reading.{Line}
use Rattle.dk_blocks.proofs.Fronting.{told_words}
use Rattle.dk_blocks.specs.Standing.{block_resumed}
use Rattle.dk_blocks.specs.LineSteps.{WordsGive}
use Rattle.dk_blocks.specs.declared.reader.Stop.{Stop}
use Rattle.dk_blocks.proofs.reader.at_words.Goals as goal

pub returns-in-Err-clause-gives : goal.returns-in-Err-clause-gives
returns-in-Err-clause-gives c ignores h stands =
    let line : Line = record { number = c.args.number; bytes = c.args.bytes.now } in
    subst (λ (s : Stop). WordsGive ignores (block_resumed ignores h c.args.block.now) line (Err s)) (sym c.stop_of.ensures)
    (told_words ignores c.in-Err.fault (block_resumed ignores h c.args.block.now) line (c.in-Err.ensures.goes_on ignores h stands))
