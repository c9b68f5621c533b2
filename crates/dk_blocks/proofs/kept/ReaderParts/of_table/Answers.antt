use Rattle.dk_blocks.proofs.Keeping.{begins}
use Rattle.dk_blocks.proofs.kept.ReaderParts.of_table.Goals as goal

pub returns-clause-stands : goal.returns-clause-stands
returns-clause-stands c h between points word = begins _ h c.args.implicit between points c.with_word.ensures word c.requires.calls
