-- Faults come at the line that makes them: a block that is still read has none.
use Rattle.std.specs.Prelude.{[], None, IsOk}
use Rattle.dk_decl.specs.Blocks.{decl_resumed}
use Rattle.dk_decl.specs.declared.block.DeclBlock.{DeclBlock}

abbrev pub NoFaultYet : Type 0
NoFaultYet = (b : DeclBlock) → IsOk (decl_resumed b [] None)
