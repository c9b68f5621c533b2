use Rattle.std.proofs.Common.{◌≡◌, ℕ, drop, map, Some}
use Rattle.dk_decl.specs.Blocks.{block_decl, decl_resumed}
use Rattle.dk_decl.specs.Laws.{line_of}
use Rattle.dk_decl.proofs.laws.read_block.Given as goal

-- the block goes on as the whole does
abbrev pub invariant-loop-number : goal.invariant-loop-number
invariant-loop-number l = (close : ℕ) → block_decl l.implicit (line_of l.first) (map line_of l.rest) (Some close)
    ≡ decl_resumed l.block (map line_of (drop l.number-index l.rest)) (Some close)
