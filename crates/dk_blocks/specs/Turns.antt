-- What a line does to a block, with what is kept and the block behind it.
use Rattle.std.specs.Prelude.{⊤, Bool, List, Option, Result, Ok, Err}
use Rattle.dk_points.specs.Table.{Point}
use Rattle.dk_blocks.specs.Finding.{FoundFits}
use Rattle.dk_blocks.specs.declared.block.Block.{Block}
use Rattle.dk_blocks.specs.declared.found.Found.{Found}
use Rattle.dk_blocks.specs.declared.kept.ReaderParts.{ReaderParts}
use Rattle.dk_blocks.specs.declared.reader.Closed.{Closed}
use Rattle.dk_blocks.specs.declared.reader.Closed.TheVariants as after
use Rattle.dk_blocks.specs.declared.reader.End.{End}
use Rattle.dk_blocks.specs.declared.reader.Stop.{Stop}

-- the end of a block, or of a file without one, and what is kept then
pub record Ending : Type 0 where
  pub kept : ReaderParts
  pub is_over : Bool
  pub found : Option Found

-- the block goes on, or the next one began; or a block or the file ends
pub data Turn : Type 0 where
  Goes : (kept : ReaderParts) → (block : Block) → Turn
  Ends : (end : Ending) → Turn

abbrev pub ending_at : ReaderParts → End → Ending
ending_at kept end = record { kept = kept; is_over = end.is_over; found = end.found }

abbrev pub turn_of : ReaderParts → Block → Result Closed Stop → Result Turn Stop
turn_of kept block (Ok after.Goes) = Ok (Goes kept block)
turn_of kept block (Ok (after.Ends end)) = Ok (Ends (ending_at kept end))
turn_of kept block (Err stop) = Err stop

abbrev pub ending_of : ReaderParts → Result End Stop → Result Ending Stop
ending_of kept (Ok end) = Ok (ending_at kept end)
ending_of kept (Err stop) = Err stop

-- what was found of a block that ends fits the points
abbrev pub AfterFits : List Point → Result Closed Stop → Type 0
AfterFits ps (Ok after.Goes) = ⊤
AfterFits ps (Ok (after.Ends end)) = FoundFits ps end.found
AfterFits ps (Err stop) = ⊤
