-- Steps of a reader line by line, of which those of `next` are made.
use Rattle.std.specs.Prelude.{◌≡◌, ◌≤◌, ◌<◌, not, ◌+◌, ◌-◌, ℕ, Bool, true, false, List, [], ◌∷◌, ◌++◌, is_some, length, ⊤, Option, Some, None, Result, Ok, Err}
use Rattle.dk_base.specs.Reading.{Line, Reads}
use Rattle.dk_lines.specs.Left.{Left, Next, Over}
use Rattle.dk_lines.specs.Reading.{Reading, room_of}
use Rattle.dk_base.specs.declared.why.Why.TheVariants.{LongLine as WhyLong, TooLong as WhyMany}
use Rattle.dk_base.specs.declared.faults.BlockFault.{BlockFault}
use Rattle.dk_base.specs.declared.faults.BlockFault.TheVariants as r
use Rattle.dk_lines.specs.declared.lines.LineFault.{LineFault}
use Rattle.dk_lines.specs.declared.lines.LineFault.TheVariants as f
use Rattle.dk_blocks.specs.Blocks.{Last, groups_of, is_blank_line}
use Rattle.dk_blocks.specs.Finding.{outcome_of}
use Rattle.dk_blocks.specs.History.{History, Taken, effect_of, no_block}
use Rattle.dk_blocks.specs.LastLines.{LeavesBlank}
use Rattle.dk_blocks.specs.Reading.{after_next}
use Rattle.dk_blocks.specs.Standing.{Fits, Stands, block_resumed}
use Rattle.dk_blocks.specs.declared.block.Block.{Block}
use Rattle.dk_blocks.specs.declared.kept.ReaderParts.{ReaderParts}
use Rattle.dk_blocks.specs.declared.reader.Step.{Step}
use Rattle.dk_blocks.specs.declared.reader.Step.TheVariants.{More, Ended}
use Rattle.dk_base.specs.declared.faults.Fault.{Fault}
use Rattle.dk_base.specs.declared.faults.Fault.TheVariants as x
use Rattle.dk_blocks.specs.declared.reader.Stop.{Stop}
use Rattle.dk_blocks.specs.Turns.{Turn, Goes, Ends, Ending}
use Rattle.dk_blocks.specs.declared.reader.Stop.TheVariants.{Refused, Read, NoMemory}
use Rattle.dk_blocks.specs.Steps.{groups_left, behind_block, IsCutAlikeOr, Steps, Stops, Grown}

-- Within a block: what `read` says of what was left is what `read'` says of what is left now.
pub record Moves (ignores : Bool) (read : Reads Taken) (r : Reading) (xs : List ℕ) (read' : Reads Taken) (r' : Reading)
    (ys : List ℕ) : Type 0 where
  pub front : List ℕ
  pub split : xs ≡ front ++ ys
  pub room : room_of r' ≡ room_of r - length front
  pub last : LeavesBlank r' ys → LeavesBlank r xs
  pub same : after_next ignores read (groups_left false r true xs) ≡ after_next ignores read' (groups_left false r' true ys)
  pub cut : (d rest : List ℕ) → ys ≡ d ++ rest
      → IsCutAlikeOr (ys ≡ []) (after_next ignores read (groups_left false r false (front ++ d)))
      (after_next ignores read' (groups_left false r' false d))

-- what one line does to a block
abbrev pub TurnGives : Bool → Reads Taken → Reading → List ℕ → Result Turn Stop → Reading → Option (List ℕ) → Type 0
TurnGives ignores read r xs (Ok (Goes kept block)) r' left' =
    (h : History) × Stands kept h × ((ys : List ℕ) × (left' ≡ Some ys) × Moves ignores read r xs (block_resumed ignores h block) r' ys)
TurnGives ignores read r xs (Ok (Ends end)) r' left' =
    (h : History) × Stands end.kept h
    × ((ys : List ℕ) × (left' ≡ Some ys) × Steps ignores read false r xs (outcome_of h end.found) end.is_over r' ys)
TurnGives ignores read r xs (Err (Refused line why)) r' left' =
    after_next ignores read (groups_left false r true xs) ≡ Err (record { line = line; why = why })
TurnGives ignores read r xs (Err Read) r' left' = Stops ignores read false r xs left'
TurnGives ignores read r xs (Err NoMemory) r' left' = ⊤

-- what a line does to a block, whatever follows it; a blank one alone ends it
abbrev pub LineGives : Bool → Reads Taken → Line → Result Turn Stop → Type 0
LineGives ignores read line (Ok (Goes kept block)) = (h : History) × Stands kept h × ((rest : Left) →
    after_next ignores read (groups_of (Next line rest)) ≡ after_next ignores (block_resumed ignores h block) (groups_of rest))
LineGives ignores read line (Ok (Ends end)) = (is_blank_line line ≡ true) × (h : History) × Stands end.kept h × (end.is_over ≡ false)
    × ((rest : Left) →
    after_next ignores read (groups_of (Next line rest)) ≡ behind_block (outcome_of h end.found) (groups_of rest))
LineGives ignores read line (Err (Refused number why)) =
    (rest : Left) → after_next ignores read (groups_of (Next line rest)) ≡ Err (record { line = number; why = why })
LineGives ignores read line (Err Read) = ⊥
LineGives ignores read line (Err NoMemory) = ⊤

-- what the file's end does to a block
abbrev pub EndGives : Bool → Reads Taken → ℕ → Result Turn Stop → Type 0
EndGives ignores read number (Ok (Goes kept block)) = ⊥
EndGives ignores read number (Ok (Ends end)) = (h : History) × Stands end.kept h × (end.is_over ≡ true)
    × (after_next ignores read (Last [] (Over number)) ≡ behind_block (outcome_of h end.found) (Last [] (Over number)))
EndGives ignores read number (Err (Refused line why)) =
    after_next ignores read (Last [] (Over number)) ≡ Err (record { line = line; why = why })
EndGives ignores read number (Err Read) = ⊥
EndGives ignores read number (Err NoMemory) = ⊤

abbrev pub EndCounts : Reading → Ending → Reading → Type 0
EndCounts r end r' = (r'.is_started ≡ not end.is_over) × Grown end.is_over r r' × (end.found ≡ None → end.is_over ≡ true)

-- lines and totals, whatever is told
abbrev pub TurnCounts : Reading → Result Turn Stop → Reading → Type 0
TurnCounts r (Ok (Goes kept block)) r' =
    (r'.limits ≡ r.limits) × (r'.is_started ≡ true) × (r.total < r'.total) × (r'.total ≤ r.limits.total)
TurnCounts r (Ok (Ends end)) r' = (r'.limits ≡ r.limits) × EndCounts r end r'
TurnCounts r (Err e) r' = r'.limits ≡ r.limits

-- what a blank line of this number does to a block, whatever follows it
abbrev pub BlankGives : Bool → Reads Taken → ℕ → Result Turn Stop → Type 0
BlankGives ignores read number (Ok (Goes kept block)) =
    (h : History) × Stands kept h × (read [] (Some number) ≡ Ok (no_block h))
    × ((ls : List Line) (close : Option ℕ) → block_resumed ignores h block ls close ≡ effect_of ignores h ls close)
BlankGives ignores read number (Ok (Ends end)) =
    (h : History) × Stands end.kept h × (end.is_over ≡ false) × (is_some end.found ≡ true)
    × (read [] (Some number) ≡ outcome_of h end.found)
BlankGives ignores read number (Err (Refused line why)) = read [] (Some number) ≡ Err (record { line = line; why = why })
BlankGives ignores read number (Err Read) = ⊥
BlankGives ignores read number (Err NoMemory) = ⊤

-- what a line that isn't blank does
abbrev pub WordsGive : Bool → Reads Taken → Line → Result Turn Stop → Type 0
WordsGive ignores read line (Ok (Goes kept block)) =
    (h : History) × Stands kept h × ((ls : List Line) (close : Option ℕ) → read (line ∷ ls) close ≡ block_resumed ignores h block ls close)
WordsGive ignores read line (Ok (Ends end)) = ⊥
WordsGive ignores read line (Err (Refused number why)) =
    (ls : List Line) (close : Option ℕ) → read (line ∷ ls) close ≡ Err (record { line = number; why = why })
WordsGive ignores read line (Err Read) = ⊥
WordsGive ignores read line (Err NoMemory) = ⊤

abbrev pub stop_of_fault : BlockFault → Stop
stop_of_fault (r.Refused line why) = Refused line why
stop_of_fault r.NoMemory = NoMemory

abbrev pub stop_of_unread : LineFault → Stop
stop_of_unread f.Read = Read
stop_of_unread (f.LongLine line) = Refused line WhyLong
stop_of_unread (f.TooLong line) = Refused line WhyMany
stop_of_unread f.NoMemory = NoMemory

-- the forms that an answer has, whatever is told
abbrev pub LineShape : Result Turn Stop → Type 0
LineShape (Ok (Goes kept block)) = Fits kept block
LineShape (Ok (Ends end)) = (end.is_over ≡ false) × (is_some end.found ≡ true)
LineShape (Err (Refused line why)) = ⊤
LineShape (Err Read) = ⊥
LineShape (Err NoMemory) = ⊤

abbrev pub EndShape : Result Turn Stop → Type 0
EndShape (Ok (Goes kept block)) = ⊥
EndShape (Ok (Ends end)) = end.is_over ≡ true
EndShape (Err (Refused line why)) = ⊤
EndShape (Err Read) = ⊥
EndShape (Err NoMemory) = ⊤

-- the turn of a line that isn't blank
abbrev pub line_turn : ReaderParts → Result Block Stop → Result Turn Stop
line_turn kept (Ok block) = Ok (Goes kept block)
line_turn kept (Err stop) = Err stop

-- what the end of a block's lines comes to, at the file's end or at a blank line
abbrev pub ClosesAt : Bool → Bool → Reads Taken → ℕ → Result Turn Stop → Type 0
ClosesAt ignores true read number turn = EndGives ignores read number turn
ClosesAt ignores false read number turn = BlankGives ignores read number turn

abbrev pub ShapeAt : Bool → Result Turn Stop → Type 0
ShapeAt true turn = EndShape turn
ShapeAt false turn = LineShape turn

-- What a line does to a block, which is `block` then, whatever follows it: the block has a line more, or it ends, and then does what its
-- end comes to.
abbrev pub LineStep : Bool → ReaderParts → Block → Reads Taken → Line → Result Step Stop → Type 0
LineStep ignores kept block read line (Ok More) = LineGives ignores read line (Ok (Goes kept block))
LineStep ignores kept block read line (Ok (Ended number is_over)) =
    (turn : Result Turn Stop) → ClosesAt ignores is_over read number turn → LineGives ignores read line turn
LineStep ignores kept block read line (Err stop) = LineGives ignores read line (Err stop)

-- a block with a line more fits what is kept; a line that isn't read ends no block
abbrev pub LineStepShape : ReaderParts → Block → Block → Result Step Stop → Type 0
LineStepShape kept old block (Ok More) = Fits kept block
LineStepShape kept old block (Ok (Ended number is_over)) = (block ≡ old) × (is_over ≡ false)
LineStepShape kept old block (Err stop) = LineShape (Err stop)

abbrev pub StepShape : ReaderParts → Block → Block → Result Step Stop → Type 0
StepShape kept old block (Ok More) = Fits kept block
StepShape kept old block (Ok (Ended number is_over)) = block ≡ old
StepShape kept old block (Err stop) = ⊤

-- what one line does to a block, which is `block` then, of the bytes that are left
abbrev pub StepGives : Bool → ReaderParts → Block → Reads Taken → Reading → List ℕ → Result Step Stop → Reading → Option (List ℕ) → Type 0
StepGives ignores kept block read r xs (Ok More) r' left' = TurnGives ignores read r xs (Ok (Goes kept block)) r' left'
StepGives ignores kept block read r xs (Ok (Ended number is_over)) r' left' =
    (turn : Result Turn Stop) → ClosesAt ignores is_over read number turn → TurnGives ignores read r xs turn r' left'
StepGives ignores kept block read r xs (Err stop) r' left' = TurnGives ignores read r xs (Err stop) r' left'

-- lines and totals, whatever is told
abbrev pub StepCounts : Reading → Result Step Stop → Reading → Type 0
StepCounts r (Ok More) r' = (r'.limits ≡ r.limits) × (r'.is_started ≡ true) × (r.total < r'.total) × (r'.total ≤ r.limits.total)
StepCounts r (Ok (Ended number is_over)) r' = (turn : Result Turn Stop) → ShapeAt is_over turn → TurnCounts r turn r'
StepCounts r (Err e) r' = r'.limits ≡ r.limits

-- what reading up to the end of a block comes to
abbrev pub BlockGives : Bool → Reads Taken → Bool → Reading → List ℕ → Result Ending Stop → Reading → Option (List ℕ) → Type 0
BlockGives ignores read over r xs (Ok end) r' left' =
    (h : History) × Stands end.kept h
    × ((ys : List ℕ) × (left' ≡ Some ys) × Steps ignores read over r xs (outcome_of h end.found) end.is_over r' ys)
BlockGives ignores read over r xs (Err (Refused line why)) r' left' =
    after_next ignores read (groups_left over r true xs) ≡ Err (record { line = line; why = why })
BlockGives ignores read over r xs (Err Read) r' left' = Stops ignores read over r xs left'
BlockGives ignores read over r xs (Err NoMemory) r' left' = ⊤

abbrev pub BlockCounts : Reading → Result Ending Stop → Reading → Type 0
BlockCounts r (Ok end) r' = (r'.limits ≡ r.limits) × EndCounts r end r'
BlockCounts r (Err e) r' = r'.limits ≡ r.limits

abbrev pub fault_in_file : ℕ → Stop → Fault
fault_in_file file (Refused line why) = x.Refused file line why
fault_in_file file Read = x.Read file
fault_in_file file NoMemory = x.NoMemory

-- a fault of a block is one in this file
abbrev pub block_fault_in : ℕ → BlockFault → Fault
block_fault_in file (r.Refused line why) = x.Refused file line why
block_fault_in file r.NoMemory = x.NoMemory
