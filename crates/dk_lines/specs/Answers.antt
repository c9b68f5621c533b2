-- What one call of `next` answers.
use Rattle.std.specs.Prelude.{◌≡◌, ◌≤◌, ◌<◌, ◌+◌, ℕ, Bool, true, false, List, [], ◌++◌, length, min, ⊤, IfSome, Option, Some, None, Result, Ok, Err}
use Rattle.dk_base.specs.Reading.{Line}
use Rattle.dk_lines.specs.declared.lines.Line.{Line as LentLine}
use Rattle.dk_lines.specs.declared.lines.LineFault.{LineFault}
use Rattle.dk_lines.specs.declared.lines.LineFault.TheVariants as fault
use Rattle.dk_lines.specs.Reading.{Reading}
use Rattle.dk_lines.specs.Left.{Ends, Broken, LongLine, TooLong, lines_left, OneLine}

-- an answer with its line as a value
abbrev pub heard : Result (Option LentLine) LineFault → Result (Option Line) LineFault
heard (Ok (Some line)) = Ok (Some (record { number = line.number; bytes = line.bytes.now }))
heard (Ok None) = Ok None
heard (Err e) = Err e

-- Number and total after an answer, and whether a file is started: what holds whatever is told of the file.
abbrev pub NextCounts : Reading → Result (Option Line) LineFault → Reading → Type 0
NextCounts old (Ok (Some line)) new = (line.number ≡ old.number + 1) × (new.number ≡ old.number + 1) × (new.is_started ≡ true)
    × (length line.bytes ≤ old.limits.line) × (old.total < new.total) × (new.total ≤ old.limits.total)
NextCounts old (Ok None) new = (new.is_started ≡ false) × (new.total ≡ old.total) × (new.number ≡ old.number)
NextCounts old (Err fault.Read) new = (new.is_started ≡ false) × (new.ahead ≡ []) × (old.total ≤ new.total)
NextCounts old (Err (fault.LongLine n)) new =
    (n ≡ old.number + 1) × (new.is_started ≡ false) × (new.total ≡ min (old.total + old.limits.line + 1) (old.limits.total + 1))
NextCounts old (Err (fault.TooLong n)) new = (n ≡ old.number + 1) × (new.is_started ≡ false) × (new.total ≡ old.limits.total + 1)
NextCounts old (Err fault.NoMemory) new = (new.is_started ≡ false) × (old.total ≤ new.total)

-- What an answer says where the bytes xs were left, and what is left now: the next line; that nothing was left; that reading failed,
-- and the bytes that were delivered hold no whole line and no byte too many; or that a byte is too many, however the file ends.
abbrev pub NextGives : Reading → List ℕ → Result (Option Line) LineFault → Reading → Option (List ℕ) → Type 0
NextGives old xs (Ok (Some line)) new left = (ys : List ℕ) × (left ≡ Some ys) × OneLine old xs line new ys
NextGives old xs (Ok None) new left = (xs ≡ []) × (left ≡ Some [])
NextGives old xs (Err fault.Read) new left = (front : List ℕ) × ((rest : List ℕ) × (xs ≡ front ++ rest) × (left ≡ Some rest)
    × (lines_left old false front ≡ Ends Broken) × (new.total ≡ old.total + length front))
NextGives old xs (Err (fault.LongLine n)) new left = (is_ended : Bool) → lines_left old is_ended xs ≡ Ends (LongLine n)
NextGives old xs (Err (fault.TooLong n)) new left = (is_ended : Bool) → lines_left old is_ended xs ≡ Ends (TooLong n)
NextGives old xs (Err fault.NoMemory) new left = ⊤

-- the answer of `next`, with what was left of the file before it and what is left now
pub record IsNextLine (old : Reading) (before : Option (List ℕ))
    (answer : Result (Option Line) LineFault) (new : Reading) (after : Option (List ℕ)) : Type 0 where
  pub limits_stay : new.limits ≡ old.limits
  pub counts : NextCounts old answer new
  pub gives : IfSome before (λ xs. NextGives old xs answer new after)
