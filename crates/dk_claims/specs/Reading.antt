-- What reading an assertion file to its end comes to.
use Rattle.std.specs.Prelude.{◌≡◌, ◌++◌, ◌-◌, ⊤, ℕ, true, false, List, [], ◌∷◌, length, Option, Some, Result, Ok, Err}
use Rattle.dk_base.specs.Reading.{LineFault as Fault, ◌>>=◌}
use Rattle.dk_base.specs.declared.why.Why.TheVariants as why
use Rattle.dk_lines.specs.Left.{End, Over, Broken, LongLine, TooLong, Left, Ends, Next, lines_left}
use Rattle.dk_lines.specs.Reading.{Reading, room_of}
use Rattle.dk_lines.specs.declared.lines.LineFault.{LineFault}
use Rattle.dk_lines.specs.declared.lines.LineFault.TheVariants as fault
use Rattle.dk_claims.specs.Claims.{claims_of}
use Rattle.dk_claims.specs.Sections.{sections_of}
use Rattle.dk_claims.specs.declared.claims.Claim.{Claim}
use Rattle.dk_claims.specs.declared.sections.Section.{Section}

-- no more lines, or the fault at which they end; a file that is cut off holds none there
abbrev pub lines_at : End → Result (List (List ℕ)) Fault
lines_at (Over line) = Ok []
lines_at Broken = Ok []
lines_at (LongLine line) = Err (record { line = line; why = why.LongLine })
lines_at (TooLong line) = Err (record { line = line; why = why.TooLong })

-- the lines, or the fault behind them
abbrev pub lines_in : Left → Result (List (List ℕ)) Fault
lines_in (Ends end) = lines_at end
lines_in (Next line rest) = lines_in rest >>= λ lines. Ok (line.bytes ∷ lines)

-- What is made of lines, or the fault behind them: an assertion file has no others.
abbrev pub made_of : {A : Type 0} → (List (List ℕ) → A) → Left → Result A Fault
made_of make left = lines_in left >>= λ lines. Ok (make lines)

-- the claims of lines, and the sections
abbrev pub claims_left : Left → Result (List Claim) Fault
claims_left left = made_of claims_of left

abbrev pub sections_left : Left → Result (List Section) Fault
sections_left left = made_of sections_of left

-- this is made of the file's bytes xs, which hold no fault
pub record IsMade {A : Type 0} (make : List (List ℕ) → A) (old : Reading) (xs : List ℕ) (made : A) (new : Reading)
    (left : Option (List ℕ)) : Type 0 where
  pub all : made_of make (lines_left old true xs) ≡ Ok made
  pub nothing_left : left ≡ Some []
  pub room : room_of new ≡ room_of old - length xs

-- of the file's bytes xs a front without a fault was delivered
pub record IsBroken {A : Type 0} (make : List (List ℕ) → A) (old : Reading) (xs : List ℕ) (left : Option (List ℕ)) : Type 0 where
  pub front : List ℕ
  pub rest : List ℕ
  pub left_is : left ≡ Some rest
  pub split : xs ≡ front ++ rest
  pub made : A
  pub all : made_of make (lines_left old false front) ≡ Ok made

-- what reading to the end comes to, where the bytes xs are left of the started file
abbrev pub LinesGive : {A : Type 0} → (List (List ℕ) → A) → Reading → List ℕ → Result A LineFault → Reading → Option (List ℕ) → Type 0
LinesGive make old xs (Ok made) new left = IsMade make old xs made new left
LinesGive make old xs (Err fault.Read) new left = IsBroken make old xs left
LinesGive make old xs (Err (fault.LongLine n)) new left =
    made_of make (lines_left old true xs) ≡ Err (record { line = n; why = why.LongLine })
LinesGive make old xs (Err (fault.TooLong n)) new left =
    made_of make (lines_left old true xs) ≡ Err (record { line = n; why = why.TooLong })
LinesGive make old xs (Err fault.NoMemory) new left = ⊤

abbrev pub ClaimsGive : Reading → List ℕ → Result (List Claim) LineFault → Reading → Option (List ℕ) → Type 0
ClaimsGive old xs result new left = LinesGive claims_of old xs result new left

abbrev pub SectionsGive : Reading → List ℕ → Result (List Section) LineFault → Reading → Option (List ℕ) → Type 0
SectionsGive old xs result new left = LinesGive sections_of old xs result new left
