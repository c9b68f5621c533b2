-- Reading the assertion file.
use Rattle.std.proofs.Common.{◌≡◌, ◌∙◌, ℕ, List, false, Option, Some, None, IfSome, Err, sym}
use Rattle.dk_claims.specs.Reading.{ClaimsGive, claims_left}
use Rattle.dk_driver.specs.Walks.{standard_limits, total_limit}
use Rattle.dk_driver.specs.WholeFile.{fresh_reading}
use Rattle.dk_lines.specs.Reading.{Reading, room_of}
use Rattle.dk_lines.specs.declared.lines.LineFault.{LineFault}
use Rattle.dk_lines.specs.declared.lines.LineFault.TheVariants as fault
use Rattle.dk_program.proofs.Opening.{started_lines}
use Rattle.dk_program.specs.Openings.{OpeningGives, fault_of_lines}
use Rattle.dk_check.specs.Assertions.{claims_in}
use Rattle.dk_check.specs.Standing.{claims_of}
use Rattle.dk_check.specs.declared.checking.Checking.{Checking}

-- what reading it says, whatever its bytes are
module _ (r last : Reading) (left : Option (List ℕ)) (fresh : r ≡ fresh_reading r) (limits : r.limits ≡ standard_limits) (room : room_of r ≡ total_limit) where
  -- why its claims are not read
  pub fault_told : (o : Option (List ℕ)) (x : LineFault) → IfSome o (λ xs. ClaimsGive r xs (Err x) last left)
      → IfSome o (λ xs. OpeningGives {K = Checking} claims_in claims_of xs (Err (fault_of_lines x)) last left)
  fault_told None x gives = tt
  fault_told (Some xs) (fault.LongLine n) e = sym (started_lines claims_left r _ xs fresh limits room) ∙ e
  fault_told (Some xs) (fault.TooLong n) e = sym (started_lines claims_left r _ xs fresh limits room) ∙ e
  fault_told (Some xs) fault.Read e = record {
    delivered = record { bytes = e.front; is_ended = false };
    is_delivered = (e.rest, e.left_is, e.split, λ ended. absurd (cc ended));
    given = e.made;
    fine = sym (started_lines claims_left r false e.front fresh limits room) ∙ e.all;
  }
  fault_told (Some xs) fault.NoMemory e = tt
