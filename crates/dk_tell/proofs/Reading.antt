-- Reading the report.
use Rattle.std.proofs.Common.{◌≡◌, ◌-◌, ◌∙◌, ℕ, List, length, Bool, false, Option, Some, None, IfSome, Ok, Err, sym, ap}
use Rattle.dk_claims.specs.Reading.{SectionsGive, sections_left}
use Rattle.dk_claims.specs.declared.sections.Section.{Section}
use Rattle.dk_driver.specs.Walks.{line_limit, standard_limits, total_limit}
use Rattle.dk_driver.specs.WholeFile.{fresh_reading}
use Rattle.dk_lines.specs.Left.{lined, lines_left}
use Rattle.dk_lines.specs.Reading.{Reading, room_of}
use Rattle.dk_lines.specs.declared.lines.Limits.{Limits}
use Rattle.dk_lines.specs.declared.lines.LineFault.{LineFault}
use Rattle.dk_lines.specs.declared.lines.LineFault.TheVariants as fault
use Rattle.dk_program.specs.Openings.{OpeningGives, fault_of_lines}
use Rattle.dk_tell.specs.Reports.{sections_in}
use Rattle.dk_tell.specs.Standing.{sections_of}
use Rattle.dk_tell.specs.declared.reported.Reported.{Reported}

-- the sections of the lines of a started file are those of its bytes
started_sections : (r : Reading) (is_ended : Bool) (xs : List ℕ) → r ≡ fresh_reading r → r.limits ≡ standard_limits → room_of r ≡ total_limit
    → sections_left (lines_left r is_ended xs) ≡ sections_in (record { bytes = xs; is_ended = is_ended })
started_sections r is_ended xs fresh limits room =
    ap (λ (m : Reading). sections_left (lines_left m is_ended xs)) fresh
    ∙ ap (λ (l : Limits). sections_left (lined l.line (room_of r) 0 is_ended xs)) limits
    ∙ ap (λ (n : ℕ). sections_left (lined line_limit n 0 is_ended xs)) room

-- what reading it says, whatever its bytes are
module _ (r last : Reading) (left : Option (List ℕ)) (fresh : r ≡ fresh_reading r) (limits : r.limits ≡ standard_limits) (room : room_of r ≡ total_limit) where
  -- its sections
  pub sections_told : (o : Option (List ℕ)) (sections : List Section) → IfSome o (λ xs. SectionsGive r xs (Ok sections) last left)
      → IfSome o (λ xs. OpeningGives {K = Reported} sections_in sections_of xs (Ok (record { sections = sections })) last left)
  sections_told None sections gives = tt
  sections_told (Some xs) sections e = (
    sym (started_sections r _ xs fresh limits room) ∙ e.all,
    e.room ∙ ap (λ (n : ℕ). n - length xs) room,
    e.nothing_left,
  )

  -- or why they are not read
  pub fault_told : (o : Option (List ℕ)) (x : LineFault) → IfSome o (λ xs. SectionsGive r xs (Err x) last left)
      → IfSome o (λ xs. OpeningGives {K = Reported} sections_in sections_of xs (Err (fault_of_lines x)) last left)
  fault_told None x gives = tt
  fault_told (Some xs) (fault.LongLine n) e = sym (started_sections r _ xs fresh limits room) ∙ e
  fault_told (Some xs) (fault.TooLong n) e = sym (started_sections r _ xs fresh limits room) ∙ e
  fault_told (Some xs) fault.Read e = record {
    delivered = record { bytes = e.front; is_ended = false };
    is_delivered = (e.rest, e.left_is, e.split, λ ended. absurd (cc ended));
    given = e.made;
    fine = sym (started_sections r false e.front fresh limits room) ∙ e.all;
  }
  fault_told (Some xs) fault.NoMemory e = tt
