-- The assertion file of a run, which is read before all others.
use Rattle.std.specs.Prelude.{List, Result}
use Rattle.dk_base.specs.Reading.{LineFault}
use Rattle.dk_claims.specs.Reading.{claims_left}
use Rattle.dk_claims.specs.declared.claims.Claim.{Claim}
use Rattle.dk_lines.specs.Left.{lined}
use Rattle.dk_driver.specs.Files.{File}
use Rattle.dk_driver.specs.Walks.{line_limit, total_limit}

-- the claims of such a file, or of what was delivered of one; or its fault: a line or a byte that is one too many
abbrev pub claims_in : File → Result (List Claim) LineFault
claims_in file = claims_left (lined line_limit total_limit 0 file.is_ended file.bytes)
