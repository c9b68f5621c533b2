-- Small assertion files, line by line, and texts with a number in brackets at their ends.
use Rattle.std.proofs.Common.{◌≡◌, [], ◌∷◌, refl, codes, ℕ, List, Option, Some, None}
use Rattle.dk_base.specs.Numbers.{natural_of}
use Rattle.dk_claims.specs.Claims.{claims_below, claims_of}
use Rattle.dk_claims.specs.Counts.{last_count, without_count}
use Rattle.dk_claims.specs.Sections.{sections_below, sections_of}
use Rattle.dk_claims.specs.declared.claims.Claim.{Claim}
use Rattle.dk_claims.specs.declared.sections.ReportLine.{ReportLine}
use Rattle.dk_claims.specs.declared.sections.Section.{Section}

-- a claim about the point of this name
abbrev of : List ℕ → List ℕ → Claim
of point text = record { point = point; text = text }

-- a line of `=`, a heading with a count, and claims with one and without
section : claims_of (codes "=====" ∷ codes "P  [4]" ∷ codes "x >= 1  [4]" ∷ codes "x <= 7" ∷ codes "y == 1" ∷ [])
    ≡ of (codes "P") (codes "x >= 1") ∷ of (codes "P") (codes "x <= 7") ∷ of (codes "P") (codes "y == 1") ∷ []
unfolding claims_of claims_below without_count
section = refl

-- one `=` is a line of `=`
lone_ruler : claims_of (codes "=" ∷ codes "Q" ∷ codes "n >= 1" ∷ []) ≡ of (codes "Q") (codes "n >= 1") ∷ []
unfolding claims_of claims_below without_count
lone_ruler = refl

-- a line that would be passed over is a heading behind a line of `=`, and blank lines between them are nothing
any_heading : claims_of (codes "==" ∷ codes " " ∷ codes "--- x" ∷ codes "--- y" ∷ codes "stats P" ∷ codes "a" ∷ [])
    ≡ of (codes "--- x") (codes "a") ∷ []
unfolding claims_of claims_below without_count
any_heading = refl

-- several lines of `=` are as one
two_rulers : claims_of (codes "=" ∷ codes "=" ∷ codes "P" ∷ codes "a" ∷ []) ≡ of (codes "P") (codes "a") ∷ []
unfolding claims_of claims_below without_count
two_rulers = refl

-- in front of the first heading the name is empty; blanks at the ends of a line belong to its text
no_heading : claims_of (codes " a " ∷ codes "\t" ∷ codes "b=" ∷ []) ≡ of [] (codes " a ") ∷ of [] (codes "b=") ∷ []
unfolding claims_of claims_below without_count
no_heading = refl

-- of two counts the last alone is taken off
two_counts : without_count (codes "a  [1]  [23]") ≡ codes "a  [1]"
unfolding without_count
two_counts = refl

-- only digits are a number, of which there is one at least, and two blanks stand in front of the bracket
no_counts : (without_count (codes "a  []") ≡ codes "a  []") × (without_count (codes "a [1]") ≡ codes "a [1]")
    × (without_count (codes "a  [-1]") ≡ codes "a  [-1]") × (without_count (codes "a  [1] ") ≡ codes "a  [1] ")
unfolding without_count
no_counts = (refl, refl, refl, refl)

-- a count alone leaves nothing, and a third blank in front of it stays
bare_counts : (without_count (codes "  [1]") ≡ []) × (without_count (codes "   [1]") ≡ codes " ")
unfolding without_count
bare_counts = (refl, refl)

-- a section of this name, number and lines, and a line of this text and number
abbrev below : List ℕ → Option ℕ → List ReportLine → Section
below point samples lines = record { point = point; samples = samples; lines = lines }

abbrev told : List ℕ → Option ℕ → ReportLine
told text samples = record { text = text; samples = samples }

-- headings with a number and without one, the second without lines; no line stands above the first
two_sections : sections_of (codes "=" ∷ codes "P  [4]" ∷ codes "x >= 1  [3]" ∷ codes "y == 1" ∷ codes "=" ∷ codes "Q" ∷ [])
    ≡ below (codes "P") (Some 4) (told (codes "x >= 1") (Some 3) ∷ told (codes "y == 1") None ∷ []) ∷ below (codes "Q") None [] ∷ []
unfolding sections_of sections_below without_count natural_of
two_sections = refl

-- a line above the first heading is of a section of the empty name
front : sections_of (codes "a" ∷ codes "=" ∷ codes "P" ∷ [])
    ≡ below [] None (told (codes "a") None ∷ []) ∷ below (codes "P") None [] ∷ []
unfolding sections_of sections_below without_count natural_of
front = refl

-- 64 bits hold the number, or there is none
numbers : (last_count (codes "a  [18446744073709551615]") ≡ Some 18446744073709551615)
    × (last_count (codes "a  [18446744073709551616]") ≡ None) × (last_count (codes "a [1]") ≡ None)
unfolding without_count natural_of
numbers = (refl, refl, refl)
