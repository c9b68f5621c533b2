-- What the definitions come to, in the words of the format.
use Rattle.std.specs.Prelude.{◌≡◌, ◌++◌, not, ℕ, All, true, false, List, ◌∷◌, filter, flat_map, map, Ok}
use Rattle.dk_lines.specs.Left.{lined, lines_of}
use Rattle.dk_claims.specs.Claims.{claims_below, claims_of, is_blank_line, is_remark, is_ruler, written_lines}
use Rattle.dk_claims.specs.Counts.{count_of, is_number, without_count}
use Rattle.dk_claims.specs.Reading.{claims_left}
use Rattle.dk_claims.specs.Sections.{section_claims, sections_of}
use Rattle.dk_claims.specs.declared.claims.Claim.{Claim}

-- A last count is taken off, and it alone: of two counts the first stays.
abbrev pub LastCountIsTakenOff : Type 0
LastCountIsTakenOff = (text number : List ℕ) → is_number number ≡ true → without_count (text ++ count_of number) ≡ text

-- a text without a count at its end stays as it is
abbrev pub OtherTextsStay : Type 0
OtherTextsStay =
    (text : List ℕ) → ((front number : List ℕ) → is_number number ≡ true → text ≡ front ++ count_of number → ⊥) → without_count text ≡ text

-- The line behind one of `=`, if it isn't one, is a heading, whatever it says: the claims below it are about the point of its name,
-- whatever stands above, and what stands above claims what it would alone.
abbrev pub HeadingsPart : Type 0
HeadingsPart =
    (above below : List (List ℕ)) (ruler heading : List ℕ) → is_blank_line ruler ≡ false → is_ruler ruler ≡ true
    → is_blank_line heading ≡ false → is_ruler heading ≡ false
    → claims_of (above ++ ruler ∷ heading ∷ below) ≡ claims_of above ++ claims_below false (without_count heading) (written_lines below)

-- Below a heading of this name, up to the next line of `=`, each line that isn't a remark is a claim about the point of that name; none of
-- these lines is blank.
abbrev pub LinesBelowAHeadingClaim : Type 0
LinesBelowAHeadingClaim =
    (name : List ℕ) (lines : List (List ℕ)) → All (λ line. is_ruler line ≡ false) lines
    → claims_below false name lines
    ≡ map (λ line. record { point = name; text = without_count line }) (filter (λ line. not (is_remark line)) lines)

-- an ended file that holds no fault has the claims of its lines
abbrev pub WholeFileHasItsClaims : Type 0
WholeFileHasItsClaims =
    (limit room n : ℕ) (bytes : List ℕ) (claims : List Claim) → claims_left (lined limit room n true bytes) ≡ Ok claims
    → claims ≡ claims_of (lines_of bytes)

-- Lines claim what their sections claim, one after another.
abbrev pub ClaimsAreOfSections : Type 0
ClaimsAreOfSections = (lines : List (List ℕ)) → claims_of lines ≡ flat_map section_claims (sections_of lines)
