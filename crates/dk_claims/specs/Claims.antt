-- What the lines of an assertion file claim.
use Rattle.std.specs.Prelude.{◌&&◌, ◌||◌, ◌==◌, ◌++◌, not, ℕ, Bool, false, List, [], ◌∷◌, codes, filter, if◌then◌else◌, nat_eq}
use Rattle.std.specs.List.{list_all, starts_with}
use Rattle.dk_base.specs.Pieces.{is_blank}
use Rattle.dk_claims.specs.Counts.{without_count}
use Rattle.dk_claims.specs.declared.claims.Claim.{Claim}

-- blanks and tabs alone, or nothing
abbrev pub is_blank_line : List ℕ → Bool
is_blank_line line = list_all is_blank line

-- of a line that isn't blank: `=` (61) alone
abbrev pub is_ruler : List ℕ → Bool
is_ruler line = list_all (λ b. b == 61) line

-- what a report says beside its sections: behind how many blocks it stands, and sizes
abbrev pub is_remark : List ℕ → Bool
is_remark line = starts_with nat_eq line (codes "--- ") || starts_with nat_eq line (codes "stats ")

-- the line behind one of `=`, unless it is one itself; whatever else it says
abbrev pub is_heading : Bool → List ℕ → Bool
is_heading behind_ruler line = behind_ruler && not (is_ruler line)

-- the name above the next line: that of a heading is the line without a last count
abbrev pub name_below : Bool → List ℕ → List ℕ → List ℕ
name_below behind_ruler name line = if is_heading behind_ruler line then without_count line else name

-- The claim that a line makes about the point of this name, if it makes one: what the line says without a last count.
abbrev pub claim_in : Bool → List ℕ → List ℕ → List Claim
claim_in behind_ruler name line =
    if behind_ruler || is_ruler line || is_remark line then [] else record { point = name; text = without_count line } ∷ []

-- the claims of lines, none of which is blank, below a heading of this name, and behind a line of `=` or not
unfoldable pub claims_below : Bool → List ℕ → List (List ℕ) → List Claim
claims_below behind_ruler name [] = []
claims_below behind_ruler name (line ∷ lines) =
    claim_in behind_ruler name line ++ claims_below (is_ruler line) (name_below behind_ruler name line) lines

-- the lines that aren't blank
abbrev pub written_lines : List (List ℕ) → List (List ℕ)
written_lines lines = filter (λ line. not (is_blank_line line)) lines

-- the claims of all lines of a file; those in front of its first heading are about the point of the empty name
unfoldable pub claims_of : List (List ℕ) → List Claim
claims_of lines = claims_below false [] (written_lines lines)
