-- Claims of lines, one after another.
use Rattle.std.proofs.Common.{◌≡◌, ◌∙◌, ◌||◌, ◌++◌, not, sym, ap, refl, ℕ, Bool, true, false, cond, List, [], ◌∷◌, filter, map, append_assoc}
use Rattle.std.proofs.lemmas.List.Elements.{All-head, All-tail, filter-append}
use Rattle.dk_claims.specs.Claims.{claim_in, claims_below, claims_of, is_blank_line, is_remark, is_ruler, name_below, written_lines}
use Rattle.dk_claims.specs.Counts.{without_count}
use Rattle.dk_claims.specs.Laws.{HeadingsPart, LinesBelowAHeadingClaim}
use Rattle.dk_claims.specs.declared.claims.Claim.{Claim}

-- ---- blank lines
pub blank_left_out : (line : List ℕ) (rest : List (List ℕ)) → is_blank_line line ≡ true → written_lines (line ∷ rest) ≡ written_lines rest
blank_left_out line rest h = ap (λ (b : Bool). cond (not b) (line ∷ written_lines rest) (written_lines rest)) h

pub written_kept : (line : List ℕ) (rest : List (List ℕ)) → is_blank_line line ≡ false → written_lines (line ∷ rest) ≡ line ∷ written_lines rest
written_kept line rest h = ap (λ (b : Bool). cond (not b) (line ∷ written_lines rest) (written_lines rest)) h

-- ---- what single lines do
no_claim_at_ruler : (behind : Bool) (name line : List ℕ) → is_ruler line ≡ true → claim_in behind name line ≡ []
no_claim_at_ruler behind name line h = ap (λ (b : Bool). cond (behind || b || is_remark line) [] (own ∷ [])) h ∙ none behind where
  own : Claim
  own = record { point = name; text = without_count line }

  none : (b : Bool) → cond (b || true || is_remark line) [] (own ∷ []) ≡ []
  none true = refl
  none false = refl

-- ---- headings
-- a heading behind a line of `=`
at_heading : (behind : Bool) (name ruler heading : List ℕ) (below : List (List ℕ)) → is_ruler ruler ≡ true → is_ruler heading ≡ false
    → claims_below behind name (ruler ∷ heading ∷ below) ≡ claims_below false (without_count heading) below
unfolding claims_below
at_heading behind name ruler heading below is_one is_none =
    ap (λ (l : List Claim). l ++ claims_below (is_ruler ruler) (name_below behind name ruler) (heading ∷ below)) (no_claim_at_ruler behind name ruler is_one)
    ∙ ap (λ (b : Bool). claims_below b (name_below behind name ruler) (heading ∷ below)) is_one
    ∙ ap (λ (b : Bool). claims_below b (cond (not b) (without_count heading) (name_below behind name ruler)) below) is_none

headings_part_below : (behind : Bool) (name ruler heading : List ℕ) (above below : List (List ℕ)) → is_ruler ruler ≡ true → is_ruler heading ≡ false
    → claims_below behind name (above ++ ruler ∷ heading ∷ below) ≡ claims_below behind name above ++ claims_below false (without_count heading) below
unfolding claims_below
headings_part_below behind name ruler heading [] below is_one is_none = at_heading behind name ruler heading below is_one is_none
headings_part_below behind name ruler heading (line ∷ above) below is_one is_none =
    ap (λ (l : List Claim). claim_in behind name line ++ l) (headings_part_below (is_ruler line) (name_below behind name line) ruler heading above below is_one is_none)
    ∙ sym (append_assoc (claim_in behind name line) (claims_below (is_ruler line) (name_below behind name line) above) (claims_below false (without_count heading) below))

pub lines_below_a_heading_claim : LinesBelowAHeadingClaim
unfolding claims_below
lines_below_a_heading_claim name [] none = refl
lines_below_a_heading_claim name (line ∷ lines) are =
    ap (λ (b : Bool). cond (b || is_remark line) [] (own ∷ []) ++ claims_below b name lines) (All-head none line lines are)
    ∙ ap (λ (l : List Claim). cond (is_remark line) [] (own ∷ []) ++ l) (lines_below_a_heading_claim name lines (All-tail none line lines are))
    ∙ one (is_remark line) where
      none : List ℕ → Type 0
      none l = is_ruler l ≡ false

      own : Claim
      own = record { point = name; text = without_count line }

      others : List (List ℕ)
      others = filter (λ (l : List ℕ). not (is_remark l)) lines

      claim : List ℕ → Claim
      claim l = record { point = name; text = without_count l }

      one : (b : Bool) → cond b [] (own ∷ []) ++ map claim others ≡ map claim (cond (not b) (line ∷ others) others)
      one true = refl
      one false = refl

pub headings_part : HeadingsPart
unfolding claims_of
headings_part above below ruler heading ruler_written is_one heading_written is_none =
    let written : written_lines (above ++ ruler ∷ heading ∷ below) ≡ written_lines above ++ ruler ∷ heading ∷ written_lines below =
    filter-append (λ (line : List ℕ). not (is_blank_line line)) above (ruler ∷ heading ∷ below)
    ∙ ap (λ (l : List (List ℕ)). written_lines above ++ l)
    (written_kept ruler (heading ∷ below) ruler_written ∙ ap (λ (l : List (List ℕ)). ruler ∷ l) (written_kept heading below heading_written)) in
    ap (claims_below false []) written ∙ headings_part_below false [] ruler heading (written_lines above) (written_lines below) is_one is_none
