-- The lines of the verdicts, one behind another.
use Rattle.std.proofs.Common.{◌≡◌, ◌∙◌, ◌<◌, ◌+◌, ℕ, zero, suc, min, List, [], ◌∷◌, ◌++◌, drop, length, get_or, refl, sym, ap, arith}
use Rattle.dk_claims.specs.declared.claims.Claim.{Claim}
use Rattle.dk_verdicts.specs.Reports.{verdict_line, verdict_lines}
use Rattle.dk_verdicts.specs.declared.verdicts.Verdict.{Verdict}

-- the line of the next pair, and then those of the others
pub lines_more : (name : ℕ → List ℕ) (claims : List Claim) (verdicts : List Verdict) (n : ℕ) (claim : Claim) (verdict : Verdict) → n < length claims → n < length verdicts
    → claim ≡ get_or claims n claim → verdict ≡ get_or verdicts n verdict
    → verdict_lines name (drop n claims) (drop n verdicts) ≡ verdict_line name claim verdict ++ verdict_lines name (drop (n + 1) claims) (drop (n + 1) verdicts)
lines_more name [] verdicts n claim verdict below within first second = absurd (omega arith)
lines_more name (c ∷ cs) [] n claim verdict below within first second = absurd (omega arith)
lines_more name (c ∷ cs) (v ∷ vs) zero claim verdict below within first second =
    ap (λ (x : Claim). verdict_line name x v ++ verdict_lines name cs vs) (sym first) ∙ ap (λ (x : Verdict). verdict_line name claim x ++ verdict_lines name cs vs) (sym second)
lines_more name (c ∷ cs) (v ∷ vs) (suc n) claim verdict below within first second =
    let next : suc (n + 1) ≡ suc n + 1 = omega arith in
    lines_more name cs vs n claim verdict (omega arith) (omega arith) first second
    ∙ ap (λ (k : ℕ). verdict_line name claim verdict ++ verdict_lines name (drop k (c ∷ cs)) (drop k (v ∷ vs))) next

-- behind the last pair there are none
pub lines_over : (name : ℕ → List ℕ) (claims : List Claim) (verdicts : List Verdict) (n : ℕ) → n ≡ min (length claims) (length verdicts) → verdict_lines name (drop n claims) (drop n verdicts) ≡ []
lines_over name [] verdicts zero all = refl
lines_over name [] verdicts (suc n) all = absurd (omega (arith, all))
lines_over name (c ∷ cs) [] zero all = refl
lines_over name (c ∷ cs) [] (suc n) all = absurd (omega (arith, all))
lines_over name (c ∷ cs) (v ∷ vs) zero all = absurd (omega (arith, all))
lines_over name (c ∷ cs) (v ∷ vs) (suc n) all = lines_over name cs vs n (omega (arith, all))
