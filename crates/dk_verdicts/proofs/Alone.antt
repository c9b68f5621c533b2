-- A claim has at most one verdict.
use Rattle.std.specs.Prelude.{◌≡◌, ℕ, List, [], ◌∷◌, refl}
use Rattle.std.specs.List.{AllZip}
use Rattle.std.proofs.Common.{◌∙◌, ap, subst, sym}
use Rattle.dk_base.specs.declared.kinds.VarInfo.{VarInfo}
use Rattle.dk_claims.specs.declared.claims.Claim.{Claim}
use Rattle.dk_expr.proofs.Unique.{texts_read_back}
use Rattle.dk_expr.specs.Reads.{HasText, IsFirst, IsRead, told_state}
use Rattle.dk_expr.specs.declared.assertions.Assertion.{Assertion}
use Rattle.dk_hierarchy.specs.Samples.{all_vars_of}
use Rattle.dk_points.specs.Table.{Point}
use Rattle.dk_verdicts.proofs.Checked.{some_same}
use Rattle.dk_verdicts.proofs.Fronts.{never_or_first, one_first}
use Rattle.dk_verdicts.specs.Laws.{ReportsAreOne, VerdictsAreOne}
use Rattle.dk_verdicts.specs.Records.{Record}
use Rattle.dk_verdicts.specs.Reports.{verdict_lines}
use Rattle.dk_verdicts.specs.Verdicts.{IsUnknown, IsVerdict, IsVerdictOn, IsVerdictOnRead}
use Rattle.dk_verdicts.specs.declared.verdicts.Verdict.{Verdict}
use Rattle.dk_verdicts.specs.declared.verdicts.Verdict.TheVariants.{Holds, Violated, Unknown}

-- a text is read as one assertion
read_once : (infos : List VarInfo) (text : List ℕ) (a b : Assertion) → IsRead infos text a → IsRead infos text b → a ≡ b
read_once infos text a b x y = back a x ∙ sym (back b y)
  where
    back : (c : Assertion) → IsRead infos text c → c ≡ record { row = a.row; vars = a.vars; state = told_state x.printed }
    back c z =
        texts_read_back infos a.row a.vars x.printed c
        (subst (λ (t : List ℕ). HasText infos t a.row a.vars x.printed) (sym x.has.prints) x.has)
        (subst (λ (t : List ℕ). IsFirst infos t a.row a.vars) (sym x.has.prints) x.first)
        (subst (λ (t : List ℕ). IsRead infos t c) (sym x.has.prints) z)

one_on : (a : Assertion) (q : ℕ) (rs : List Record) (v w : Verdict) → IsVerdictOn a q rs v → IsVerdictOn a q rs w → v ≡ w
one_on a q rs (Holds m) (Holds n) x y = ap (λ (k : ℕ). Holds k) (x.1 ∙ sym y.1)
one_on a q rs (Holds m) (Violated file line) x (r, first, at) = absurd (never_or_first a q rs r x.0 first)
one_on a q rs (Violated file line) (Holds n) (r, first, at) y = absurd (never_or_first a q rs r y.0 first)
one_on a q rs (Violated file line) (Violated other place) (r, first, at) (s, second, there) =
    let same : r ≡ s = one_first a q rs r s first second in
    let files : file ≡ other = sym at.0 ∙ ap (λ (t : Record). t.file) same ∙ there.0 in
    let lines : line ≡ place = sym at.1 ∙ ap (λ (t : Record). t.line) same ∙ there.1 in
    λ i. Violated (files i) (lines i)
one_on a q rs Unknown w x y = absurd x
one_on a q rs (Holds m) Unknown x y = absurd y
one_on a q rs (Violated file line) Unknown x y = absurd y

module _ (ps : List Point) (rs : List Record) (claim : Claim) where
  one_read : (v w : Verdict) → IsVerdictOnRead ps rs claim v → IsVerdictOnRead ps rs claim w → v ≡ w
  one_read v w (q, a, x, on) (p, b, y, too) =
      let places : q ≡ p = some_same q p (sym x.named ∙ y.named) in
      let same : a ≡ b = read_once (all_vars_of ps p) claim.text a b (subst (λ (n : ℕ). IsRead (all_vars_of ps n) claim.text a) places x.is_read) y.is_read in
      one_on b p rs v w (subst (λ (n : ℕ). IsVerdictOn b n rs v) places (subst (λ (c : Assertion). IsVerdictOn c q rs v) same on)) too

  known : (v : Verdict) → IsUnknown ps claim → IsVerdictOnRead ps rs claim v → ⊥
  known v none (q, a, x, on) = none q x.named a.row a.vars x.is_read.printed x.is_read.has

pub verdicts_are_one : VerdictsAreOne
verdicts_are_one ps rs claim Unknown Unknown x y = refl
verdicts_are_one ps rs claim Unknown (Holds n) x y = absurd (known ps rs claim (Holds n) x y)
verdicts_are_one ps rs claim Unknown (Violated file line) x y = absurd (known ps rs claim (Violated file line) x y)
verdicts_are_one ps rs claim (Holds m) Unknown x y = absurd (known ps rs claim (Holds m) y x)
verdicts_are_one ps rs claim (Violated file line) Unknown x y = absurd (known ps rs claim (Violated file line) y x)
verdicts_are_one ps rs claim (Holds m) (Holds n) x y = one_read ps rs claim (Holds m) (Holds n) x y
verdicts_are_one ps rs claim (Holds m) (Violated file line) x y = one_read ps rs claim (Holds m) (Violated file line) x y
verdicts_are_one ps rs claim (Violated file line) (Holds n) x y = one_read ps rs claim (Violated file line) (Holds n) x y
verdicts_are_one ps rs claim (Violated file line) (Violated other place) x y = one_read ps rs claim (Violated file line) (Violated other place) x y

all_one : (ps : List Point) (rs : List Record) (claims : List Claim) (vs ws : List Verdict) → AllZip (IsVerdict ps rs) claims vs → AllZip (IsVerdict ps rs) claims ws → vs ≡ ws
all_one ps rs [] [] [] x y = refl
all_one ps rs [] (v ∷ vs) ws x y = absurd x
all_one ps rs [] [] (w ∷ ws) x y = absurd y
all_one ps rs (c ∷ claims) [] ws x y = absurd x
all_one ps rs (c ∷ claims) (v ∷ vs) [] x y = absurd y
all_one ps rs (c ∷ claims) (v ∷ vs) (w ∷ ws) x y =
    let first : v ≡ w = verdicts_are_one ps rs c v w x.0 y.0 in
    let rest : vs ≡ ws = all_one ps rs claims vs ws x.1 y.1 in
    λ i. first i ∷ rest i

pub reports_are_one : ReportsAreOne
reports_are_one name claims ps rs text other x y =
    x.is_text ∙ ap (verdict_lines name claims) (all_one ps rs claims x.verdicts y.verdicts x.judged y.judged) ∙ sym y.is_text
