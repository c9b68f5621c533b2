-- What is kept, where points are added or a record is taken.
use Rattle.std.specs.Prelude.{◌≡◌, ◌⊎◌, ◌≤◌, ◌++◌, ◌∷◌, ℕ, zero, suc, All, IsTrue, List, [], length, take, refl}
use Rattle.std.specs.List.{AllZip}
use Rattle.std.proofs.Common.{◌∙◌, ap, append_assoc, arith, inl, length-append, subst, sym}
use Rattle.std.proofs.lemmas.List.{take-append-le}
use Rattle.dk_base.specs.declared.kinds.VarInfo.{VarInfo}
use Rattle.dk_blocks.proofs.Growing.{same_all_vars}
use Rattle.dk_blocks.specs.Fitting.{Extends}
use Rattle.dk_points.specs.Table.{Point}
use Rattle.dk_template.specs.Admitted.{admits}
use Rattle.dk_verdicts.proofs.Found.{all_found, found_reread}
use Rattle.dk_verdicts.specs.Checks.{AreChecksOf}
use Rattle.dk_verdicts.specs.Reading.{AreReread, IsReread}
use Rattle.dk_verdicts.specs.Records.{Record}
use Rattle.dk_verdicts.specs.Standing.{AreFindingsOf, AreUnfed, IsFindingOf, IsFound, IsKeptUp, IsOf, StandsFor, claims_of, known_of}
use Rattle.dk_verdicts.specs.declared.checker.Checker.{Checker}
use Rattle.dk_verdicts.specs.declared.findings.Finding.{Finding}
use Rattle.dk_verdicts.specs.declared.findings.Finding.TheVariants.{Holds, Violated, Unknown}

-- ---- the points that are known
still_known : (ps ps' : List Point) (c : Checker) → Extends ps ps' → length c.engines.items ≤ length ps → known_of ps' c ≡ known_of ps c
still_known ps ps' c (more, is) front = ap (take (length c.engines.items)) is ∙ take-append-le (length c.engines.items) ps more front

pub kept_up_on : (ps ps' : List Point) (c : Checker) → Extends ps ps' → IsKeptUp ps c → IsKeptUp ps' c
kept_up_on ps ps' c extends k =
    let same = sym (still_known ps ps' c extends k.front) in
    record {
      front = let long = ap length extends.1 in let more = length-append ps extends.0 in omega (arith, long, more, k.front);
      engines = subst (λ known. AreUnfed known c.engines.items) same k.engines;
      long = k.long;
      findings = subst (λ known. AreFindingsOf known c.findings.items) same k.findings;
      checks = subst (λ known. (c.checks.items ≡ []) ⊎ AreChecksOf known c.findings.items c.checks.items) same k.checks;
    }

pub stands_on : (ps ps' : List Point) (c : Checker) (rs : List Record) → Extends ps ps' → IsKeptUp ps c → StandsFor c ps rs → StandsFor c ps' rs
stands_on ps ps' c rs extends k stands =
    let same = sym (still_known ps ps' c extends k.front) in
    record {
      records = subst (λ known. All (IsOf known) rs) same stands.records;
      found = subst (λ known. AllZip (IsFound known rs) (claims_of c) c.findings.items) same stands.found;
    }

-- ---- all points are known
take_all : {X : Type 0} (xs : List X) → take (length xs) xs ≡ xs
take_all [] = refl
take_all (x ∷ xs) = ap (λ l. x ∷ l) (take_all xs)

pub take_front : {X : Type 0} (n : ℕ) (xs : List X) → (more : List X) × (xs ≡ take n xs ++ more)
take_front zero xs = (xs, refl)
take_front (suc n) [] = ([], refl)
take_front (suc n) (x ∷ xs) = let rest = take_front n xs in (rest.0, ap (λ l. x ∷ l) rest.1)

pub length_take : {X : Type 0} (n : ℕ) (xs : List X) → n ≤ length xs → length (take n xs) ≡ n
length_take zero xs within = refl
length_take (suc n) [] within = absurd (omega (arith, within))
length_take (suc n) (x ∷ xs) within = let rest = length_take n xs (omega (arith, within)) in omega (arith, rest)

pub all_known : (ps : List Point) (c : Checker) → length c.engines.items ≡ length ps → known_of ps c ≡ ps
all_known ps c long = ap (λ n. take n ps) long ∙ take_all ps

module _ (known ps : List Point) (extends : Extends known ps) where
  finding_on : (f : Finding) → IsFindingOf known f → IsFindingOf ps f
  finding_on Unknown is = tt
  finding_on (Violated x y) is = tt
  finding_on (Holds point a n) is = (
    record {
      within = let long = ap length extends.1 in let more = length-append known extends.0 in omega (arith, long, more, is.0.within);
      vars = subst (λ (infos : List VarInfo). IsTrue (admits a.row infos a.vars)) (sym (same_all_vars known ps point.0 extends is.0.within)) is.0.vars;
      testable = is.0.testable;
    },
    is.1,
  )

  record_on : (r : Record) → IsOf known r → IsOf ps r
  record_on r is = record {
    front = (is.front.0 ++ extends.0, extends.1 ∙ ap (λ (l : List Point). l ++ extends.0) is.front.1 ∙ append_assoc r.table is.front.0 extends.0);
    within = is.within;
  }

-- the known points are a front of the table
module _ (ps : List Point) (c : Checker) (k : IsKeptUp ps c) where
  known_front : Extends (known_of ps c) ps
  known_front = take_front (length c.engines.items) ps

  known_long : length (known_of ps c) ≡ length c.engines.items
  known_long = length_take (length c.engines.items) ps k.front

  pub findings_on : AreFindingsOf ps c.findings.items
  findings_on i f at = finding_on (known_of ps c) ps known_front f (k.findings i f at)

  -- the claims of the others are read
  module _ (next : Checker) (same : claims_of next ≡ claims_of c) (long : length next.engines.items ≡ length ps) (reread : AreReread (length c.engines.items) ps (claims_of c) c.findings.items next.findings.items) where
    known_now : known_of ps next ≡ ps
    known_now = all_known ps next long

    pub kept_up_now : AreUnfed ps next.engines.items → AreFindingsOf ps next.findings.items → next.checks.items ≡ [] → IsKeptUp ps next
    kept_up_now engines findings none = record {
      front = omega (arith, long);
      engines = subst (λ known. AreUnfed known next.engines.items) (sym known_now) engines;
      long = reread.long ∙ k.long ∙ sym (ap length same);
      findings = subst (λ known. AreFindingsOf known next.findings.items) (sym known_now) findings;
      checks = inl none;
    }

    pub stands_now : (rs : List Record) → StandsFor c ps rs → StandsFor next ps rs
    stands_now rs stands = record {
      records = subst (λ known. All (IsOf known) rs) (sym known_now) (λ i d l. record_on (known_of ps c) ps known_front _ (stands.records i d l));
      found =
          subst (λ known. AllZip (IsFound known rs) (claims_of next) next.findings.items) (sym known_now)
          (subst (λ claims. AllZip (IsFound ps rs) claims next.findings.items) (sym same)
          (all_found (IsFound (known_of ps c) rs) (IsFound ps rs) (claims_of c) c.findings.items next.findings.items reread.long
          (λ i claim f g at was now. found_reread (known_of ps c) ps known_front rs stands.records claim f g
          (subst (λ n. IsReread n ps claim f g) (sym known_long) (reread.each i claim f g at was now)))
          stands.found));
    }
