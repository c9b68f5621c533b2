-- The checks of points.
use Rattle.std.specs.Prelude.{◌≡◌, ◌≢◌, ◌⊎◌, ◌+◌, ◌<◌, ◌==◌, ℕ, zero, suc, Bool, true, false, cond, All, List, [], ◌∷◌, ◌++◌, length, replicate, slice_get, slice_set, option_map, if◌then◌else◌, Option, Some, None, refl}
use Rattle.std.specs.List.{AllZip, cons_option}
use Rattle.std.proofs.Common.{◌∙◌, ⊎_elim, ap, arith, get_or, inl, inr, subst, sym}
use Rattle.std.proofs.lemmas.Bool.{eqb-false, eqb-true, eq-eqb, false≢true, ne_eqb}
use Rattle.std.proofs.lemmas.List.{append-nil, length-replicate}
use Rattle.std.proofs.lemmas.List.Elements.{All-append, All-cons, All-head, All-nil, All-tail, filter-append}
use Rattle.dk_base.specs.Values.{IsOfKind}
use Rattle.dk_base.specs.declared.kinds.PointId.{PointId}
use Rattle.dk_base.specs.declared.kinds.VarId.{VarId}
use Rattle.dk_base.specs.declared.kinds.VarInfo.{VarInfo}
use Rattle.dk_base.specs.declared.values.Value.{Value}
use Rattle.dk_expr.specs.declared.assertions.Assertion.{Assertion}
use Rattle.dk_hierarchy.proofs.Partners.{partners_admitted, partners_there}
use Rattle.dk_hierarchy.specs.Descent.{IsDescent, IsWayDown}
use Rattle.dk_hierarchy.specs.Edges.{partners_at}
use Rattle.dk_hierarchy.specs.Samples.{all_vars_of}
use Rattle.dk_hierarchy.specs.declared.way.Way.{Way}
use Rattle.dk_instances.proofs.Whole.{is_tuple}
use Rattle.dk_instances.specs.Laws.{IsSample}
use Rattle.dk_points.specs.Table.{Point}
use Rattle.dk_template.proofs.WrittenTuples.{admitted_arity, admitted_few}
use Rattle.dk_template.specs.Admitted.{admits}
use Rattle.dk_template.specs.Premises.{AreThere}
use Rattle.dk_template.specs.Templates.{arity_of, roles_of, template_of}
use Rattle.dk_template.specs.declared.grammar.RowId.{RowId}
use Rattle.dk_template.specs.declared.templates.Takes.{Takes}
use Rattle.dk_template.specs.declared.templates.Takes.TheVariants.{One, Two, Three}
use Rattle.dk_verdicts.specs.Checks.{AreByWays, AreByWaysIf, AreChecksOf, AreChecksOfFirst, AreWithChecks, check_by, checks_by, checks_on}
use Rattle.dk_verdicts.specs.Standing.{AreFindingsOf, IsAssertionOf, IsFindingOf}
use Rattle.dk_verdicts.specs.Tests.{CanAllGoOn, CanGoOn, CanTest, FitAll, Fits}
use Rattle.dk_verdicts.specs.declared.checks.Check.{Check}
use Rattle.dk_verdicts.specs.declared.findings.Finding.{Finding}
use Rattle.dk_verdicts.specs.declared.findings.Finding.TheVariants.{Holds, Violated, Unknown}

-- ---- lists by their places
pub got : {X : Type 0} (xs : List X) (i : ℕ) (d : X) → i < length xs → slice_get xs i ≡ Some (get_or xs i d)
got [] i d there = absurd (omega (arith, there))
got (x ∷ xs) zero d there = refl
got (x ∷ xs) (suc i) d there = got xs i d (omega (arith, there))

pub some_same : {X : Type 0} (x y : X) → Some x ≡ Some y → x ≡ y
some_same x y e = cc

pub get_within : {X : Type 0} (xs : List X) (i : ℕ) (x : X) → slice_get xs i ≡ Some x → i < length xs
get_within [] i x at = absurd (cc at)
get_within (y ∷ xs) zero x at = omega arith
get_within (y ∷ xs) (suc i) x at = let more = get_within xs i x at in omega (arith, more)

pub get_set : {X : Type 0} (xs : List X) (p i : ℕ) (new x : X) → slice_get (slice_set xs p new) i ≡ Some x → ((i ≡ p) × (new ≡ x)) ⊎ ((i ≢ p) × (slice_get xs i ≡ Some x))
get_set [] p i new x at = absurd (cc at)
get_set (y ∷ xs) zero zero new x at = inl (refl, cc at)
get_set (y ∷ xs) zero (suc i) new x at = inr (omega arith, at)
get_set (y ∷ xs) (suc p) zero new x at = inr (omega arith, at)
get_set (y ∷ xs) (suc p) (suc i) new x at = ⊎_elim (λ h. inl (ap suc h.0, h.1)) (λ h. inr (λ e. h.0 (omega (arith, e)), h.1)) (get_set xs p i new x at)

-- a place of a list that is as long
pub there_too : {X Y : Type 0} (xs : List X) (ys : List Y) (i : ℕ) (y : Y) → length ys ≡ length xs → slice_get ys i ≡ Some y → (x : X) × (slice_get xs i ≡ Some x)
there_too [] [] i y long at = absurd (cc at)
there_too [] (z ∷ ys) i y long at = absurd (omega (arith, long))
there_too (x ∷ xs) [] i y long at = absurd (cc at)
there_too (x ∷ xs) (z ∷ ys) zero y long at = (x, refl)
there_too (x ∷ xs) (z ∷ ys) (suc i) y long at = there_too xs ys i y (omega (arith, long)) at

-- ---- the checks that ways give
-- each is of the claim
module _ (claim : ℕ) (vars : List VarId) (p : ℕ) where
  pub of_claim : (way : Way) (c : Check) → check_by claim vars p way ≡ Some c → c.claim ≡ claim
  of_claim way c e = go (way.point.0 == p) (partners_at way.partners vars) e
    where
      go : (b : Bool) (o : Option (List VarId)) → (if b then option_map (λ there. record { claim = claim; vars = there; paths = way.paths }) o else None) ≡ Some c → c.claim ≡ claim
      go true None e = absurd (cc e)
      go true (Some there) e = sym (ap (λ (c : Check). c.claim) (some_same (record { claim = claim; vars = there; paths = way.paths }) c e))
      go false o e = absurd (cc e)

  -- those of the claim among them are all, and those of another one none
  pub on_it : (ways : List Way) → checks_on claim (checks_by claim vars p ways) ≡ checks_by claim vars p ways
  on_it [] = refl
  on_it (way ∷ ways) = go (check_by claim vars p way) refl (on_it ways)
    where
      go : (o : Option Check) → check_by claim vars p way ≡ o → checks_on claim (checks_by claim vars p ways) ≡ checks_by claim vars p ways
          → checks_on claim (cons_option o (checks_by claim vars p ways)) ≡ cons_option o (checks_by claim vars p ways)
      go None e rest = rest
      go (Some c) e rest = rw (eq-eqb c.claim claim (of_claim way c e)) (ap (λ l. c ∷ l) rest)

  pub on_other : (i : ℕ) → claim ≢ i → (ways : List Way) → checks_on i (checks_by claim vars p ways) ≡ []
  on_other i ne [] = refl
  on_other i ne (way ∷ ways) = go (check_by claim vars p way) refl (on_other i ne ways)
    where
      go : (o : Option Check) → check_by claim vars p way ≡ o → checks_on i (checks_by claim vars p ways) ≡ [] → checks_on i (cons_option o (checks_by claim vars p ways)) ≡ []
      go None e rest = rest
      go (Some c) e rest = rw (ne_eqb c.claim i (λ h. ne (sym (of_claim way c e) ∙ h))) rest

  pub all_of_claim : (n : ℕ) → claim < n → (ways : List Way) → All (λ (c : Check). c.claim < n) (checks_by claim vars p ways)
  all_of_claim n l [] = All-nil (λ (c : Check). c.claim < n)
  all_of_claim n l (way ∷ ways) = go (check_by claim vars p way) refl (all_of_claim n l ways)
    where
      go : (o : Option Check) → check_by claim vars p way ≡ o → All (λ (c : Check). c.claim < n) (checks_by claim vars p ways) → All (λ (c : Check). c.claim < n) (cons_option o (checks_by claim vars p ways))
      go None e rest = rest
      go (Some c) e rest = All-cons (λ (c : Check). c.claim < n) c (checks_by claim vars p ways) (subst (λ k. k < n) (sym (of_claim way c e)) l) rest

  -- and is made by a way
  pub by_some_way : (P : Way → Type 0) (Q : Check → Type 0) → ((way : Way) (c : Check) → P way → check_by claim vars p way ≡ Some c → Q c) → (ways : List Way) → All P ways → All Q (checks_by claim vars p ways)
  by_some_way P Q step [] all = All-nil Q
  by_some_way P Q step (way ∷ ways) all = go (check_by claim vars p way) refl (by_some_way P Q step ways (All-tail P way ways all))
    where
      go : (o : Option Check) → check_by claim vars p way ≡ o → All Q (checks_by claim vars p ways) → All Q (cons_option o (checks_by claim vars p ways))
      go None e rest = rest
      go (Some c) e rest = All-cons Q c (checks_by claim vars p ways) (step way c (All-head P way ways all) e) rest

-- checks of earlier claims alone
pub none_on : (i : ℕ) (own : List Check) → All (λ (c : Check). c.claim < i) own → checks_on i own ≡ []
none_on i [] below = refl
none_on i (c ∷ own) below =
    let less : c.claim < i = All-head (λ (c : Check). c.claim < i) c own below in
    rw (ne_eqb c.claim i (λ e. omega (arith, less, e))) (none_on i own (All-tail (λ (c : Check). c.claim < i) c own below))

-- what holds of all checks of a claim holds of each
pub of_each : (i : ℕ) (Q : Check → Type 0) (own : List Check) → All Q (checks_on i own) → (k : ℕ) (c : Check) → slice_get own k ≡ Some c → c.claim ≡ i → Q c
of_each i Q [] all k c at e = absurd (cc at)
of_each i Q (d ∷ own) all k c at e = go (d.claim == i) refl k at (λ rest k at. of_each i Q own rest k c at e)
  where
    go : (b : Bool) → (d.claim == i) ≡ b → (k : ℕ) → slice_get (d ∷ own) k ≡ Some c → (All Q (checks_on i own) → (k : ℕ) → slice_get own k ≡ Some c → Q c) → Q c
    go true t zero at more =
        let same : d ≡ c = some_same d c at in
        subst Q same (All-head Q d (checks_on i own) (subst (λ b. All Q (cond b (d ∷ checks_on i own) (checks_on i own))) t all))
    go true t (suc k) at more = more (All-tail Q d (checks_on i own) (subst (λ b. All Q (cond b (d ∷ checks_on i own) (checks_on i own))) t all)) k at
    go false t zero at more = absurd (false≢true (sym t ∙ eq-eqb d.claim i (ap (λ (c : Check). c.claim) (some_same d c at) ∙ e)))
    go false t (suc k) at more = more (subst (λ b. All Q (cond b (d ∷ checks_on i own) (checks_on i own))) t all) k at

-- ---- a claim more
module _ (ps : List Point) (findings : List Finding) (n : ℕ) (old new : List (List Check)) (are : AreChecksOfFirst n ps findings old) where
  -- of which no assertion is found
  pub claim_left_out : (f : Finding) → slice_get findings n ≡ Some f → AreByWaysIf ps old n f → AreChecksOfFirst (n + 1) ps findings old
  claim_left_out f at is = record {
    long = are.long;
    each = λ i g below there. go (i == n) refl g below there;
    within = λ p own there k d l. let less = are.within p own there k d l in omega (arith, less);
  }
    where
      go : {i : ℕ} (b : Bool) → (i == n) ≡ b → (g : Finding) → i < n + 1 → slice_get findings i ≡ Some g → AreByWaysIf ps old i g
      go {i} true e g below there =
          let same : i ≡ n = eqb-true i n e in
          let found : f ≡ g = some_same f g (sym at ∙ ap (slice_get findings) (sym same) ∙ there) in
          subst (λ k. AreByWaysIf ps old k g) (sym same) (subst (AreByWaysIf ps old n) found is)
      go {i} false e g below there = are.each i g (let ne = eqb-false i n e in omega (arith, ne, below)) there

  module _ (vars : List VarId) (ways : List Way) (with : AreWithChecks n vars ways old new) where
    was : (p : ℕ) (others : List Check) → slice_get new p ≡ Some others → (own : List Check) × (slice_get old p ≡ Some own) × (others ≡ own ++ checks_by n vars p ways)
    was p others at = let o = there_too old new p others with.long at in (o.0, o.1, with.each p o.0 others o.1 at)

    -- the earlier claims keep theirs
    earlier : (i : ℕ) → n ≢ i → (p : ℕ) (own others : List Check) → others ≡ own ++ checks_by n vars p ways → checks_on i others ≡ checks_on i own
    earlier i ne p own others e =
        ap (checks_on i) e
        ∙ filter-append (λ c. c.claim == i) own (checks_by n vars p ways)
        ∙ ap (λ l. checks_on i own ++ l) (on_other n vars p i ne ways)
        ∙ append-nil (checks_on i own)

    still_by_ways : (i : ℕ) (g : Finding) → n ≢ i → AreByWaysIf ps old i g → AreByWaysIf ps new i g
    still_by_ways i Unknown ne by = tt
    still_by_ways i (Violated x y) ne by = tt
    still_by_ways i (Holds point a m) ne by = record {
      ways = by.ways;
      descent = by.descent;
      by_ways = λ p others at. let w = was p others at in earlier i ne p w.0 others w.2 ∙ by.by_ways p w.0 w.1;
    }

    pub own_by_ways : (q : ℕ) → IsDescent ps q ways [] → AreByWays ps new n q vars
    own_by_ways q descent = record {
      ways = ways;
      descent = descent;
      by_ways = λ p others at. let w = was p others at in
          ap (checks_on n) w.2
          ∙ filter-append (λ c. c.claim == n) w.0 (checks_by n vars p ways)
          ∙ ap (λ l. l ++ checks_on n (checks_by n vars p ways)) (none_on n w.0 (are.within p w.0 w.1))
          ∙ on_it n vars p ways;
    }

    pub claim_more : (f : Finding) → slice_get findings n ≡ Some f → AreByWaysIf ps new n f → AreChecksOfFirst (n + 1) ps findings new
    claim_more f at is = record {
      long = with.long ∙ are.long;
      each = λ i g below there. go (i == n) refl g below there;
      within = λ p others at. let w = was p others at in
          subst (All (λ (c : Check). c.claim < n + 1)) (sym w.2)
          (All-append (λ (c : Check). c.claim < n + 1) w.0 (checks_by n vars p ways) (λ k d l. let less = are.within p w.0 w.1 k d l in omega (arith, less)) (all_of_claim n vars p (n + 1) (omega arith) ways));
    }
      where
        go : {i : ℕ} (b : Bool) → (i == n) ≡ b → (g : Finding) → i < n + 1 → slice_get findings i ≡ Some g → AreByWaysIf ps new i g
        go {i} true e g below there =
            let same : i ≡ n = eqb-true i n e in
            let found : f ≡ g = some_same f g (sym at ∙ ap (slice_get findings) (sym same) ∙ there) in
            subst (λ k. AreByWaysIf ps new k g) (sym same) (subst (AreByWaysIf ps new n) found is)
        go {i} false e g below there =
            let ne = eqb-false i n e in
            still_by_ways i g (λ h. ne (sym h)) (are.each i g (omega (arith, ne, below)) there)

-- nothing is asserted where no assertion is found
pub not_asserted : (ps : List Point) (checks : List (List Check)) (i : ℕ) (f : Finding) → ((point : PointId) (a : Assertion) (n : ℕ) → f ≡ Holds point a n → ⊥) → AreByWaysIf ps checks i f
not_asserted ps checks i Unknown none = tt
not_asserted ps checks i (Violated x y) none = tt
not_asserted ps checks i (Holds point a n) none = absurd (none point a n refl)

-- of no claims
pub none_made : (ps : List Point) (findings : List Finding) → AreChecksOfFirst 0 ps findings (replicate (length ps) [])
none_made ps findings = record {
  long = length-replicate (length ps) [];
  each = λ i f below at. absurd (omega (arith, below));
  within = λ p own at. subst (All (λ (c : Check). c.claim < 0)) (sym (empty (length ps) p own at)) (All-nil (λ (c : Check). c.claim < 0));
}
  where
    empty : (n p : ℕ) (own : List Check) → slice_get (replicate n []) p ≡ Some own → own ≡ []
    empty zero p own at = absurd (cc at)
    empty (suc n) zero own at = sym (some_same [] own at)
    empty (suc n) (suc p) own at = empty n p own at

-- ---- they can be tested
-- a row takes at least one variable
arity_some : (row : RowId) → 0 < arity_of row
arity_some row = go (template_of row).takes
  where
    go : (t : Takes) → 0 < length (roles_of t)
    go (One a) = omega arith
    go (Two a b) = omega arith
    go (Three a b c) = omega arith

has_vars : (row : RowId) (infos : List VarInfo) (vars : List VarId) → admits row infos vars ≡ true → 0 < length vars
has_vars row infos vars a = let long = admitted_arity row infos vars a in let some = arity_some row in omega (arith, long, some)

module _ (ps : List Point) (p : ℕ) (sample : List Value) (is : IsSample (all_vars_of ps p) sample) where
  long_of : (infos : List VarInfo) (values : List Value) → AllZip (λ (info : VarInfo) x. IsOfKind info.kind x) infos values → length infos ≡ length values
  long_of [] [] h = refl
  long_of [] (x ∷ xs) h = absurd h
  long_of (v ∷ vs) [] h = absurd h
  long_of (v ∷ vs) (x ∷ xs) h = let rest = long_of vs xs h.1 in omega (arith, rest)

  way_tests : (q claim : ℕ) (a : Assertion) → IsAssertionOf ps q a → (way : Way) (c : Check) → IsWayDown ps q way → check_by claim a.vars p way ≡ Some c → CanTest a.row c.vars sample × (0 < c.paths)
  way_tests q claim a asserted way c down e = go (way.point.0 == p) (partners_at way.partners a.vars) refl refl e
    where
      go : (b : Bool) (o : Option (List VarId)) → (way.point.0 == p) ≡ b → partners_at way.partners a.vars ≡ o
          → (if b then option_map (λ there. record { claim = claim; vars = there; paths = way.paths }) o else None) ≡ Some c → CanTest a.row c.vars sample × (0 < c.paths)
      go false o t at e = absurd (cc e)
      go true None t at e = absurd (cc e)
      go true (Some there) t at e =
          let same : record { claim = claim; vars = there; paths = way.paths } ≡ c = some_same (record { claim = claim; vars = there; paths = way.paths }) c e in
          let here : way.point.0 ≡ p = eqb-true way.point.0 p t in
          let admitted = partners_admitted (all_vars_of ps q) (all_vars_of ps way.point.0) way.partners down.partners a.row a.vars there at asserted.vars in
          let admitted_here : admits a.row (all_vars_of ps p) there ≡ true = subst (λ j. admits a.row (all_vars_of ps j) there ≡ true) here admitted in
          let are_there : AreThere (all_vars_of ps p) there = subst (λ j. AreThere (all_vars_of ps j) there) here (partners_there (all_vars_of ps q) (all_vars_of ps way.point.0) way.partners down.partners a.vars there at) in
          subst (λ (c : Check). CanTest a.row c.vars sample × (0 < c.paths)) same (
            record {
              some = has_vars a.row (all_vars_of ps p) there admitted_here;
              few = admitted_few a.row (all_vars_of ps p) there admitted_here;
              within = λ k d l. subst (λ n. (get_or there k d).0 < n) (long_of (all_vars_of ps p) sample is.kinds) (are_there k d l);
              tuple = λ whole. is_tuple (all_vars_of ps p) sample is a.row there admitted_here whole;
            },
            down.some,
          )

  pub all_fit : (findings : List Finding) (checks : List (List Check)) → AreFindingsOf ps findings → AreChecksOf ps findings checks → (own : List Check) → slice_get checks p ≡ Some own → FitAll sample own findings
  all_fit findings checks are checks_are own here k c at = (
    subst (λ (c : Check). c.claim < length findings) (some_same (get_or own k c) c (sym (got own k c (get_within own k c at)) ∙ at)) (checks_are.within p own here k c (get_within own k c at)),
    λ f there. go f there (are c.claim f there) (checks_are.each c.claim f (get_within findings c.claim f there) there),
  )
    where
      go : (f : Finding) → slice_get findings c.claim ≡ Some f → IsFindingOf ps f → AreByWaysIf ps checks c.claim f → Fits sample c f
      go Unknown there is by = tt
      go (Violated x y) there is by = tt
      go (Holds point a n) there is by =
          of_each c.claim (λ (d : Check). CanTest a.row d.vars sample × (0 < d.paths)) own
          (subst (All (λ (d : Check). CanTest a.row d.vars sample × (0 < d.paths))) (sym (by.by_ways p own here))
          (by_some_way c.claim a.vars p (IsWayDown ps point.0) (λ (d : Check). CanTest a.row d.vars sample × (0 < d.paths)) (way_tests point.0 c.claim a is.0) by.ways by.descent.done))
          k c at refl

pub all_going : (ps : List Point) (findings : List Finding) → AreFindingsOf ps findings → CanAllGoOn findings
all_going ps findings are i f at = go f (are i f at)
  where
    go : (f : Finding) → IsFindingOf ps f → CanGoOn f
    go Unknown is = tt
    go (Violated x y) is = tt
    go (Holds point a n) is = (is.0.testable, is.1)
