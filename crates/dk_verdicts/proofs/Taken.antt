-- What is found behind tuples that come some at a time.
use Rattle.std.specs.Prelude.{◌≡◌, ◌+◌, ◌<◌, ℕ, zero, suc, Bool, true, false, List, [], ◌∷◌, ◌++◌, length, refl}
use Rattle.std.proofs.Common.{◌∙◌, ap, arith, inl, inr, length-append, subst, sym}
use Rattle.std.proofs.lemmas.List.Elements.{All-cons, All-nil}
use Rattle.dk_base.specs.declared.kinds.PointId.{PointId}
use Rattle.dk_base.specs.declared.kinds.VarId.{VarId}
use Rattle.dk_base.specs.declared.values.Value.{Value}
use Rattle.dk_expr.specs.Violations.{IsViolated, kept_state}
use Rattle.dk_expr.specs.declared.assertions.Assertion.{Assertion}
use Rattle.dk_forms.specs.declared.states.State.{State}
use Rattle.dk_forms.specs.declared.states.State.TheVariants.{Empty, Broken}
use Rattle.dk_hierarchy.proofs.Telling.{from_repeated, in_repeated}
use Rattle.dk_hierarchy.specs.Ways.{repeated_samples}
use Rattle.dk_instances.proofs.Fitting.{fit_of_set}
use Rattle.dk_instances.specs.Fits.{fit, is_whole, tuple_in, tuples_of}
use Rattle.dk_meanings.proofs.RowLaws.{laws_of}
use Rattle.dk_meanings.specs.Meanings.{state_of}
use Rattle.dk_presence.specs.Patterns.{capped}
use Rattle.dk_template.specs.Joins.{joined}
use Rattle.dk_template.specs.Proper.{IsProper}
use Rattle.dk_template.specs.Rows.{IsTuple, RowLaws}
use Rattle.dk_template.specs.Templates.{IsRow, form_of, role_kinds}
use Rattle.dk_template.specs.declared.grammar.RowId.{RowId}
use Rattle.dk_template.specs.declared.templates.StateForm.{StateForm}
use Rattle.dk_template.specs.declared.templates.StateForm.TheVariants as form
use Rattle.dk_verdicts.proofs.States.{kept, kept_behind_both, or_empty, still_violated, unviolated_by_both, violated_by_both}
use Rattle.dk_verdicts.specs.Tests.{CanGoOn, CanTest, Fits, IsTestable, Takes, Tells, state_behind, tuples_by, with_tuples}
use Rattle.dk_verdicts.specs.declared.checks.Check.{Check}
use Rattle.dk_verdicts.specs.declared.findings.Finding.{Finding}
use Rattle.dk_verdicts.specs.declared.findings.Finding.TheVariants.{Holds, Violated, Unknown}
use Rattle.dk_verdicts.specs.declared.testing.Outcome.TheVariants as outcome

abbrev pub Tuples : Type 0
Tuples = List (List Value)

-- ---- states
-- a state that nothing joins to
module _ (s : State) (next : State) (same : next ≡ s) where
  pub still : ¬ IsViolated s next
  still v = go s next same v
    where
      go : (s next : State) → next ≡ s → IsViolated s next → ⊥
      go Empty next same v = let e : Empty ≡ Broken = sym same ∙ v in cc
      go _ next same v = v same

  pub kept_same : kept_state s next ≡ s
  kept_same = elim (or_empty s) as (λ _. kept_state s next ≡ s) [
    | inr known ↦ kept s next known
    | inl empty ↦ ap (λ t. kept_state t next) empty ∙ ap (kept_state Empty) (same ∙ empty) ∙ sym empty
  ]

kept_proper : (f : StateForm) (s next : State) → IsProper f Empty → IsProper f s → IsProper f next → IsProper f (kept_state s next)
kept_proper f s next none is after = elim (or_empty s) as (λ _. IsProper f (kept_state s next)) [
  | inr known ↦ subst (IsProper f) (sym (kept s next known)) is
  | inl empty ↦ subst (λ t. IsProper f (kept_state t next)) (sym empty) (first next after)
]
  where
    first : (t : State) → IsProper f t → IsProper f (kept_state Empty t)
    first Broken is = none
    first _ is = is

module _ (a : Assertion) (is : IsTestable a) where
  laws : RowLaws (role_kinds a.row) (form_of a.row) (state_of a.row)
  laws = laws_of a.row is.row

  -- a state joined with nothing
  with_none : state_behind a [] ≡ a.state
  with_none =
      ap (joined (form_of a.row) a.state) laws.none
      ∙ laws.joins.comm a.state Empty is.proper laws.joins.empty_proper
      ∙ laws.joins.neutral a.state is.proper

  pub with_tuples_testable : (ts : Tuples) → IsProper (form_of a.row) (state_of a.row ts) → IsTestable (with_tuples a ts)
  with_tuples_testable ts proper = record {
    row = is.row;
    proper = kept_proper (form_of a.row) a.state (state_behind a ts) laws.joins.empty_proper is.proper (laws.joins.closed a.state (state_of a.row ts) is.proper proper);
    code = λ e. elim (or_empty a.state) as (λ _. form_of a.row ≡ form.Code) [
      | inl empty ↦ is.code empty
      | inr known ↦ absurd (known (sym (kept a.state (state_behind a ts) known) ∙ e))
    ];
  }

  -- ---- tuples, and others behind them
  module _ (ts us : Tuples) (first : IsProper (form_of a.row) (state_of a.row ts)) (second : IsProper (form_of a.row) (state_of a.row us)) where
    together : state_behind a (ts ++ us) ≡ joined (form_of a.row) a.state (joined (form_of a.row) (state_of a.row ts) (state_of a.row us))
    together = ap (joined (form_of a.row) a.state) (laws.both ts us)

    pub both_proper : IsProper (form_of a.row) (state_of a.row (ts ++ us))
    both_proper = subst (IsProper (form_of a.row)) (sym (laws.both ts us)) (laws.joins.closed (state_of a.row ts) (state_of a.row us) first second)

    pub still_by : IsViolated a.state (state_behind a ts) → IsViolated a.state (state_behind a (ts ++ us))
    still_by v = subst (IsViolated a.state) (sym together) (still_violated (form_of a.row) laws.joins a.state is.proper is.code (state_of a.row ts) (state_of a.row us) first second v)

    module _ (not : ¬ IsViolated a.state (state_behind a ts)) where
      pub violated_by : IsViolated (with_tuples a ts).state (state_behind (with_tuples a ts) us) → IsViolated a.state (state_behind a (ts ++ us))
      violated_by v = subst (IsViolated a.state) (sym together) (violated_by_both (form_of a.row) laws.joins a.state is.proper is.code (state_of a.row ts) (state_of a.row us) first second not v)

      pub unviolated_by : ¬ IsViolated (with_tuples a ts).state (state_behind (with_tuples a ts) us) → ¬ IsViolated a.state (state_behind a (ts ++ us))
      unviolated_by none v = unviolated_by_both (form_of a.row) laws.joins a.state is.proper is.code (state_of a.row ts) (state_of a.row us) first second not none (subst (IsViolated a.state) together v)

      pub kept_by : ¬ IsViolated (with_tuples a ts).state (state_behind (with_tuples a ts) us)
          → kept_state (with_tuples a ts).state (state_behind (with_tuples a ts) us) ≡ kept_state a.state (state_behind a (ts ++ us))
      kept_by none = kept_behind_both (form_of a.row) laws.joins a.state is.proper is.code (state_of a.row ts) (state_of a.row us) first second not none ∙ ap (kept_state a.state) (sym together)

-- ---- what is found
pub takes_none : (file line : ℕ) (f : Finding) → CanGoOn f → Takes file line [] f f
takes_none file line Unknown can = refl
takes_none file line (Violated x y) can = refl
takes_none file line (Holds point a n) can =
    let is = can.0 in
    let none = with_none a is in (
      subst (IsProper (form_of a.row)) (sym (laws a is).none) (laws a is).joins.empty_proper,
      inl (
        still a.state (state_behind a []) none,
        sym (ap (λ s. Holds point (record a { state = s }) (capped (n + 0))) (kept_same a.state (state_behind a []) none)
            ∙ ap (λ m. Holds point a m) (sym (can.1 ∙ ap capped (nothing n)))),
      ),
    )
  where
    nothing : (n : ℕ) → n ≡ n + 0
    nothing n = omega arith

-- what tuples say of what is asserted is proper
abbrev pub AreProper : Finding → Tuples → Type 0
AreProper (Holds point a n) ts = IsProper (form_of a.row) (state_of a.row ts)
AreProper _ ts = Unit {0}

pub takes_more : (file line : ℕ) (ts us : Tuples) (f g h : Finding) → CanGoOn f → AreProper f us → Takes file line ts f g → Takes file line us g h → Takes file line (ts ++ us) f h
takes_more file line ts us Unknown g h can proper first second = subst (λ x. Takes file line us x h) first second
takes_more file line ts us (Violated x y) g h can proper first second = subst (λ f. Takes file line us f h) first second
takes_more file line ts us (Holds point a n) g h can more (proper, inr (violated, is)) second =
    let ended : h ≡ Violated file line = subst (λ x. Takes file line us x h) is second in
    (both_proper a can.0 ts us proper more, inr (still_by a can.0 ts us proper more violated, ended))
takes_more file line ts us (Holds point a n) g h can more (proper, inl (not, is)) second =
    go (subst (λ x. Takes file line us x h) is second)
  where
    b : Assertion
    b = with_tuples a ts

    counts : (x y z : ℕ) → z ≡ x + y → capped (capped (n + x) + y) ≡ capped (n + z)
    counts x y z e = omega (arith, e)

    go : Takes file line us (Holds point b (capped (n + length ts))) h → Takes file line (ts ++ us) (Holds point a n) h
    go (_, inl (none, found)) = (
      both_proper a can.0 ts us proper more,
      inl (
        unviolated_by a can.0 ts us proper more not none,
        found
            ∙ ap (λ s. Holds point (record a { state = s }) (capped (capped (n + length ts) + length us))) (kept_by a can.0 ts us proper more not none)
            ∙ ap (λ m. Holds point (with_tuples a (ts ++ us)) m) (counts (length ts) (length us) (length (ts ++ us)) (length-append ts us)),
      ),
    )
    go (_, inr (violated, found)) = (both_proper a can.0 ts us proper more, inr (violated_by a can.0 ts us proper more not violated, found))

-- it can still be tested
pub takes_going : (file line : ℕ) (ts : Tuples) (f g : Finding) → CanGoOn f → Takes file line ts f g → CanGoOn g
takes_going file line ts Unknown g can is = subst CanGoOn (sym is) tt
takes_going file line ts (Violated x y) g can is = subst CanGoOn (sym is) tt
takes_going file line ts (Holds point a n) g can (proper, inl (not, is)) = subst CanGoOn (sym is) (with_tuples_testable a can.0 ts proper, twice (n + length ts))
  where
    twice : (m : ℕ) → capped m ≡ capped (capped m)
    twice m = omega arith
takes_going file line ts (Holds point a n) g can (proper, inr (violated, is)) = subst CanGoOn (sym is) tt

-- and a check that tested it still does
pub takes_fitting : (file line : ℕ) (ts : Tuples) (sample : List Value) (c : Check) (f g : Finding) → Fits sample c f → Takes file line ts f g → Fits sample c g
takes_fitting file line ts sample c Unknown g fits is = subst (Fits sample c) (sym is) tt
takes_fitting file line ts sample c (Violated x y) g fits is = subst (Fits sample c) (sym is) tt
takes_fitting file line ts sample c (Holds point a n) g fits (proper, inl (not, is)) = subst (Fits sample c) (sym is) fits
takes_fitting file line ts sample c (Holds point a n) g fits (proper, inr (violated, is)) = subst (Fits sample c) (sym is) tt

-- ---- one tuple, once for each path
module _ (vars : List VarId) (sample : List Value) where
  abbrev pub tuples : ℕ → Tuples
  tuples n = tuples_of vars (repeated_samples n (sample ∷ []))

  none_by : is_whole (tuple_in vars sample) ≡ false → (n : ℕ) → tuples n ≡ []
  unfolding repeated_samples
  none_by e zero = refl
  none_by e (suc n) = rw e (none_by e n)

  long_by : is_whole (tuple_in vars sample) ≡ true → (n : ℕ) → length (tuples n) ≡ n
  unfolding repeated_samples
  long_by e zero = refl
  long_by e (suc n) = rw e (let rest = long_by e n in omega (arith, rest))

  one_by : is_whole (tuple_in vars sample) ≡ true → tuples_of vars (sample ∷ []) ≡ tuple_in vars sample ∷ []
  one_by e = rw e refl

  -- a row says the same of it however often it comes
  pub often : (row : RowId) → IsRow row → (n : ℕ) → 0 < n → state_of row (tuples n) ≡ state_of row (tuples_of vars (sample ∷ []))
  unfolding fit
  often row is n some = fit_of_set row is vars (repeated_samples n (sample ∷ [])) (sample ∷ []) (record {
    to = λ x i. from_repeated n (sample ∷ []) x i;
    from = λ x i. in_repeated n (sample ∷ []) x some i;
  })

  module _ (row : RowId) (is : IsRow row) (n : ℕ) (some : 0 < n) where
    says : is_whole (tuple_in vars sample) ≡ true → state_of row (tuples n) ≡ state_of row (tuple_in vars sample ∷ [])
    says e = often row is n some ∙ ap (state_of row) (one_by e)

    pub proper_by : CanTest row vars sample → IsProper (form_of row) (state_of row (tuples n))
    proper_by can = go (is_whole (tuple_in vars sample)) refl
      where
        go : (b : Bool) → is_whole (tuple_in vars sample) ≡ b → IsProper (form_of row) (state_of row (tuples n))
        go true e = subst (IsProper (form_of row)) (sym (says e))
            ((laws_of row is).proper (tuple_in vars sample ∷ []) (All-cons (IsTuple (role_kinds row)) (tuple_in vars sample) [] (can.tuple e) (All-nil (IsTuple (role_kinds row)))))
        go false e = subst (IsProper (form_of row)) (sym (ap (state_of row) (none_by e n) ∙ (laws_of row is).none)) (laws_of row is).joins.empty_proper

-- what a test tells is what the tuples do
module _ (file line : ℕ) (sample : List Value) (c : Check) (point : PointId) (a : Assertion) (n : ℕ) (can : CanGoOn (Holds point a n)) (fits : Fits sample c (Holds point a n)) where
  abbrev pub ts : Tuples
  ts = tuples_by sample c

  proper : IsProper (form_of a.row) (state_of a.row ts)
  proper = proper_by c.vars sample a.row can.0.row c.paths fits.1 fits.0

  abbrev whole : Bool
  whole = is_whole (tuple_in c.vars sample)

  behind : whole ≡ true → state_behind a ts ≡ state_behind a (tuple_in c.vars sample ∷ [])
  behind e = ap (joined (form_of a.row) a.state) (says c.vars sample a.row can.0.row c.paths fits.1 e)

  pub takes_missing : (b : Assertion) → Tells a (tuple_in c.vars sample) outcome.Missing b → Takes file line ts (Holds point a n) (Holds point b n)
  takes_missing b (same, none) =
      subst (λ x. Takes file line ts (Holds point a n) (Holds point x n)) (sym same)
      (subst (λ us. Takes file line us (Holds point a n) (Holds point a n)) (sym (none_by c.vars sample none c.paths)) (takes_none file line (Holds point a n) can))

  pub takes_kept : (b : Assertion) → Tells a (tuple_in c.vars sample) outcome.Kept b → Takes file line ts (Holds point a n) (Holds point b (capped (n + c.paths)))
  takes_kept b (is, one, not) = (
    proper,
    inl (
      subst (λ s. ¬ IsViolated a.state s) (sym (behind one)) not,
      ap (λ x. Holds point x (capped (n + c.paths))) (is ∙ ap (λ s. record a { state = kept_state a.state s }) (sym (behind one)))
          ∙ ap (λ m. Holds point (with_tuples a ts) (capped (n + m))) (sym (long_by c.vars sample one c.paths)),
    ),
  )

  pub takes_violated : (b : Assertion) → Tells a (tuple_in c.vars sample) outcome.Violated b → Takes file line ts (Holds point a n) (Violated file line)
  takes_violated b (one, violated) = (proper, inr (subst (IsViolated a.state) (sym (behind one)) violated, refl))
