-- The state of an assertion behind tuples that come some at a time.
use Rattle.std.specs.Prelude.{◌≡◌, ◌≢◌, ◌⊎◌, ℕ, Bool, true, false, if◌then◌else◌, nat_eq, refl}
use Rattle.std.proofs.Common.{◌∙◌, ap, inl, inr, subst, sym}
use Rattle.dk_expr.specs.Violations.{IsViolated, kept_state}
use Rattle.dk_filters.proofs.Same.{same_states_are_equal}
use Rattle.dk_filters.specs.Sameness.{same_state}
use Rattle.dk_forms.specs.Code.{IsCodeState, code_join, code_state}
use Rattle.dk_forms.specs.Known.{fact, broken}
use Rattle.dk_forms.specs.Laws.{JoinLaws}
use Rattle.dk_forms.specs.declared.states.State.{State}
use Rattle.dk_forms.specs.declared.states.State.TheVariants.{Empty, Broken, Code}
use Rattle.dk_template.specs.Joins.{joined}
use Rattle.dk_template.specs.Proper.{IsProper}
use Rattle.dk_template.specs.declared.templates.StateForm.{StateForm}
use Rattle.dk_template.specs.declared.templates.StateForm.TheVariants as form

-- ---- words of violations
pub or_empty : (s : State) → (s ≡ Empty) ⊎ (s ≢ Empty)
or_empty Empty = inl refl
or_empty _ = inr (λ e. cc)

or_same : (s t : State) → (s ≡ t) ⊎ (s ≢ t)
or_same s t = go (same_state s t) refl
  where
    go : (b : Bool) → same_state s t ≡ b → (s ≡ t) ⊎ (s ≢ t)
    go true e = inl ((same_states_are_equal s t).0 e)
    go false e = inr (λ h. let t : true ≡ false = sym ((same_states_are_equal s t).1 h) ∙ e in cc)

-- of a state that is known
changes : (s next : State) → s ≢ Empty → IsViolated s next → next ≢ s
changes Empty next known v = absurd (known refl)
changes _ next known v = v

violates : (s next : State) → s ≢ Empty → next ≢ s → IsViolated s next
violates Empty next known v = absurd (known refl)
violates _ next known v = v

pub kept : (s next : State) → s ≢ Empty → kept_state s next ≡ s
kept Empty next known = absurd (known refl)
kept _ next known = refl

stays : (s next : State) → s ≢ Empty → ¬ IsViolated s next → next ≡ s
stays s next known not = elim (or_same next s) as (λ _. next ≡ s) [ inl same ↦ same | inr other ↦ absurd (not (violates s next known other)) ]

-- of one of which nothing is known yet
kept_first : (next : State) → next ≢ Broken → kept_state Empty next ≡ next
kept_first Broken some = absurd (some refl)
kept_first _ some = refl

-- a hash code with others is the code, or nothing is left to say
code_or_broken : (h : ℕ) (y : State) → IsCodeState y → (code_join (Code h) y ≡ Code h) ⊎ (code_join (Code h) y ≡ Broken)
code_or_broken h Empty is = inl refl
code_or_broken h Broken is = inr refl
code_or_broken h (Code n) is = by_test (nat_eq h n) refl
  where
    by_test : (b : Bool) → nat_eq h n ≡ b → (code_join (Code h) (Code n) ≡ Code h) ⊎ (code_join (Code h) (Code n) ≡ Broken)
    by_test true e = inl (ap (λ c. code_state (if c then fact h else broken)) e)
    by_test false e = inr (ap (λ c. code_state (if c then fact h else broken)) e)
code_or_broken h _ is = absurd is

known_code : (x y : State) → IsCodeState x → IsCodeState y → x ≢ Empty → x ≢ Broken → (code_join x y ≡ x) ⊎ (code_join x y ≡ Broken)
known_code Empty y is are known some = absurd (known refl)
known_code Broken y is are known some = absurd (some refl)
known_code (Code h) y is are known some = code_or_broken h y are
known_code _ y is are known some = absurd is

-- ---- two joins, one behind the other
module _ (by : StateForm) (laws : JoinLaws (IsProper by) Empty Broken (joined by)) (s : State) (proper : IsProper by s) (code : s ≡ Empty → by ≡ form.Code) (x y : State) (first : IsProper by x) (second : IsProper by y) where
  abbrev join : State → State → State
  join = joined by

  -- what is asserted behind the first
  abbrev after : State
  after = kept_state s (join s x)

  behind : join s (join x y) ≡ join (join s x) y
  behind = sym (laws.assoc s x y proper first second)

  -- a known state
  module _ (known : s ≢ Empty) (not : ¬ IsViolated s (join s x)) where
    same : after ≡ s
    same = kept s (join s x) known

    joins : join after y ≡ join s (join x y)
    joins = ap (λ t. join t y) (same ∙ sym (stays s (join s x) known not)) ∙ sym behind

  -- nothing is known yet
  module _ (empty : s ≡ Empty) where
    alone : (z : State) → IsProper by z → join s z ≡ z
    alone z is = ap (λ t. join t z) empty ∙ laws.neutral z is

    whole : join s (join x y) ≡ join x y
    whole = alone (join x y) (laws.closed x y first second)

    module _ (not : ¬ IsViolated s (join s x)) where
      some : x ≢ Broken
      some is = not (subst (λ t. IsViolated t (join s x)) (sym empty) (alone x first ∙ is))

      took : after ≡ x
      took = ap (λ t. kept_state t (join s x)) empty ∙ ap (kept_state Empty) (alone x first) ∙ kept_first x some

      meets : x ≢ Empty → (join x y ≡ x) ⊎ (join x y ≡ Broken)
      meets known =
          let f = code empty in
          elim (known_code x y (subst (λ g. IsProper g x) f first) (subst (λ g. IsProper g y) f second) known some) as (λ _. (join x y ≡ x) ⊎ (join x y ≡ Broken)) [
            | inl e ↦ inl (ap (λ g. joined g x y) f ∙ e)
            | inr e ↦ inr (ap (λ g. joined g x y) f ∙ e)
          ]

  -- ---- the assertion isn't violated by the first
  module _ (not : ¬ IsViolated s (join s x)) where
    -- a violation by the second is one by both
    pub violated_by_both : IsViolated after (join after y) → IsViolated s (join s (join x y))
    violated_by_both v = elim (or_empty s) as (λ _. IsViolated s (join s (join x y))) [
      | inr known ↦ subst (IsViolated s) (joins known not) (subst (λ t. IsViolated t (join after y)) (same known not) v)
      | inl empty ↦ elim (or_empty x) as (λ _. IsViolated s (join s (join x y))) [
        | inl none ↦
            let to : after ≡ s = took empty not ∙ none ∙ sym empty in
            let both : join after y ≡ join s (join x y) = ap (λ t. join t y) (took empty not) ∙ sym (whole empty) in
            subst (IsViolated s) both (subst (λ t. IsViolated t (join after y)) to v)
        | inr known ↦
            let changed : join x y ≢ x = changes x (join x y) known (subst (λ t. IsViolated t (join t y)) (took empty not) v) in
            elim (meets empty not known) as (λ _. IsViolated s (join s (join x y))) [
              | inl e ↦ absurd (changed e)
              | inr e ↦ subst (λ t. IsViolated t (join s (join x y))) (sym empty) (whole empty ∙ e)
            ]
      ]
    ]

    -- and if the second doesn't violate it either, both don't
    pub unviolated_by_both : ¬ IsViolated after (join after y) → ¬ IsViolated s (join s (join x y))
    unviolated_by_both none v = elim (or_empty s) as (λ _. ⊥) [
      | inr known ↦ none (subst (λ t. IsViolated t (join after y)) (sym (same known not)) (subst (IsViolated s) (sym (joins known not)) v))
      | inl empty ↦ elim (or_empty x) as (λ _. ⊥) [
        | inl nil ↦
            let to : after ≡ s = took empty not ∙ nil ∙ sym empty in
            let both : join after y ≡ join s (join x y) = ap (λ t. join t y) (took empty not) ∙ sym (whole empty) in
            none (subst (λ t. IsViolated t (join after y)) (sym to) (subst (IsViolated s) (sym both) v))
        | inr known ↦
            let nothing : join x y ≡ Broken = sym (whole empty) ∙ subst (λ t. IsViolated t (join s (join x y))) empty v in
            let is : join x y ≡ x = stays x (join x y) known (subst (λ t. ¬ IsViolated t (join t y)) (took empty not) none) in
            some empty not (sym is ∙ nothing)
      ]
    ]

    -- with the state that both leave
    pub kept_behind_both : ¬ IsViolated after (join after y) → kept_state after (join after y) ≡ kept_state s (join s (join x y))
    kept_behind_both none = elim (or_empty s) as (λ _. kept_state after (join after y) ≡ kept_state s (join s (join x y))) [
      | inr known ↦ ap (λ t. kept_state t (join after y)) (same known not) ∙ ap (kept_state s) (joins known not)
      | inl empty ↦ elim (or_empty x) as (λ _. kept_state after (join after y) ≡ kept_state s (join s (join x y))) [
        | inl nil ↦
            let to : after ≡ s = took empty not ∙ nil ∙ sym empty in
            let both : join after y ≡ join s (join x y) = ap (λ t. join t y) (took empty not) ∙ sym (whole empty) in
            ap (λ t. kept_state t (join after y)) to ∙ ap (kept_state s) both
        | inr known ↦
            let is : join x y ≡ x = stays x (join x y) known (subst (λ t. ¬ IsViolated t (join t y)) (took empty not) none) in
            ap (λ t. kept_state t (join t y)) (took empty not) ∙ kept x (join x y) known
            ∙ sym (ap (λ t. kept_state t (join s (join x y))) empty ∙ ap (kept_state Empty) (whole empty ∙ is) ∙ kept_first x (some empty not))
      ]
    ]

  -- ---- the assertion is violated by the first
  absorbed : (u : State) → IsProper by u → join s u ≡ u → join u y ≡ s → u ≡ s
  absorbed u is above back =
      sym above
      ∙ ap (λ t. join t u) (sym back)
      ∙ laws.comm (join u y) u (laws.closed u y is second) is
      ∙ sym (laws.assoc u u y is is second)
      ∙ ap (λ t. join t y) (laws.idem u is)
      ∙ back

  -- so it is by both
  pub still_violated : IsViolated s (join s x) → IsViolated s (join s (join x y))
  still_violated v = elim (or_empty s) as (λ _. IsViolated s (join s (join x y))) [
    | inl empty ↦
        let nothing : x ≡ Broken = sym (alone empty x first) ∙ subst (λ t. IsViolated t (join s x)) empty v in
        subst (λ t. IsViolated t (join s (join x y))) (sym empty) (whole empty ∙ ap (λ t. join t y) nothing ∙ laws.absorbs y second)
    | inr known ↦ violates s (join s (join x y)) known (λ e.
        changes s (join s x) known v
        (absorbed (join s x) (laws.closed s x proper first)
        (sym (laws.assoc s s x proper proper first) ∙ ap (λ t. join t x) (laws.idem s proper))
        (sym behind ∙ e)))
  ]
