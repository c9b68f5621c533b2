-- Variables that are passed over stand in no candidate that is kept.
use Rattle.std.specs.Prelude.{◌≡◌, ◌&&◌, ◌||◌, ◌==◌, ◌<◌, nat_le, nat_lt, ℕ, Bool, true, false, not, List, [], ◌∷◌, if◌then◌else◌, length, refl}
use Rattle.std.specs.List.{list_any}
use Rattle.std.proofs.Common.{ap, arith, ◌∙◌, inl, inr, sym}
use Rattle.std.proofs.lemmas.Bool.{and_cases, and_from, and_left, and_parts, and_right, cases_Bool, eq-eqb, eqb-true, false≢true, leb-false, lt-ltb, not-false, or_from, or_left, or_parts, or_right}
use Rattle.std.proofs.lemmas.List.{get_or_default, length-map}
use Rattle.std.proofs.lemmas.List.FromFn.{length-map-range_with_len}
use Rattle.dk_base.specs.Shapes.{var}
use Rattle.dk_base.specs.declared.kinds.VarId.{VarId}
use Rattle.dk_filters.proofs.Asked.{admitted-there}
use Rattle.dk_filters.proofs.FromFound.{constants_found, members_found}
use Rattle.dk_filters.specs.Answers.{Answers, Parent}
use Rattle.dk_filters.specs.Candidates.{candidate_of, it_holds}
use Rattle.dk_filters.specs.Facts.{facts_of, first_like, has_few_samples, is_equality, tells_member_by}
use Rattle.dk_filters.specs.Found.{first_in, found_of, one_value_in}
use Rattle.dk_filters.specs.declared.facts.Facts.{Facts}
use Rattle.dk_forms.specs.Laws.{IsIn}
use Rattle.dk_instances.proofs.Members.{is_in}
use Rattle.dk_instances.specs.Instances.{all_vars, are_distinct, is_asked}
use Rattle.dk_presence.specs.Patterns.{has}
use Rattle.dk_template.specs.Admitted.{admits, is_written}
use Rattle.dk_template.specs.declared.grammar.RowId.{RowId}
use Rattle.dk_report.proofs.Falling.{CountsFall}
use Rattle.dk_report.specs.Keeping.{drops, keeps}
use Rattle.dk_report.specs.Listing.{is_listed, listed_candidates, may_equal, may_lead, may_stand}
use Rattle.dk_report.specs.declared.options.Options.{Options}

-- ---- facts that drop
drops-by-member : (options : Options) (f : Facts) → f.member ≡ true → options.keep_members ≡ false → drops options f ≡ true
drops-by-member options f m o =
    let few = f.few in
    let incomparable = f.incomparable && not options.keep_incomparable in
    let member = f.member && not options.keep_members in
    let implied = f.implied && not options.keep_implied in
    let constant = f.constant && not options.keep_constant in
    let parent = f.parent && not options.keep_parent in
    or_left ((((few || incomparable) || member) || implied) || constant) parent
    (or_left (((few || incomparable) || member) || implied) constant
    (or_left ((few || incomparable) || member) implied
    (or_right (few || incomparable) member (and_from f.member (not options.keep_members) m (ap not o)))))

drops-by-constant : (options : Options) (f : Facts) → f.constant ≡ true → options.keep_constant ≡ false → drops options f ≡ true
drops-by-constant options f c o =
    let few = f.few in
    let incomparable = f.incomparable && not options.keep_incomparable in
    let member = f.member && not options.keep_members in
    let implied = f.implied && not options.keep_implied in
    let constant = f.constant && not options.keep_constant in
    let parent = f.parent && not options.keep_parent in
    or_left ((((few || incomparable) || member) || implied) || constant) parent
    (or_right (((few || incomparable) || member) || implied) constant (and_from f.constant (not options.keep_constant) c (ap not o)))

drops-by-few : (options : Options) (f : Facts) → f.few ≡ true → drops options f ≡ true
drops-by-few options f h =
    let few = f.few in
    let incomparable = f.incomparable && not options.keep_incomparable in
    let member = f.member && not options.keep_members in
    let implied = f.implied && not options.keep_implied in
    let constant = f.constant && not options.keep_constant in
    let parent = f.parent && not options.keep_parent in
    or_left ((((few || incomparable) || member) || implied) || constant) parent
    (or_left (((few || incomparable) || member) || implied) constant
    (or_left ((few || incomparable) || member) implied (or_left (few || incomparable) member (or_left few incomparable h))))

any_in : (q : VarId → Bool) (v : VarId) (vars : List VarId) → IsIn v vars → q v ≡ true → list_any q vars ≡ true
any_in q v [] i h = absurd i
any_in q v (w ∷ vars) (inl e) h = or_left (q w) (list_any q vars) (ap q (sym e) ∙ h)
any_in q v (w ∷ vars) (inr i) h = or_right (q w) (list_any q vars) (any_in q v vars i h)

pub no-equality : (first : VarId → VarId) (row : RowId) (vars : List VarId) → is_equality row ≡ false → tells_member_by first row vars ≡ false
no-equality first row [] h = refl
no-equality first row (v ∷ []) h = refl
no-equality first row (v ∷ w ∷ []) h = and_left (is_equality row) ((first w).0 == v.0) h
no-equality first row (v ∷ w ∷ x ∷ vars) h = refl

module _ (options : Options) (here : Answers) (parents : List Parent) where
  -- what isn't listed gives nothing
  pub unlisted : (row : RowId) (vars : List VarId) → is_listed options here parents row vars ≡ false → listed_candidates options here parents row vars ≡ []
  unfolding listed_candidates
  unlisted row vars h = ap (λ b. if b then candidate_of options.least here parents (row, vars) ∷ [] else []) h

  pub unadmitted : (row : RowId) (vars : List VarId) → admits row here.infos vars ≡ false → listed_candidates options here parents row vars ≡ []
  unadmitted row vars h =
      unlisted row vars (and_left (is_asked here.infos row vars) (it_holds here (row, vars) && keeps options (candidate_of options.least here parents (row, vars)))
      (and_left (admits row here.infos vars) (is_written row vars && are_distinct vars) h))

  dropped : (row : RowId) (vars : List VarId) → drops options (facts_of options.least here parents row vars) ≡ true → listed_candidates options here parents row vars ≡ []
  dropped row vars h =
      unlisted row vars (and_right (is_asked here.infos row vars) (it_holds here (row, vars) && keeps options (candidate_of options.least here parents (row, vars)))
      (and_right (it_holds here (row, vars)) (keeps options (candidate_of options.least here parents (row, vars))) (ap not h)))

  -- what is in few samples isn't kept, so nothing is over a variable that is
  pub passed-few : (row : RowId) (vars : List VarId) → has_few_samples options.least here vars ≡ true → listed_candidates options here parents row vars ≡ []
  unfolding facts_of
  passed-few row vars h = dropped row vars (drops-by-few options (facts_of options.least here parents row vars) h)

  pub passed-scarce : CountsFall here → (row : RowId) (vars : List VarId) (v : VarId) → IsIn v vars → nat_le options.least (here.counted (v ∷ [])) ≡ false
      → listed_candidates options here parents row vars ≡ []
  passed-scarce falls row vars v i h =
      let few = leb-false options.least (here.counted (v ∷ [])) h in
      let fewer = falls vars v i in
      passed-few row vars (lt-ltb (here.counted vars) options.least (omega (arith, few, fewer)))

  abbrev first : VarId → VarId
  first = first_in (found_of here parents).firsts

  abbrev one_value : VarId → Bool
  one_value = one_value_in (found_of here parents).one_values

  module _ (row : RowId) (vars : List VarId) (v : VarId) (i : IsIn v vars) (tells : tells_member_by first row vars ≡ false) (admitted : admits row here.infos vars ≡ true) where
    passed-member : options.keep_members ≡ false → ((first v).0 == v.0) ≡ false → drops options (facts_of options.least here parents row vars) ≡ true
    unfolding facts_of
    passed-member o h =
        drops-by-member options (facts_of options.least here parents row vars)
        (sym (members_found here row vars (admitted-there here.infos row vars admitted))
        ∙ and_from (not (tells_member_by first row vars)) (list_any (λ w. not ((first w).0 == w.0)) vars) (ap not tells) (any_in (λ w. not ((first w).0 == w.0)) v vars i (ap not h))) o

    passed-constant : options.keep_constant ≡ false → nat_lt 1 (length vars) ≡ true → one_value v ≡ true → drops options (facts_of options.least here parents row vars) ≡ true
    unfolding facts_of
    passed-constant o several h =
        drops-by-constant options (facts_of options.least here parents row vars)
        (sym (constants_found here row vars (admitted-there here.infos row vars admitted))
        ∙ and_from (nat_lt 1 (length vars)) (not (tells_member_by first row vars) && list_any one_value vars) several
        (and_from (not (tells_member_by first row vars)) (list_any one_value vars) (ap not tells) (any_in one_value v vars i h))) o

    passed-at : may_stand options (found_of here parents) (nat_lt 1 (length vars)) v ≡ false → listed_candidates options here parents row vars ≡ []
    passed-at h =
        let member = options.keep_members || (first v).0 == v.0 in
        let constant = options.keep_constant || not (nat_lt 1 (length vars) && one_value v) in
        elim (and_cases member constant h) as (λ _. listed_candidates options here parents row vars ≡ []) [
          | inl a ↦ (let p = or_parts options.keep_members ((first v).0 == v.0) a in dropped row vars (passed-member p.0 p.1))
          | inr b ↦
              (let p = or_parts options.keep_constant (not (nat_lt 1 (length vars) && one_value v)) b in
              let q = and_parts (nat_lt 1 (length vars)) (one_value v) (not-false (nat_lt 1 (length vars) && one_value v) p.1) in
              dropped row vars (passed-constant p.0 q.0 q.1))
        ]

  -- an instance over a variable that is passed over isn't kept
  pub passed : (row : RowId) (vars : List VarId) (v : VarId) → IsIn v vars → tells_member_by first row vars ≡ false
      → may_stand options (found_of here parents) (nat_lt 1 (length vars)) v ≡ false → listed_candidates options here parents row vars ≡ []
  passed row vars v i tells h = elim (cases_Bool (admits row here.infos vars)) as (λ _. listed_candidates options here parents row vars ≡ []) [
    | inl admitted ↦ passed-at row vars v i tells admitted h
    | inr not_admitted ↦ unadmitted row vars not_admitted
  ]

  -- ---- equalities
  -- a variable of the point is told of as itself or as the first of those like it
  first-there : (w : VarId) → w.0 < length here.infos → has (found_of here parents).firsts (first w) ≡ true
  first-there w l =
      let firsts = (found_of here parents).firsts in
      let long = length-map (all_vars here.infos) (first_like here) in
      let many = length-map-range_with_len var 0 (length here.infos) in
      let within : w.0 < length firsts = omega (arith, l, long, many) in
      any_in (λ (u : VarId). u.0 == (first w).0) (first w) firsts (is_in (first w) firsts w.0 within (get_or_default firsts w.0 (first w) w within)) (eq-eqb (first w).0 (first w).0 refl)

  module _ (row : RowId) (v w : VarId) where
    abbrev pair : List VarId
    pair = v ∷ w ∷ []

    -- where members are dropped, the equality of a variable with another of which it isn't the first is kept only if both are firsts
    unequal-told : options.keep_members ≡ false → ((first w).0 == v.0) ≡ false → (u : VarId) → IsIn u pair → ((first u).0 == u.0) ≡ false → listed_candidates options here parents row pair ≡ []
    unequal-told o differs u i h =
        passed row pair u i (and_right (is_equality row) ((first w).0 == v.0) differs)
        (and_left (options.keep_members || (first u).0 == u.0) (options.keep_constant || not (nat_lt 1 (length pair) && one_value u)) (or_from options.keep_members ((first u).0 == u.0) o h))

    pub unequal : may_equal options (found_of here parents) v w ≡ false → listed_candidates options here parents row pair ≡ []
    unequal h =
        let both = (first v).0 == v.0 && (first w).0 == w.0 in
        let a = or_parts options.keep_members ((first w).0 == v.0 || both) h in
        let b = or_parts ((first w).0 == v.0) both a.1 in
        elim (and_cases ((first v).0 == v.0) ((first w).0 == w.0) b.1) as (λ _. listed_candidates options here parents row pair ≡ []) [
          | inl gone ↦ unequal-told a.0 b.0 v (inl refl) gone
          | inr gone ↦ unequal-told a.0 b.0 w (inr (inl refl)) gone
        ]

    unled-admitted : admits row here.infos pair ≡ true → may_lead options (found_of here parents) v ≡ false → listed_candidates options here parents row pair ≡ []
    unled-admitted admitted h =
        let a = or_parts options.keep_members (has (found_of here parents).firsts v) h in
        let there = admitted-there here.infos row pair admitted in
        let of-others : (u : VarId) → u.0 < length here.infos → ((first u).0 == v.0) ≡ false = λ u l.
        elim (cases_Bool ((first u).0 == v.0)) as (λ _. ((first u).0 == v.0) ≡ false) [
          | inl same ↦
              absurd (false≢true (sym a.1 ∙ (ap (λ (n : ℕ). has (found_of here parents).firsts (var n)) (sym (eqb-true (first u).0 v.0 same)) ∙ first-there u l)))
          | inr differs ↦ differs
        ] in
        unequal-told a.0 (of-others w (there 1 w (omega arith))) v (inl refl) (of-others v (there 0 v (omega arith)))

    -- no equality is kept of a variable that is the first of none
    pub unled : may_lead options (found_of here parents) v ≡ false → listed_candidates options here parents row pair ≡ []
    unled h = elim (cases_Bool (admits row here.infos pair)) as (λ _. listed_candidates options here parents row pair ≡ []) [
      | inl admitted ↦ unled-admitted admitted h
      | inr not_admitted ↦ unadmitted row pair not_admitted
    ]
