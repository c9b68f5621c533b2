-- Facts look at nothing but what may be asked.
use Rattle.std.specs.Prelude.{◌≡◌, ◌<◌, ◌≤◌, ◌+◌, ◌&&◌, ◌==◌, ℕ, zero, suc, nat_lt, Bool, true, false, not, All, IsTrue, List, [], ◌∷◌, filter, length, map, slice_get, slice_index_or, zip, Option, Some, None, unwrap_or, refl}
use Rattle.std.specs.List.{AllZip, list_all, list_any, range_with_len}
use Rattle.std.specs.Option.{option_map_or}
use Rattle.std.proofs.Common.{◌∙◌, ap, arith, sym, subst}
use Rattle.std.proofs.lemmas.Bool.{and_from, and_parts, eqb-true, false≢true}
use Rattle.std.proofs.lemmas.List.Elements.{All-cons, All-filter, All-head, All-map, All-nil, All-tail, filter_passes}
use Rattle.dk_base.specs.Shapes.{is_base_form}
use Rattle.dk_base.specs.declared.kinds.Kind.{Kind}
use Rattle.dk_base.specs.declared.kinds.Kind.TheVariants as kind
use Rattle.dk_base.specs.declared.kinds.VarId.{VarId}
use Rattle.dk_base.specs.declared.kinds.VarInfo.{VarInfo}
use Rattle.dk_instances.specs.Instances.{all_vars, are_distinct}
use Rattle.dk_template.specs.Admitted.{admits, suits}
use Rattle.dk_forms.specs.declared.states.State.{State}
use Rattle.dk_points.specs.Sameness.{same_compar}
use Rattle.dk_suppress.proofs.Usable.{premises_usable}
use Rattle.dk_suppress.specs.Rules.{Rule, is_suppressed, rules}
use Rattle.dk_template.specs.Premises.{AreThere, IsUsable, premise_fits, row_of, suffices, vars_of}
use Rattle.dk_template.specs.Templates.{IsRowOf, roles_of, rows, template_of}
use Rattle.dk_template.specs.Fitting.{fits}
use Rattle.dk_template.specs.declared.answers.Premise.{Premise}
use Rattle.dk_template.specs.declared.grammar.Grammar.{Grammar}
use Rattle.dk_template.specs.declared.grammar.RowId.{RowId}
use Rattle.dk_template.specs.declared.templates.Role.{Role}
use Rattle.dk_template.specs.declared.templates.Takes.{Takes}
use Rattle.dk_template.specs.declared.templates.Takes.TheVariants.{One, Two, Three}
use Rattle.dk_filters.specs.Answers.{Answers, Parent}
use Rattle.dk_filters.proofs.Firsts.{constant-same, member-same}
use Rattle.dk_filters.proofs.Lists.{all-flat_map, all-same, and-same, any-same, find-same, get-at}
use Rattle.dk_filters.proofs.OneValues.{suits-any}
use Rattle.dk_filters.proofs.Sharper.{IsAsked, row-of, same-row, same-takes, sharper-asked, sums-usable}
use Rattle.dk_filters.specs.Facts.{are_alike, compar_of_var, each_in_front, facts_of, first_like, has_few_samples, has_one_value, has_partner, has_sharper, info_at, is_constant_instance, is_further_member, is_implied, is_incomparable, is_one_value, is_sum_plane, one_of_row_for, row_of_number, sharper_than, stands_there, sum_of, with_partners}
use Rattle.dk_filters.specs.Sameness.{same_state}
use Rattle.dk_filters.specs.Laws.{FactsAreOfWhatMayBeAsked, PartnersAreLike, ShowTheSame}

-- ---- variables that are there
in-range : (a n : ℕ) → All (λ k. k < a + n) (range_with_len a n)
in-range a zero = All-nil (λ k. k < a + 0)
in-range a (suc n) =
    All-cons (λ k. k < a + suc n) a (range_with_len (a + 1) n) (omega arith)
    (λ i d lt. let next : slice_index_or (range_with_len (a + 1) n) i d < (a + 1) + n = in-range (a + 1) n i d lt in omega (arith, next))

pub all-there : (infos : List VarInfo) → All (λ (v : VarId). v.0 < length infos) (all_vars infos)
all-there infos = All-map (λ (v : VarId). v.0 < length infos) (λ n. record { 0 = n }) (range_with_len 0 (length infos)) (λ i d lt. let within = in-range 0 (length infos) i d lt in omega (arith, within))

there-if-suits : (role : Role) (infos : List VarInfo) (i : ℕ) → suits role (slice_get infos i) ≡ true → i < length infos
there-if-suits role [] i h = absurd (false≢true h)
there-if-suits role (x ∷ infos) zero h = omega arith
there-if-suits role (x ∷ infos) (suc i) h = let rest = there-if-suits role infos i h in omega (arith, rest)

module _ (infos : List VarInfo) where
  abbrev is_suited : Role × VarId → Bool
  is_suited p = suits p.0 (slice_get infos p.1.0)

  there-by-roles : (roles : List Role) (vars : List VarId) → length vars ≡ length roles → list_all is_suited (zip roles vars) ≡ true → AreThere infos vars
  there-by-roles roles [] long h = All-nil (λ (v : VarId). v.0 < length infos)
  there-by-roles [] (v ∷ vars) long h = absurd (omega (arith, long))
  there-by-roles (role ∷ roles) (v ∷ vars) long h =
      let hs = and_parts (is_suited (role, v)) (list_all is_suited (zip roles vars)) h in
      All-cons (λ (w : VarId). w.0 < length infos) v vars (there-if-suits role infos v.0 hs.0) (there-by-roles roles vars (omega (arith, long)) hs.1)

  pub admitted-there : (row : RowId) (vars : List VarId) → admits row infos vars ≡ true → AreThere infos vars
  admitted-there row vars h =
      let roles = roles_of (template_of row).takes in
      let hs = and_parts (length vars == length roles) (list_all is_suited (zip roles vars)) h in
      there-by-roles roles vars (eqb-true (length vars) (length roles) hs.0) hs.1

pub three-roles : (takes : Takes) → length (roles_of takes) ≤ 3
three-roles (One a) = omega arith
three-roles (Two a b) = omega arith
three-roles (Three a b c) = omega arith

pub few-vars : (infos : List VarInfo) (row : RowId) (vars : List VarId) → admits row infos vars ≡ true → length vars ≤ 3
few-vars infos row vars h =
    let roles = roles_of (template_of row).takes in
    let hs = and_parts (length vars == length roles) (list_all (is_suited infos) (zip roles vars)) h in
    let long : length vars ≡ length roles = eqb-true (length vars) (length roles) hs.0 in
    let three : length roles ≤ 3 = three-roles (template_of row).takes in
    omega (arith, long, three)

-- ---- facts
module _ (g : Grammar) (infos : List VarInfo) (A B : RowId → List VarId → State) (C D : List VarId → ℕ) (G H : VarId → VarId → Bool)
    (answered : (row : RowId) → IsRowOf g row → (vars : List VarId) → IsTrue (admits row infos vars) → A row vars ≡ B row vars)
    (counted : (vars : List VarId) → length vars ≤ 3 → AreThere infos vars → C vars ≡ D vars)
    (agreeing : (v w : VarId) → v.0 < length infos → w.0 < length infos → G v w ≡ H v w)
  where
    abbrev a : Answers
    a = record { infos = infos; answered = A; counted = C; agreeing = G }

    abbrev b : Answers
    b = record { infos = infos; answered = B; counted = D; agreeing = H }

    few : (least : ℕ) (row : RowId) (vars : List VarId) → admits row infos vars ≡ true → has_few_samples least a vars ≡ has_few_samples least b vars
    few least row vars h = ap (λ n. nat_lt n least) (counted vars (few-vars infos row vars h) (admitted-there infos row vars h))

    first : (v : VarId) → v.0 < length infos → first_like a v ≡ first_like b v
    first v within =
        ap (λ found. unwrap_or found v)
        (find-same (λ (w : VarId). w.0 < length infos) (are_alike a v) (are_alike b v)
        (λ w there. ap (λ t. t && same_compar (compar_of_var infos w) (compar_of_var infos v)) (agreeing w v there within)) (all_vars infos) (all-there infos))

    abbrev Within : VarId → Type 0
    Within v = v.0 < length infos

    member : (row : RowId) (vars : List VarId) → AreThere infos vars → is_further_member a row vars ≡ is_further_member b row vars
    member row vars there = member-same (first_like a) (first_like b) Within first row vars there

    -- ---- implied
    premise : (p : Premise) (vars : List VarId) → IsUsable g infos p vars → premise_fits A p vars ≡ premise_fits B p vars
    premise p vars usable = ap (suffices p) (answered (row_of p) usable.row (vars_of p vars) usable.admitted)

    suppressed : (row : RowId) (vars : List VarId) → admits row infos vars ≡ true → is_suppressed A row vars ≡ is_suppressed B row vars
    suppressed row vars h =
        any-same (λ (r : Rule). IsTrue (admits r.0 infos vars) → All (λ p. IsUsable g infos p vars) r.1)
        (λ (r : Rule). r.0.0 == row.0 && list_all (λ p. premise_fits A p vars) r.1) (λ (r : Rule). r.0.0 == row.0 && list_all (λ p. premise_fits B p vars) r.1)
        (λ (r : Rule) usable. and-same (r.0.0 == row.0) (list_all (λ p. premise_fits A p vars) r.1) (list_all (λ p. premise_fits B p vars) r.1)
        (λ is. all-same (λ p. IsUsable g infos p vars) (λ p. premise_fits A p vars) (λ p. premise_fits B p vars) (λ p u. premise p vars u) r.1
        (usable (subst (λ (s : RowId). admits s infos vars ≡ true) (sym (same-row r.0 row is)) h)))) rules (premises_usable g infos vars)

    -- a row that says more
    sharper-same : (r : RowId) (vars : List VarId) → admits r infos vars ≡ true → (o : Option RowId) → IsAsked g r o
        → option_map_or (λ s. fits (A s vars)) o false ≡ option_map_or (λ s. fits (B s vars)) o false
    sharper-same r vars h None asked = refl
    sharper-same r vars h (Some s) asked = ap fits (answered s asked.0 vars (same-takes infos r s vars asked.1.takes h))

    has-sharper : (r : RowId) (vars : List VarId) → admits r infos vars ≡ true → has_sharper a r vars ≡ has_sharper b r vars
    has-sharper r vars h = sharper-same r vars h (sharper_than r) (sharper-asked g r)

    sum-plane : (r : RowId) (vars : List VarId) → admits r infos vars ≡ true → is_sum_plane a r vars ≡ is_sum_plane b r vars
    sum-plane r vars h =
        and-same (r.0 == 67) (list_any (λ roles. premise_fits A (sum_of roles) vars) each_in_front) (list_any (λ roles. premise_fits B (sum_of roles) vars) each_in_front)
        (λ is. any-same (λ roles. IsUsable g infos (sum_of roles) vars) (λ roles. premise_fits A (sum_of roles) vars) (λ roles. premise_fits B (sum_of roles) vars)
        (λ roles u. premise (sum_of roles) vars u) each_in_front (sums-usable g infos vars (subst (λ (s : RowId). admits s infos vars ≡ true) (same-row r (row_of_number 67) is) h)))

    implied : (r : RowId) (vars : List VarId) → admits r infos vars ≡ true → is_implied a r vars ≡ is_implied b r vars
    implied r vars h = rw (suppressed r vars h, has-sharper r vars h, sum-plane r vars h) refl

    -- ---- constant
    one-value : (v : VarId) → v.0 < length infos → (k : Kind) → (info_at infos v).kind ≡ k
        → option_map_or (λ r. is_one_value (A r (v ∷ []))) (one_of_row_for k) false ≡ option_map_or (λ r. is_one_value (B r (v ∷ []))) (one_of_row_for k) false
    unfolding rows
    one-value v within kind.Int is = ap is_one_value (answered (row_of_number 1) (row-of g 1 (omega arith) (omega arith)) (v ∷ []) (ap (λ t. t && true) (suits-any infos v within kind.Int is)))
    one-value v within kind.Bool is = ap is_one_value (answered (row_of_number 6) (row-of g 6 (omega arith) (omega arith)) (v ∷ []) (ap (λ t. t && true) (suits-any infos v within kind.Bool is)))
    one-value v within kind.Hash is = ap is_one_value (answered (row_of_number 7) (row-of g 7 (omega arith) (omega arith)) (v ∷ []) (ap (λ t. t && true) (suits-any infos v within kind.Hash is)))
    one-value v within kind.Str is = ap is_one_value (answered (row_of_number 9) (row-of g 9 (omega arith) (omega arith)) (v ∷ []) (ap (λ t. t && true) (suits-any infos v within kind.Str is)))
    one-value v within kind.BoolSeq is = refl
    one-value v within kind.IntSeq is = refl
    one-value v within kind.HashSeq is = refl
    one-value v within kind.StrSeq is = refl

    constant : (r : RowId) (vars : List VarId) → AreThere infos vars → is_constant_instance a r vars ≡ is_constant_instance b r vars
    constant r vars there =
        constant-same (first_like a) (first_like b) Within first (has_one_value a) (has_one_value b) (λ v within. one-value v within (info_at infos v).kind refl) r vars there

-- ---- parent
suits-like : (role : Role) (x y : VarInfo) → y.kind ≡ x.kind → is_base_form y.form ≡ is_base_form x.form → suits role (Some x) ≡ true → suits role (Some y) ≡ true
suits-like role x y kind base h = rw (kind, base) h

-- role by role: the parent's variable is there, and has this partner
abbrev pub IsPartner : Parent → VarId → VarId → Type 0
IsPartner p v w = (w.0 < length p.answers.infos) × (has_partner p v w ≡ true)

pub ways : (p : Parent) (vars : List VarId) → All (AllZip (IsPartner p) vars) (with_partners p vars)
ways p [] = All-cons (AllZip (IsPartner p) []) [] [] tt (All-nil (AllZip (IsPartner p) []))
ways p (v ∷ vars) =
    all-flat_map (IsPartner p v) (AllZip (IsPartner p) (v ∷ vars)) (λ w. map (λ more. w ∷ more) (with_partners p vars))
    (λ w is. All-map (AllZip (IsPartner p) (v ∷ vars)) (λ more. w ∷ more) (with_partners p vars) (λ i d lt. (is, ways p vars i d lt)))
    (filter (has_partner p v) (all_vars p.answers.infos))
    (λ i d lt. (
      All-filter (has_partner p v) (λ (w : VarId). w.0 < length p.answers.infos) (all_vars p.answers.infos) (all-there p.answers.infos) i d lt,
      filter_passes (has_partner p v) (all_vars p.answers.infos) i d lt,
    ))

module _ (infos : List VarInfo) (p : Parent) (like : PartnersAreLike infos p) where
  suit-there : (roles : List Role) (vars there : List VarId) → AreThere infos vars → AllZip (IsPartner p) vars there
      → list_all (is_suited infos) (zip roles vars) ≡ true → list_all (is_suited p.answers.infos) (zip roles there) ≡ true
  suit-there [] vars there within are h = refl
  suit-there (role ∷ roles) [] [] within are h = refl
  suit-there (role ∷ roles) [] (w ∷ there) within are h = absurd are
  suit-there (role ∷ roles) (v ∷ vars) [] within are h = absurd are
  suit-there (role ∷ roles) (v ∷ vars) (w ∷ there) within are h =
      let hs = and_parts (is_suited infos (role, v)) (list_all (is_suited infos) (zip roles vars)) h in
      let Within : VarId → Type 0 = λ u. u.0 < length infos in
      let v-there : v.0 < length infos = All-head Within v vars within in
      let alike = like v w v-there are.0.0 are.0.1 in
      let here : suits role (Some (info_at infos v)) ≡ true = ap (suits role) (sym (get-at infos v.0 (info_at [] v) v-there)) ∙ hs.0 in
      and_from (is_suited p.answers.infos (role, w)) (list_all (is_suited p.answers.infos) (zip roles there))
      (ap (suits role) (get-at p.answers.infos w.0 (info_at [] w) are.0.0) ∙ suits-like role (info_at infos v) (info_at p.answers.infos w) alike.0 alike.1 here)
      (suit-there roles vars there (All-tail Within v vars within) are.1 hs.1)

  zip-long : (vars there : List VarId) → AllZip (IsPartner p) vars there → length there ≡ length vars
  zip-long [] [] are = refl
  zip-long [] (w ∷ there) are = absurd are
  zip-long (v ∷ vars) [] are = absurd are
  zip-long (v ∷ vars) (w ∷ there) are = let rest = zip-long vars there are.1 in omega (arith, rest)

  pub admitted-at-parent : (r : RowId) (vars : List VarId) → admits r infos vars ≡ true → (there : List VarId) → AllZip (IsPartner p) vars there → admits r p.answers.infos there ≡ true
  admitted-at-parent r vars h there are =
      let roles = roles_of (template_of r).takes in
      let hs = and_parts (length vars == length roles) (list_all (is_suited infos) (zip roles vars)) h in
      and_from (length there == length roles) (list_all (is_suited p.answers.infos) (zip roles there))
      (ap (λ n. n == length roles) (zip-long vars there are) ∙ hs.0) (suit-there roles vars there (admitted-there infos r vars h) are hs.1)

-- a parent that tells by other functions
abbrev with_functions : Parent → (RowId → List VarId → State) → (List VarId → ℕ) → (VarId → VarId → Bool) → Parent
with_functions p B D H = record { answers = record { infos = p.answers.infos; answered = B; counted = D; agreeing = H }; partners = p.partners }

-- whether variables of the parent with these partners have the state there
abbrev at_one : Parent → RowId → State → List VarId → Bool
at_one p r s vars = list_any (stands_there p.answers r s) (with_partners p vars)

module _ (g : Grammar) (infos : List VarInfo) (r : RowId) (is : IsRowOf g r) (vars : List VarId) (h : admits r infos vars ≡ true) where
  same-functions : (p : Parent) → PartnersAreLike infos p → (B : RowId → List VarId → State) (D : List VarId → ℕ) (H : VarId → VarId → Bool)
      → ((row : RowId) → IsRowOf g row → (vs : List VarId) → IsTrue (admits row p.answers.infos vs) → p.answers.answered row vs ≡ B row vs)
      → (s : State) → at_one p r s vars ≡ at_one (with_functions p B D H) r s vars
  same-functions p like B D H answered s =
      any-same (AllZip (IsPartner p) vars) (stands_there p.answers r s) (stands_there (with_functions p B D H).answers r s)
      (λ there are. ap (λ t. are_distinct there && (same_state s t && not (is_incomparable p.answers.infos there)))
      (answered r is there (admitted-at-parent infos p like r vars h there are))) (with_partners p vars) (ways p vars)

  -- two that show the same
  same-parent : (p q : Parent) → ShowTheSame g infos p q → (s : State) → at_one p r s vars ≡ at_one q r s vars
  same-parent p q show s =
      let B = q.answers.answered in
      let D = q.answers.counted in
      let H = q.answers.agreeing in
      let infos-same : with_functions p B D H ≡ record { answers = q.answers; partners = p.partners } =
      ap (λ x. record { answers = record { infos = x; answered = B; counted = D; agreeing = H }; partners = p.partners }) show.answers.infos in
      let partners-same : record { answers = q.answers; partners = p.partners } ≡ q = ap (λ x. record { answers = q.answers; partners = x }) show.partners in
      same-functions p show.alike B D H show.answers.answered s ∙ ap (λ (x : Parent). at_one x r s vars) (infos-same ∙ partners-same)

  same-parents : (ps qs : List Parent) → AllZip (ShowTheSame g infos) ps qs → (s : State) → list_any (λ p. at_one p r s vars) ps ≡ list_any (λ q. at_one q r s vars) qs
  same-parents [] [] all s = refl
  same-parents [] (q ∷ qs) all s = absurd all
  same-parents (p ∷ ps) [] all s = absurd all
  same-parents (p ∷ ps) (q ∷ qs) all s = rw (same-parent p q all.0 s, same-parents ps qs all.1 s) refl

-- ---- all six
module _ (g : Grammar) (infos : List VarInfo) (A B : RowId → List VarId → State) (C D : List VarId → ℕ) (G H : VarId → VarId → Bool)
    (answered : (row : RowId) → IsRowOf g row → (vars : List VarId) → IsTrue (admits row infos vars) → A row vars ≡ B row vars)
    (counted : (vars : List VarId) → length vars ≤ 3 → AreThere infos vars → C vars ≡ D vars)
    (agreeing : (v w : VarId) → v.0 < length infos → w.0 < length infos → G v w ≡ H v w)
  where
    facts-same : (ps qs : List Parent) → AllZip (ShowTheSame g infos) ps qs → (least : ℕ) (r : RowId) → IsRowOf g r → (vars : List VarId) → admits r infos vars ≡ true
        → facts_of least (record { infos = infos; answered = A; counted = C; agreeing = G }) ps r vars ≡ facts_of least (record { infos = infos; answered = B; counted = D; agreeing = H }) qs r vars
    unfolding facts_of
    facts-same ps qs all least r is vars h =
        let there = admitted-there infos r vars h in
        rw (
          few g infos A B C D G H answered counted agreeing least r vars h,
          member g infos A B C D G H answered counted agreeing r vars there,
          implied g infos A B C D G H answered counted agreeing r vars h,
          constant g infos A B C D G H answered counted agreeing r vars there,
          answered r is vars h,
          same-parents g infos r is vars h ps qs all (B r vars),
        ) refl

pub facts_are_of_what_may_be_asked : FactsAreOfWhatMayBeAsked
facts_are_of_what_may_be_asked g a b tell ps qs all least r is vars h =
    facts-same g a.infos a.answered b.answered a.counted b.counted a.agreeing b.agreeing tell.answered tell.counted tell.agreeing ps qs all least r is vars h
    ∙ ap (λ x. facts_of least (record { infos = x; answered = b.answered; counted = b.counted; agreeing = b.agreeing }) qs r vars) tell.infos
