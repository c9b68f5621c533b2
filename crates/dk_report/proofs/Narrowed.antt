-- Rows that are asked about only where something is kept of them list the same.
use Rattle.std.specs.Prelude.{◌≡◌, ◌<◌, ◌&&◌, ◌||◌, ◌==◌, nat_lt, ℕ, Bool, true, false, not, Contains, List, [], ◌∷◌, filter, flat_map, if◌then◌else◌, length, map, refl, slice_get, zip}
use Rattle.std.specs.List.{AllPairs, AllZip, list_all, list_any, range_with_len}
use Rattle.std.proofs.Common.{◌∙◌, ap, arith, get_or, inl, inr, subst, sym}
use Rattle.std.proofs.lemmas.Bool.{and_from, and_left, and_parts, and_right, cases_Bool, eq-eqb, eqb-false, eqb-true, false≢true, lt-ltb, not-true, or_from, or_left, or_parts, or_right}
use Rattle.std.proofs.lemmas.List.Elements.{All-contains_itself}
use Rattle.std.proofs.lemmas.List.Folds.{flat_map-map}
use Rattle.dk_base.specs.declared.kinds.VarId.{VarId}
use Rattle.dk_base.specs.declared.kinds.VarInfo.{VarInfo}
use Rattle.dk_base.specs.declared.values.Value.{Value}
use Rattle.dk_classes.proofs.OwnLeaders.{leads_from_own}
use Rattle.dk_classes.specs.Leaders.{leader_at, own_leaders}
use Rattle.dk_engine.specs.Exact.{IsKeptOf, SlotBefore}
use Rattle.dk_engine.specs.Reading.Parts.{all_known}
use Rattle.dk_engine.specs.declared.kept.Kept.{Kept}
use Rattle.dk_engine.specs.declared.slots.slot.Slot.{Slot}
use Rattle.dk_filters.proofs.Asked.{admitted-there, facts_are_of_what_may_be_asked}
use Rattle.dk_filters.specs.Answers.{Answers, Parent}
use Rattle.dk_filters.specs.Candidates.{candidate_of, it_holds}
use Rattle.dk_filters.specs.Facts.{facts_of, has_sharper, is_equality, is_sum_plane}
use Rattle.dk_filters.specs.Found.{first_in, found_of}
use Rattle.dk_filters.specs.Laws.{ShowTheSame, TellTheSame}
use Rattle.dk_filters.specs.OfSamples.{answers_of}
use Rattle.dk_filters.specs.declared.candidate.Candidate.{Candidate}
use Rattle.dk_filters.specs.declared.facts.Facts.{Facts}
use Rattle.dk_forms.specs.Laws.{IsIn}
use Rattle.dk_instances.proofs.Ascending.{along, ascend_from_pairs, kept as kept_ascend, numbers, pairs, tuples as tuples_ascend, weaker}
use Rattle.dk_instances.proofs.Listing.{in_tuples, of_tuples}
use Rattle.dk_instances.proofs.Members.{contained, in_filter, in_map, is_in, of_filter, of_map}
use Rattle.dk_instances.specs.Fits.{fit}
use Rattle.dk_instances.specs.Instances.{ComesBefore, Precedes, all_vars, are_distinct, is_asked, tuples_over}
use Rattle.dk_presence.proofs.Refining.{contains-has}
use Rattle.dk_presence.specs.Patterns.{has}
use Rattle.dk_samples.proofs.Members.{same_members}
use Rattle.dk_suppress.specs.Rules.{is_suppressed}
use Rattle.dk_suppress.specs.Soundness.{fit_of}
use Rattle.dk_template.proofs.WrittenTuples.{admitted_arity}
use Rattle.dk_template.specs.Admitted.{admits, is_written, suit, suits}
use Rattle.dk_template.specs.Fitting.{fits}
use Rattle.dk_template.specs.Templates.{IsRowOf, arity_of, roles_of, template_of}
use Rattle.dk_template.specs.declared.grammar.Grammar.{Grammar}
use Rattle.dk_template.specs.declared.grammar.RowId.{RowId}
use Rattle.dk_template.specs.declared.templates.Role.{Role}
use Rattle.dk_report.proofs.Falling.{CountsFall}
use Rattle.dk_report.proofs.FlatMaps.{flat_map-filter}
use Rattle.dk_report.proofs.Leaders.{Before, all-in}
use Rattle.dk_report.proofs.Left.{AllLead, fixed-at, in-row, left, slot_is}
use Rattle.dk_report.proofs.Passing.{no-equality, passed, unlisted}
use Rattle.dk_report.proofs.Rows.{enough_vars, is_enough, of_takes, over_all, over_lists, over_standing, scarce_fails, some-role, standing_vars, twice_suffices}
use Rattle.dk_report.proofs.SlotsCount.{Place, before-one-way, place_of}
use Rattle.dk_report.specs.Keeping.{drops, keeps}
use Rattle.dk_report.specs.Listing.{is_listed, listed_candidates, listed_candidates_of_row, may_lead, may_stand}
use Rattle.dk_report.specs.Narrowing.{all_lead, is_fixed, is_left, is_narrow, is_of_row, lacks_role, suits_none}
use Rattle.dk_report.specs.declared.options.Options.{Options}

-- ---- tests of lists
all-of : {X : Type 0} (q : X → Bool) (x : X) (xs : List X) → IsIn x xs → list_all q xs ≡ true → q x ≡ true
all-of q x [] i h = absurd i
all-of q x (y ∷ xs) (inl e) h = ap q e ∙ (and_parts (q y) (list_all q xs) h).0
all-of q x (y ∷ xs) (inr i) h = all-of q x xs i (and_parts (q y) (list_all q xs) h).1

any-in-list : (q : VarId → Bool) (v : VarId) (vars : List VarId) → IsIn v vars → q v ≡ true → list_any q vars ≡ true
any-in-list q v [] i h = absurd i
any-in-list q v (w ∷ vars) (inl e) h = or_left (q w) (list_any q vars) (ap q (sym e) ∙ h)
any-in-list q v (w ∷ vars) (inr i) h = or_right (q w) (list_any q vars) (any-in-list q v vars i h)

-- variables that suit the roles leave none of the roles without one
none-lacks : (infos : List VarInfo) (of : List VarId) (roles : List Role) (vars : List VarId) → suit roles infos vars ≡ true → ((v : VarId) → IsIn v vars → IsIn v of)
    → list_any (suits_none infos of) roles ≡ false
none-lacks infos of [] vars h within = refl
none-lacks infos of (role ∷ roles) [] h within =
    let none : List VarId = [] in
    let long = eqb-true (length none) (length (role ∷ roles)) (and_parts (length none == length (role ∷ roles)) (list_all (λ (p : Role × VarId). suits p.0 (slice_get infos p.1.0)) (zip (role ∷ roles) none)) h).0 in
    absurd (omega (arith, long))
none-lacks infos of (role ∷ roles) (v ∷ vars) h within =
    let fit-in = and_parts (length (v ∷ vars) == length (role ∷ roles)) (list_all (λ (p : Role × VarId). suits p.0 (slice_get infos p.1.0)) (zip (role ∷ roles) (v ∷ vars))) h in
    let long = eqb-true (length (v ∷ vars)) (length (role ∷ roles)) fit-in.0 in
    let rest : length vars ≡ length roles = omega (arith, long) in
    let each = and_parts (suits role (slice_get infos v.0)) (list_all (λ (p : Role × VarId). suits p.0 (slice_get infos p.1.0)) (zip roles vars)) fit-in.1 in
    let here : suits_none infos of role ≡ false = ap not (any-in-list (λ (w : VarId). suits role (slice_get infos w.0)) v of (within v (inl refl)) each.0) in
    or_from (suits_none infos of role) (list_any (suits_none infos of) roles) here
    (none-lacks infos of roles vars (and_from (length vars == length roles) (list_all (λ (p : Role × VarId). suits p.0 (slice_get infos p.1.0)) (zip roles vars)) (eq-eqb (length vars) (length roles) rest) each.1)
    (λ w i. within w (inr i)))

-- what isn't dropped isn't implied, where that drops
not-implied : (options : Options) (f : Facts) → options.keep_implied ≡ false → not (drops options f) ≡ true → f.implied ≡ false
not-implied options f o h =
    let few = f.few in
    let incomparable = f.incomparable && not options.keep_incomparable in
    let member = f.member && not options.keep_members in
    let implied = f.implied && not options.keep_implied in
    let constant = f.constant && not options.keep_constant in
    let parent = f.parent && not options.keep_parent in
    let a = or_parts ((((few || incomparable) || member) || implied) || constant) parent (not-true (drops options f) h) in
    let b = or_parts (((few || incomparable) || member) || implied) constant a.0 in
    let c = or_parts ((few || incomparable) || member) implied b.0 in
    elim (cases_Bool f.implied) as (λ _. f.implied ≡ false) [
      | inl implied_is ↦ absurd (false≢true (sym c.1 ∙ and_from f.implied (not options.keep_implied) implied_is (ap not o)))
      | inr free_is ↦ free_is
    ]

module _ (options : Options) (drops_implied : options.keep_implied ≡ false) (g : Grammar) (here : Answers) (samples : List (List Value)) (infos : List VarInfo)
    (tell : TellTheSame g here (answers_of infos samples)) (parents qs : List Parent) (show : AllZip (ShowTheSame g here.infos) parents qs)
    (kept : Kept) (there_infos : List VarInfo) (is : IsKeptOf g there_infos samples kept) (admit : (r : RowId) (vs : List VarId) → admits r here.infos vs ≡ true → admits r there_infos vs ≡ true)
    (falls : CountsFall here) (lead : all_lead kept.leaders (standing_vars options here parents true) ≡ true)
    (row : RowId) (of : IsRowOf g row) (differs : is_equality row ≡ false) (more : 1 < arity_of row)
  where
    abbrev enough : VarId → Bool
    enough = is_enough options here

    abbrev may : VarId → Bool
    may = may_stand options (found_of here parents) true

    abbrev stand : VarId → Bool
    stand v = enough v && may v

    abbrev keep : VarId → Bool
    keep v = stand v && is_left kept row v

    listed-there : (vars : List VarId) → is_listed options here parents row vars ≡ true → listed_candidates options here parents row vars ≡ candidate_of options.least here parents (row, vars) ∷ []
    unfolding listed_candidates
    listed-there vars h = ap (λ b. if b then candidate_of options.least here parents (row, vars) ∷ [] else []) h

    module _ (vars : List VarId) (long : length vars ≡ arity_of row) (stays : is_listed options here parents row vars ≡ true) where
      asked : is_asked here.infos row vars ≡ true
      asked = (and_parts (is_asked here.infos row vars) (it_holds here (row, vars) && keeps options (candidate_of options.least here parents (row, vars))) stays).0

      admitted : admits row here.infos vars ≡ true
      admitted = (and_parts (admits row here.infos vars) (is_written row vars && are_distinct vars) asked).0

      fitting : it_holds here (row, vars) && keeps options (candidate_of options.least here parents (row, vars)) ≡ true
      fitting = (and_parts (is_asked here.infos row vars) (it_holds here (row, vars) && keeps options (candidate_of options.least here parents (row, vars))) stays).1

      holds : fits (fit row vars samples) ≡ true
      holds = ap fits (sym (tell.answered row of vars admitted)) ∙ (and_parts (it_holds here (row, vars)) (keeps options (candidate_of options.least here parents (row, vars))) fitting).0

      free : is_suppressed (fit_of samples) row vars ≡ false
      unfolding facts_of
      free =
          let facts = facts_are_of_what_may_be_asked g here (answers_of infos samples) tell parents qs show options.least row of vars admitted in
          let dropped = (and_parts (it_holds here (row, vars)) (keeps options (candidate_of options.least here parents (row, vars))) fitting).1 in
          let implied = not-implied options (facts_of options.least here parents row vars) drops_implied dropped in
          (or_parts (is_suppressed (fit_of samples) row vars) (has_sharper (answers_of infos samples) row vars || is_sum_plane (answers_of infos samples) row vars)
          (sym (ap (λ (f : Facts). f.implied) facts) ∙ implied)).0

      several : nat_lt 1 (length vars) ≡ true
      several = lt-ltb 1 (length vars) (omega (arith, long, more))

      lists-none : listed_candidates options here parents row vars ≡ [] → ⊥
      lists-none none = (let there = listed-there vars stays in absurd (cc))

      is-enough : (w : VarId) → IsIn w vars → enough w ≡ true
      is-enough w i = elim (cases_Bool (enough w)) as (λ _. enough w ≡ true) [
        | inl passes ↦ passes
        | inr stops ↦ absurd (lists-none (scarce_fails options here parents row falls (arity_of row) vars long w i stops))
      ]

      may-be : (w : VarId) → IsIn w vars → may w ≡ true
      may-be w i = elim (cases_Bool (may w)) as (λ _. may w ≡ true) [
        | inl passes ↦ passes
        | inr stops ↦
            absurd (lists-none (passed options here parents row vars w i (no-equality (first_in (found_of here parents).firsts) row vars differs)
            (ap (λ b. may_stand options (found_of here parents) b w) several ∙ stops)))
      ]

      stands : (w : VarId) → IsIn w vars → stand w ≡ true
      stands w i = and_from (enough w) (may w) (is-enough w i) (may-be w i)

      there : (w : VarId) → IsIn w vars → w.0 < length here.infos
      there w i = let c = contained w vars i in subst (λ (u : VarId). u.0 < length here.infos) c.2 (admitted-there here.infos row vars admitted c.0 w c.1)

      among : (w : VarId) → IsIn w vars → IsIn w (standing_vars options here parents true)
      among w i = in_filter may w (enough_vars options here) (in_filter enough w (all_vars here.infos) (all-in here.infos w (there w i)) (is-enough w i)) (may-be w i)

      leads : (w : VarId) → IsIn w vars → (w.0 < length kept.leaders) × (leader_at kept.leaders w.0 ≡ w.0)
      leads w i =
          leads_from_own kept.leaders w
          (contains-has (own_leaders kept.leaders) w
          (all-of (has (own_leaders kept.leaders)) w (standing_vars options here parents true) (among w i) lead))

      all-leading : AllLead kept.leaders vars
      all-leading k d l = let c = All-contains_itself vars k d l in leads (get_or vars k d) (is_in (get_or vars k d) vars c.0 c.1 c.2)

      asked-there : is_asked there_infos row vars ≡ true
      asked-there =
          and_from (admits row there_infos vars) (is_written row vars && are_distinct vars) (admit row vars admitted)
          (and_parts (admits row here.infos vars) (is_written row vars && are_distinct vars) asked).1

      kept-at : (v : VarId) → IsIn v vars → keep v ≡ true
      kept-at v i = and_from (stand v) (is_left kept row v) (stands v i) (left g there_infos samples kept is row of vars asked-there all-leading holds free v i)

      -- where not all are constant, it has a slot of the row
      has-slot : all_known kept.known vars ≡ false → (slot : Slot) × IsIn slot (filter (is_of_row row) kept.slots) × (slot.leaders ≡ vars)
      has-slot varies = (slot_is g there_infos samples kept is row of vars asked-there all-leading holds free, in-row g there_infos samples kept is row of vars asked-there all-leading holds free varies, refl)

      -- where all are, each role has a constant
      suited : lacks_role row here.infos (filter (is_fixed kept.known) (standing_vars options here parents true)) ≡ true → all_known kept.known vars ≡ false
      suited lacks = elim (cases_Bool (all_known kept.known vars)) as (λ _. all_known kept.known vars ≡ false) [
        | inr varies ↦ varies
        | inl known ↦
            absurd (false≢true (sym (none-lacks here.infos (filter (is_fixed kept.known) (standing_vars options here parents true)) (roles_of (template_of row).takes) vars admitted
            (λ w i. in_filter (is_fixed kept.known) w (standing_vars options here parents true) (among w i)
            (fixed-at g there_infos samples kept is row of vars asked-there all-leading holds free known w i))) ∙ lacks))
      ]

    fails : (vars : List VarId) → length vars ≡ arity_of row → (v : VarId) → IsIn v vars → keep v ≡ false → listed_candidates options here parents row vars ≡ []
    fails vars long v i h = elim (cases_Bool (is_listed options here parents row vars)) as (λ _. listed_candidates options here parents row vars ≡ []) [
      | inl is_there ↦ absurd (false≢true (sym h ∙ kept-at vars long is_there v i))
      | inr gone ↦ unlisted options here parents row vars gone
    ]

    suffices : (f : VarId → List Candidate) → ((v : VarId) → keep v ≡ false → f v ≡ []) → flat_map f (filter (is_left kept row) (standing_vars options here parents true)) ≡ flat_map f (all_vars here.infos)
    suffices f none =
        flat_map-filter f (is_left kept row) (λ v h. none v (and_right (stand v) (is_left kept row v) h)) (standing_vars options here parents true)
        ∙ twice_suffices options here parents row enough may f (λ v h. none v (and_left (stand v) (is_left kept row v) h))

    -- the row over the variables that are left
    left_row : over_all options here parents row (filter (is_left kept row) (standing_vars options here parents true)) ≡ listed_candidates_of_row options here parents row
    left_row = of_takes options here parents row (template_of row).takes refl keep (filter (is_left kept row) (standing_vars options here parents true)) suffices fails

    -- ---- the row over its slots, where no tuple is of constants alone
    abbrev fixed : List VarId
    fixed = filter (is_fixed kept.known) (standing_vars options here parents true)

    abbrev listed : List VarId → Bool
    listed vars = is_listed options here parents row vars

    abbrev of_slot : Slot → List VarId
    of_slot slot = slot.leaders

    abbrev tuples : List (List VarId)
    tuples = tuples_over (arity_of row) (all_vars here.infos)

    abbrev slots : List Slot
    slots = filter (is_of_row row) kept.slots

    abbrev at_row : List VarId → Place
    at_row vars = (row, vars)

    abbrev listed_at : Place → Bool
    listed_at place = listed place.1

    tuples-ascend : AllPairs ComesBefore (filter listed_at (map at_row tuples))
    tuples-ascend =
        pairs ComesBefore (filter listed_at (map at_row tuples))
        (kept_ascend ComesBefore listed_at (map at_row tuples)
        (along ComesBefore at_row tuples
        (weaker Precedes (λ v w. ComesBefore (row, v) (row, w)) (λ v w p. inr (refl, p)) tuples
        (tuples_ascend (all_vars here.infos) (along Before (λ n. record { 0 = n }) (range_with_len 0 (length here.infos)) (numbers 0 (length here.infos))) (arity_of row)))))

    not-all-known : (vars : List VarId) → length vars ≡ arity_of row → listed vars ≡ true → lacks_role row here.infos fixed ≡ true → all_known kept.known vars ≡ false
    not-all-known vars long stays lacks = suited vars long stays lacks

    -- a slot of the row stands at the row
    slot-at : (slot : Slot) → IsIn slot slots → place_of slot ≡ at_row slot.leaders
    slot-at slot i =
        let f = of_filter (is_of_row row) slot kept.slots i in
        let same = eqb-true slot.row.0 row.0 (and_parts (slot.row.0 == row.0) (fits slot.state && are_distinct slot.leaders) f.1).0 in
        let at : ℕ → Place = λ n. (record { 0 = n }, slot.leaders) in
        ap at same

    found-slot : (vars : List VarId) → length vars ≡ arity_of row → listed vars ≡ true → all_known kept.known vars ≡ false → (slot : Slot) × IsIn slot slots × (place_of slot ≡ at_row vars)
    found-slot vars long stays varies =
        let found = has-slot vars long stays varies in
        (found.0, found.1, slot-at found.0 found.1 ∙ ap at_row found.2)

    -- what is listed is over a tuple
    listed-tuple : (vars : List VarId) → listed vars ≡ true → IsIn vars tuples
    listed-tuple vars stays =
        let asked-of = (and_parts (is_asked here.infos row vars) (it_holds here (row, vars) && keeps options (candidate_of options.least here parents (row, vars))) stays).0 in
        let admits-it = (and_parts (admits row here.infos vars) (is_written row vars && are_distinct vars) asked-of).0 in
        let within = admitted-there here.infos row vars admits-it in
        in_tuples (all_vars here.infos) (arity_of row) vars (admitted_arity row here.infos vars admits-it) (λ k d l. all-in here.infos (get_or vars k d) (within k d l))

    slots-ascend : AllPairs ComesBefore (filter listed_at (map place_of slots))
    slots-ascend =
        pairs ComesBefore (filter listed_at (map place_of slots))
        (kept_ascend ComesBefore listed_at (map place_of slots)
        (along ComesBefore place_of slots (kept_ascend SlotBefore (is_of_row row) kept.slots (ascend_from_pairs SlotBefore kept.slots is.slots.ascend))))

    module _ (lacks : lacks_role row here.infos fixed ≡ true) where
      -- what is listed over a tuple has a slot
      to-slots : (place : Place) → Contains (filter listed_at (map at_row tuples)) place → Contains (filter listed_at (map place_of slots)) place
      to-slots place c =
          let i = of_filter listed_at place (map at_row tuples) (is_in place (filter listed_at (map at_row tuples)) c.0 c.1 c.2) in
          let m = of_map {X = List VarId} {Y = Place} at_row place tuples i.0 in
          let vars = m.0 in
          let t = of_tuples (all_vars here.infos) (arity_of row) vars m.1 in
          let stays : listed vars ≡ true = ap listed_at (sym m.2) ∙ i.1 in
          let varies = not-all-known vars t.1 stays lacks in
          let slot = found-slot vars t.1 stays varies in
          contained place (filter listed_at (map place_of slots))
          (subst (λ p. IsIn p (filter listed_at (map place_of slots))) (sym m.2)
          (in_filter listed_at (at_row vars) (map place_of slots) (subst (λ p. IsIn p (map place_of slots)) slot.2 (in_map {X = Slot} {Y = Place} place_of slot.0 slots slot.1)) stays))

      of-slots : (place : Place) → Contains (filter listed_at (map place_of slots)) place → Contains (filter listed_at (map at_row tuples)) place
      of-slots place c =
          let i = of_filter listed_at place (map place_of slots) (is_in place (filter listed_at (map place_of slots)) c.0 c.1 c.2) in
          let m = of_map {X = Slot} {Y = Place} place_of place slots i.0 in
          let same = m.2 ∙ slot-at m.0 m.1 in
          let stays : listed m.0.leaders ≡ true = ap listed_at (sym m.2) ∙ i.1 in
          contained place (filter listed_at (map at_row tuples))
          (subst (λ p. IsIn p (filter listed_at (map at_row tuples))) (sym same)
          (in_filter listed_at (at_row m.0.leaders) (map at_row tuples) (in_map {X = List VarId} {Y = Place} at_row m.0.leaders tuples (listed-tuple m.0.leaders stays)) stays))

      same-places : filter listed_at (map at_row tuples) ≡ filter listed_at (map place_of slots)
      same-places =
          same_members ComesBefore before-one-way (filter listed_at (map at_row tuples)) (filter listed_at (map place_of slots)) tuples-ascend slots-ascend to-slots of-slots

      slots_row : flat_map (λ (slot : Slot). listed_candidates options here parents row slot.leaders) slots ≡ listed_candidates_of_row options here parents row
      slots_row =
          let given : List VarId → List Candidate = listed_candidates options here parents row in
          let at : Place → List Candidate = λ place. given place.1 in
          let none : (place : Place) → listed_at place ≡ false → at place ≡ [] = λ place h. unlisted options here parents row place.1 h in
          sym (flat_map-map {A = Slot} {B = Place} at place_of slots)
          ∙ (sym (flat_map-filter at listed_at none (map place_of slots))
          ∙ (ap (flat_map at) (sym same-places)
          ∙ (flat_map-filter at listed_at none (map at_row tuples)
          ∙ flat_map-map {A = List VarId} {B = Place} at at_row tuples)))

    pub narrow_row : (if lacks_role row here.infos fixed then flat_map (λ (slot : Slot). listed_candidates options here parents row slot.leaders) slots
        else over_all options here parents row (filter (is_left kept row) (standing_vars options here parents true))) ≡ listed_candidates_of_row options here parents row
    narrow_row = elim (cases_Bool (lacks_role row here.infos fixed)) as (λ _. (if lacks_role row here.infos fixed then flat_map (λ (slot : Slot). listed_candidates options here parents row slot.leaders) slots else over_all options here parents row (filter (is_left kept row) (standing_vars options here parents true))) ≡ listed_candidates_of_row options here parents row) [
      | inl lacks ↦
          ap (λ b. if b then flat_map (λ (slot : Slot). listed_candidates options here parents row slot.leaders) slots
          else over_all options here parents row (filter (is_left kept row) (standing_vars options here parents true))) lacks
          ∙ slots_row lacks
      | inr suited ↦
          ap (λ b. if b then flat_map (λ (slot : Slot). listed_candidates options here parents row slot.leaders) slots
          else over_all options here parents row (filter (is_left kept row) (standing_vars options here parents true))) suited
          ∙ left_row
    ]

module _ (options : Options) (drops_implied : options.keep_implied ≡ false) (g : Grammar) (here : Answers) (samples : List (List Value)) (infos : List VarInfo)
    (tell : TellTheSame g here (answers_of infos samples)) (parents qs : List Parent) (show : AllZip (ShowTheSame g here.infos) parents qs)
    (kept : Kept) (there_infos : List VarInfo) (is : IsKeptOf g there_infos samples kept) (admit : (r : RowId) (vs : List VarId) → admits r here.infos vs ≡ true → admits r there_infos vs ≡ true)
    (falls : CountsFall here) (leading enough single several : List VarId)
    (leading_is : leading ≡ filter (may_lead options (found_of here parents)) (enough_vars options here)) (enough_is : enough ≡ enough_vars options here)
    (single_is : single ≡ standing_vars options here parents false) (several_is : several ≡ standing_vars options here parents true)
    (lead : all_lead kept.leaders several ≡ true)
  where
    abbrev of_kept : RowId → List VarId → List Candidate
    of_kept row of =
        if lacks_role row here.infos (filter (is_fixed kept.known) of) then flat_map (λ (slot : Slot). listed_candidates options here parents row slot.leaders) (filter (is_of_row row) kept.slots)
        else over_all options here parents row (filter (is_left kept row) of)

    abbrev pub of_narrowed : RowId → List Candidate
    of_narrowed row = if is_narrow row then of_kept row several else over_lists options here parents row leading enough single several

    pub narrowed_row : (row : RowId) → IsRowOf g row → of_narrowed row ≡ listed_candidates_of_row options here parents row
    narrowed_row row of = elim (cases_Bool (is_narrow row)) as (λ _. of_narrowed row ≡ listed_candidates_of_row options here parents row) [
      | inl narrow ↦
          (let parts = and_parts (not (is_equality row)) (not (arity_of row == 1)) narrow in
          let differs = not-true (is_equality row) parts.0 in
          let other = not-true (arity_of row == 1) parts.1 in
          let role = some-role options here parents row (template_of row).takes in
          let not_one = eqb-false (arity_of row) 1 other in
          ap (λ b. if b then of_kept row several else over_lists options here parents row leading enough single several) narrow
          ∙ (ap (of_kept row) several_is
          ∙ narrow_row options drops_implied g here samples infos tell parents qs show kept there_infos is admit falls (sym (ap (all_lead kept.leaders) several_is) ∙ lead) row of differs (omega (arith, role, not_one))))
      | inr wide ↦
          ap (λ b. if b then of_kept row several else over_lists options here parents row leading enough single several) wide
          ∙ over_standing options here parents row falls leading enough single several leading_is enough_is single_is several_is
    ]
