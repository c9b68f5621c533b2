-- Rows that are asked about only over the variables of which one way's table tells list the same.
use Rattle.std.specs.Prelude.{◌≡◌, ◌≢◌, ◌<◌, ◌&&◌, ◌==◌, Bool, true, false, not, List, [], ◌∷◌, filter, flat_map, if◌then◌else◌, is_some, length, map, refl, Option, Some, None, option_and_then, option_map}
use Rattle.std.specs.Option.{option_map_or}
use Rattle.std.proofs.Common.{◌∙◌, ap, arith, inl, inr, subst, sym}
use Rattle.std.proofs.lemmas.Bool.{and_from, and_left, and_parts, and_right, cases_Bool, eq-eqb, eqb-false, false≢true, lt-ltb, not-true, true≢false}
use Rattle.dk_base.specs.Shapes.{var}
use Rattle.dk_base.specs.declared.kinds.VarId.{VarId}
use Rattle.dk_engine.proofs.LevelFacts.{read_some}
use Rattle.dk_engine.specs.Reading.Levels.{Whole}
use Rattle.dk_engine.specs.Reading.Parts.{leader_of, leaders_of}
use Rattle.dk_engine.specs.Reading.{read_leaders, state_read}
use Rattle.dk_filters.specs.Answers.{Answers, Parent}
use Rattle.dk_filters.specs.Candidates.{candidate_of, candidates_kept, candidates_of, it_holds}
use Rattle.dk_filters.specs.Facts.{is_equality}
use Rattle.dk_filters.specs.Found.{first_in, found_of}
use Rattle.dk_filters.specs.declared.candidate.Candidate.{Candidate}
use Rattle.dk_filters.specs.declared.found.PointFacts.{PointFacts}
use Rattle.dk_filters.proofs.Asked.{admitted-there}
use Rattle.dk_instances.proofs.Members.{contained, in_filter, of_filter}
use Rattle.dk_instances.proofs.Listing.{row_of_grammar}
use Rattle.dk_instances.specs.Instances.{all_vars, are_distinct, is_asked, rows_of}
use Rattle.dk_forms.specs.Known.{Known, both, nothing, broken, fact}
use Rattle.dk_forms.specs.Laws.{IsIn}
use Rattle.dk_forms.specs.declared.states.State.{State}
use Rattle.dk_forms.specs.declared.states.State.TheVariants.{Broken, Empty}
use Rattle.dk_hierarchy.proofs.Joining.{broken_stays}
use Rattle.dk_hierarchy.specs.Edges.{partner_at, partners_at}
use Rattle.dk_hierarchy.specs.Merging.{Joint, engine_at, merged_state, state_through, states_joined}
use Rattle.dk_hierarchy.specs.declared.way.Way.{Way}
use Rattle.dk_template.specs.Admitted.{admits, is_written}
use Rattle.dk_template.specs.Fitting.{fits}
use Rattle.dk_template.specs.Joins.{joined}
use Rattle.dk_template.specs.Templates.{IsRowOf, arity_of, form_of, template_of}
use Rattle.dk_template.specs.declared.grammar.RowId.{RowId}
use Rattle.dk_template.specs.declared.templates.StateForm.{StateForm}
use Rattle.dk_template.specs.declared.templates.StateForm.TheVariants.{Plain, Least, Greatest, Ints, Truth, Code, Texts, Modulus, Line, Plane, Offset}
use Rattle.dk_forms.specs.Code.{code_known, code_state}
use Rattle.dk_forms.specs.Greatest.{greatest_known, greatest_state}
use Rattle.dk_forms.specs.Ints.{ints_known, ints_state}
use Rattle.dk_forms.specs.Least.{least_known, least_state}
use Rattle.dk_forms.specs.Plane.Line.{line_known, line_state}
use Rattle.dk_forms.specs.Modulus.{modulus_known, modulus_state}
use Rattle.dk_forms.specs.Offset.{offset_known, offset_state}
use Rattle.dk_forms.specs.Plain.{plain_known, plain_state}
use Rattle.dk_forms.specs.Plane.{plane_known, plane_state}
use Rattle.dk_forms.specs.Texts.{texts_known, texts_state}
use Rattle.dk_forms.specs.Truth.{truth_known, truth_state}
use Rattle.dk_report.proofs.Falling.{CountsFall, merged-falls}
use Rattle.dk_report.proofs.FlatMaps.{flat_map-filter}
use Rattle.dk_report.proofs.Alone.{flat_map-rows}
use Rattle.dk_report.proofs.Instances.{row_by_row}
use Rattle.dk_report.proofs.Leaders.{all-in}
use Rattle.dk_report.proofs.Left.{not-broken}
use Rattle.dk_report.proofs.Passing.{no-equality, passed, unlisted}
use Rattle.dk_report.proofs.Picking.{all-at, apart-from}
use Rattle.dk_report.proofs.Rows.{enough_vars, is_enough, of_takes, over_all, scarce_fails, some-role, standing_vars, twice_suffices}
use Rattle.dk_report.proofs.Sole.{got-at}
use Rattle.dk_report.proofs.Swept.{row_swept}
use Rattle.dk_report.proofs.Told.{all-tell, pair_of, row-at}
use Rattle.dk_report.specs.Asked.{AreStanding, CanBeAsked, candidates_over, candidates_standing, here_of, vars_with_enough, views_of}
use Rattle.dk_report.specs.Keeping.{keeps}
use Rattle.dk_report.specs.Listing.{is_listed, listed_candidates, listed_candidates_of_row, may_stand}
use Rattle.dk_report.specs.Narrowing.{is_narrow}
use Rattle.dk_report.specs.Viewing.{IsTold, IsView, candidates_told, is_told, leader_through, led_through, told_at, told_row, told_rows}
use Rattle.dk_report.specs.declared.asking.Asking.{Asking}
use Rattle.dk_report.specs.declared.options.Options.{Options}
use Rattle.dk_report.specs.declared.sweeping.Standing.{Standing}

-- ---- what one way breaks is broken
both-broken : {F : Type 0} (meet : F → F → Known F) (k : Known F) → both meet k broken ≡ broken
both-broken meet nothing = refl
both-broken meet broken = refl
both-broken meet (fact x) = refl

joined-broken : (form : StateForm) (s : State) → joined form s Broken ≡ Broken
joined-broken Plain s = ap plain_state (both-broken _ (plain_known s))
joined-broken Least s = ap least_state (both-broken _ (least_known s))
joined-broken Greatest s = ap greatest_state (both-broken _ (greatest_known s))
joined-broken Ints s = ap ints_state (both-broken _ (ints_known s))
joined-broken Truth s = ap truth_state (both-broken _ (truth_known s))
joined-broken Code s = ap code_state (both-broken _ (code_known s))
joined-broken Texts s = ap texts_state (both-broken _ (texts_known s))
joined-broken Modulus s = ap modulus_state (both-broken _ (modulus_known s))
joined-broken Line s = ap line_state (both-broken _ (line_known s))
joined-broken Plane s = ap plane_state (both-broken _ (plane_known s))
joined-broken Offset s = ap offset_state (both-broken _ (offset_known s))

module _ (joint : Joint) (row : RowId) (vars : List VarId) where
  joined-in : (ways : List Way) (s : State) (way : Way) → IsIn way ways → state_through joint row vars way ≡ Broken → states_joined joint row vars s ways ≡ Broken
  joined-in [] s way i h = absurd i
  joined-in (w ∷ ways) s way (inl e) h =
      ap (λ t. states_joined joint row vars t ways) (ap (joined (form_of row) s) (ap (state_through joint row vars) (sym e) ∙ h) ∙ joined-broken (form_of row) s)
      ∙ broken_stays joint row vars ways
  joined-in (w ∷ ways) s way (inr i) h = joined-in ways (joined (form_of row) s (state_through joint row vars w)) way i h

  through-holds : fits (merged_state joint row vars) ≡ true → (way : Way) → IsIn way joint.ways → (state_through joint row vars way ≢ Broken)
  unfolding merged_state
  through-holds holds way i h = not-broken (merged_state joint row vars) holds (joined-in joint.ways Empty way i h)

-- ---- the leaders of partners
partners-led : (leaders : List VarId) (way : Way) (through : VarId → VarId) → ((v w : VarId) → partner_at way.partners v ≡ Some w → through v ≡ leader_of leaders w) → (vars : List VarId)
    → ((v : VarId) → IsIn v vars → is_some (partner_at way.partners v) ≡ true) → (there : List VarId) × (partners_at way.partners vars ≡ Some there) × (leaders_of leaders there ≡ map through vars)
partners-led leaders way through is [] mapped = ([], refl, refl)
partners-led leaders way through is (v ∷ vars) mapped = at (partner_at way.partners v) refl (mapped v (inl refl)) (partners-led leaders way through is vars (λ u i. mapped u (inr i)))
  where
    at : (o : Option VarId) → partner_at way.partners v ≡ o → is_some o ≡ true
        → (there : List VarId) × (partners_at way.partners vars ≡ Some there) × (leaders_of leaders there ≡ map through vars)
        → (there : List VarId) × (partners_at way.partners (v ∷ vars) ≡ Some there) × (leaders_of leaders there ≡ map through (v ∷ vars))
    at None e h rest = absurd (false≢true h)
    at (Some w) e h rest = (
      w ∷ rest.0,
      ap (λ (o : Option VarId). option_and_then (λ u. option_map (λ more. u ∷ more) (partners_at way.partners vars)) o) e
          ∙ ap (λ (o : Option (List VarId)). option_map (λ more. w ∷ more) o) rest.1,
      ap (λ x. x ∷ leaders_of leaders rest.0) (sym (is v w e)) ∙ ap (λ xs. through v ∷ xs) rest.2,
    )

module _ (joint : Joint) (several : List VarId) (way : Way) (engine : Whole) (view : IsView joint.engines joint.ways several way engine) where
  abbrev through : VarId → VarId
  through = leader_through engine.kept way

  through-is : (v w : VarId) → partner_at way.partners v ≡ Some w → through v ≡ leader_of engine.kept.leaders w
  through-is v w e = ap (λ (o : Option VarId). option_map_or (leader_of engine.kept.leaders) o (var 0)) e

  -- what fits isn't Broken over the leaders
  leaders-hold : (row : RowId) (vars : List VarId) → ((v : VarId) → IsIn v vars → IsIn v several) → fits (merged_state joint row vars) ≡ true → (read_leaders 4 engine.kept row (map through vars) ≢ Broken)
  leaders-hold row vars within holds h =
      let led = partners-led engine.kept.leaders way through through-is vars (λ v i. all-at (λ u. is_some (partner_at way.partners u)) v several (within v i) view.mapped) in
      let some : engine.kept.samples ≡ 0 → ⊥ = λ e. true≢false (sym (eq-eqb engine.kept.samples 0 e) ∙ view.some) in
      through-holds joint row vars holds way view.among
      (ap (λ (o : Option (List VarId)). option_map_or (state_read (engine_at joint way).kept row) o Empty) led.1
      ∙ (ap (λ (e : Whole). state_read e.kept row led.0) (got-at joint.engines way.point.0 engine joint.here view.there)
      ∙ (sym (read_some engine.kept row led.0 some) ∙ (ap (read_leaders 4 engine.kept row) led.2 ∙ h))))

-- ---- lists of a table
firsts-of : (q : VarId × VarId → Bool) (f : VarId → VarId) (vars : List VarId) → map (λ (pair : VarId × VarId). pair.0) (filter q (map (pair_of f) vars)) ≡ filter (λ v. q (pair_of f v)) vars
firsts-of q f [] = refl
firsts-of q f (v ∷ vars) = at (q (pair_of f v)) (firsts-of q f vars)
  where
    at : (b : Bool) → map (λ (pair : VarId × VarId). pair.0) (filter q (map (pair_of f) vars)) ≡ filter (λ w. q (pair_of f w)) vars
        → map (λ (pair : VarId × VarId). pair.0) (if b then pair_of f v ∷ filter q (map (pair_of f) vars) else filter q (map (pair_of f) vars)) ≡ (if b then v ∷ filter (λ w. q (pair_of f w)) vars else filter (λ w. q (pair_of f w)) vars)
    at true same = ap (λ rest. v ∷ rest) same
    at false same = same

module _ (options : Options) (joint : Joint) (here : Answers) (answered : (row : RowId) (vars : List VarId) → here.answered row vars ≡ merged_state joint row vars)
    (falls : CountsFall here) (parents : List Parent) (several : List VarId) (several_is : several ≡ standing_vars options here parents true)
    (table : List (List VarId)) (told : IsTold joint several table) (row : RowId) (of : IsRowOf joint.here.grammar row) (differs : is_equality row ≡ false) (more : 1 < arity_of row)
  where
    abbrev enough : VarId → Bool
    enough = is_enough options here

    abbrev may : VarId → Bool
    may = may_stand options (found_of here parents) true

    abbrev stand : VarId → Bool
    stand v = enough v && may v

    abbrev through_view : VarId → VarId
    through_view = leader_through told.engine.kept told.way

    abbrev below : List (List VarId)
    below = told_rows 3 joint.here.grammar told.engine.kept (led_through told.engine.kept told.way several)

    abbrev tells : VarId → Bool
    tells v = is_told told.engine.kept (led_through told.engine.kept told.way several) below row (pair_of through_view v)

    abbrev keep : VarId → Bool
    keep v = stand v && tells v

    at-row : told_at table row ≡ filter tells several
    unfolding told_rows
    at-row =
        ap (λ t. told_at t row) told.rows
        ∙ (row-at joint.here.grammar (told_row told.engine.kept (led_through told.engine.kept told.way several) below) row of
        ∙ firsts-of (is_told told.engine.kept (led_through told.engine.kept told.way several) below row) through_view several)

    listed-there : (vars : List VarId) → is_listed options here parents row vars ≡ true → listed_candidates options here parents row vars ≡ candidate_of options.least here parents (row, vars) ∷ []
    unfolding listed_candidates
    listed-there vars h = ap (λ b. if b then candidate_of options.least here parents (row, vars) ∷ [] else []) h

    module _ (vars : List VarId) (long : length vars ≡ arity_of row) (stays : is_listed options here parents row vars ≡ true) where
      parts : (is_asked here.infos row vars ≡ true) × (it_holds here (row, vars) && keeps options (candidate_of options.least here parents (row, vars)) ≡ true)
      parts = and_parts (is_asked here.infos row vars) (it_holds here (row, vars) && keeps options (candidate_of options.least here parents (row, vars))) stays

      admitted : admits row here.infos vars ≡ true
      admitted = (and_parts (admits row here.infos vars) (is_written row vars && are_distinct vars) parts.0).0

      distinct : are_distinct vars ≡ true
      distinct = (and_parts (is_written row vars) (are_distinct vars) (and_parts (admits row here.infos vars) (is_written row vars && are_distinct vars) parts.0).1).1

      holds : fits (merged_state joint row vars) ≡ true
      holds = ap fits (sym (answered row vars)) ∙ (and_parts (it_holds here (row, vars)) (keeps options (candidate_of options.least here parents (row, vars))) parts.1).0

      lists-none : listed_candidates options here parents row vars ≡ [] → ⊥
      lists-none none = (let there = listed-there vars stays in absurd (cc))

      is-enough-at : (w : VarId) → IsIn w vars → enough w ≡ true
      is-enough-at w i = elim (cases_Bool (enough w)) as (λ _. enough w ≡ true) [
        | inl passes ↦ passes
        | inr stops ↦ absurd (lists-none (scarce_fails options here parents row falls (arity_of row) vars long w i stops))
      ]

      may-be : (w : VarId) → IsIn w vars → may w ≡ true
      may-be w i = elim (cases_Bool (may w)) as (λ _. may w ≡ true) [
        | inl passes ↦ passes
        | inr stops ↦
            absurd (lists-none (passed options here parents row vars w i (no-equality (first_in (found_of here parents).firsts) row vars differs)
            (ap (λ b. may_stand options (found_of here parents) b w) (lt-ltb 1 (length vars) (omega (arith, long, more))) ∙ stops)))
      ]

      stands : (w : VarId) → IsIn w vars → stand w ≡ true
      stands w i = and_from (enough w) (may w) (is-enough-at w i) (may-be w i)

      there : (w : VarId) → IsIn w vars → w.0 < length here.infos
      there w i = let c = contained w vars i in subst (λ (u : VarId). u.0 < length here.infos) c.2 (admitted-there here.infos row vars admitted c.0 w c.1)

      within : (w : VarId) → IsIn w vars → IsIn w several
      within w i =
          subst (IsIn w) (sym several_is)
          (in_filter may w (enough_vars options here) (in_filter enough w (all_vars here.infos) (all-in here.infos w (there w i)) (is-enough-at w i)) (may-be w i))

      told-of : (w : VarId) → IsIn w vars → tells w ≡ true
      told-of w i =
          (of_filter tells w several (subst (IsIn w) (ap (λ t. told_at t row) (sym told.rows) ∙ at-row)
          (all-tell joint.here.grammar told.engine.kept through_view several 4 row of vars long (apart-from vars distinct) within
          (leaders-hold joint several told.way told.engine told.view row vars within holds) w i))).1

      kept-at : (w : VarId) → IsIn w vars → keep w ≡ true
      kept-at w i = and_from (stand w) (tells w) (stands w i) (told-of w i)

    fails : (vars : List VarId) → length vars ≡ arity_of row → (v : VarId) → IsIn v vars → keep v ≡ false → listed_candidates options here parents row vars ≡ []
    fails vars long v i h = elim (cases_Bool (is_listed options here parents row vars)) as (λ _. listed_candidates options here parents row vars ≡ []) [
      | inl is_there ↦ absurd (false≢true (sym h ∙ kept-at vars long is_there v i))
      | inr gone ↦ unlisted options here parents row vars gone
    ]

    suffices : (f : VarId → List Candidate) → ((v : VarId) → keep v ≡ false → f v ≡ []) → flat_map f (told_at table row) ≡ flat_map f (all_vars here.infos)
    suffices f none =
        ap (flat_map f) (at-row ∙ ap (filter tells) several_is)
        ∙ (flat_map-filter f tells (λ v h. none v (and_right (stand v) (tells v) h)) (standing_vars options here parents true)
        ∙ twice_suffices options here parents row enough may f (λ v h. none v (and_left (stand v) (tells v) h)))

    pub narrow_told : over_all options here parents row (told_at table row) ≡ listed_candidates_of_row options here parents row
    narrow_told = of_takes options here parents row (template_of row).takes refl keep (told_at table row) suffices fails

module _ (asking : Asking) (can : CanBeAsked asking) (of : Standing) (standing : AreStanding asking of) (table : List (List VarId)) (told : IsTold asking.here.now of.several table) where
  several-is : of.several ≡ standing_vars asking.options.now (here_of asking) (views_of asking) true
  several-is = standing.several ∙ ap (λ (f : PointFacts). filter (may_stand asking.options.now f true) (vars_with_enough asking)) can.found

  row_told : (row : RowId) → IsRowOf asking.here.now.here.grammar row → candidates_told table asking of row ≡ listed_candidates_of_row asking.options.now (here_of asking) (views_of asking) row
  row_told row is_row = elim (cases_Bool (is_narrow row)) as (λ _. candidates_told table asking of row ≡ listed_candidates_of_row asking.options.now (here_of asking) (views_of asking) row) [
    | inl narrow ↦
        (let parts = and_parts (not (is_equality row)) (not (arity_of row == 1)) narrow in
        let role = some-role asking.options.now (here_of asking) (views_of asking) row (template_of row).takes in
        let not_one = eqb-false (arity_of row) 1 (not-true (arity_of row == 1) parts.1) in
        ap (λ b. if b then candidates_over asking row (told_at table row) else candidates_standing asking of row) narrow
        ∙ narrow_told asking.options.now asking.here.now (here_of asking) (λ r vars. refl) (λ vars v i. merged-falls asking.here.now vars v i) (views_of asking) of.several several-is table told row is_row
        (not-true (is_equality row) parts.0) (omega (arith, role, not_one)))
    | inr wide ↦ ap (λ b. if b then candidates_over asking row (told_at table row) else candidates_standing asking of row) wide ∙ row_swept asking can of standing row
  ]

  pub viewed_is : flat_map (candidates_told table asking of) (rows_of asking.here.now.here.grammar)
      ≡ candidates_kept (keeps asking.options.now) (candidates_of asking.here.now.here.grammar asking.options.now.least (here_of asking) (views_of asking))
  viewed_is =
      flat_map-rows (candidates_told table asking of) (listed_candidates_of_row asking.options.now (here_of asking) (views_of asking)) (rows_of asking.here.now.here.grammar)
      (λ row i. row_told row (row_of_grammar asking.here.now.here.grammar row i))
      ∙ sym (row_by_row asking.options.now (here_of asking) (views_of asking) asking.here.now.here.grammar)
