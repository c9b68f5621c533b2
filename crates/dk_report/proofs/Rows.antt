-- The candidates of a row are those over variables that suit its roles and may stand in what is kept.
use Rattle.std.specs.Prelude.{◌≡◌, ◌&&◌, ◌==◌, ◌<◌, ℕ, Bool, true, false, List, [], ◌∷◌, ◌++◌, filter, flat_map, if◌then◌else◌, length, nat_le, refl, slice_get}
use Rattle.std.proofs.Common.{ap, arith, ◌∙◌, inl, inr, subst, sym}
use Rattle.std.proofs.lemmas.Bool.{and_cases, and_left, and_right, cases_Bool, eqb-false, eqb-true, lt-ltb}
use Rattle.dk_base.specs.declared.kinds.VarId.{VarId}
use Rattle.dk_engine.specs.Sweeps.Suited.{suited_vars}
use Rattle.dk_filters.specs.Answers.{Answers, Parent}
use Rattle.dk_filters.specs.Facts.{is_equality}
use Rattle.dk_filters.specs.Found.{first_in, found_of}
use Rattle.dk_filters.specs.declared.candidate.Candidate.{Candidate}
use Rattle.dk_instances.specs.Instances.{all_vars, tuples_over}
use Rattle.dk_forms.specs.Laws.{IsIn}
use Rattle.dk_template.specs.Admitted.{suit, suits}
use Rattle.dk_template.specs.Templates.{arity_of, roles_of, template_of}
use Rattle.dk_template.specs.declared.grammar.RowId.{RowId}
use Rattle.dk_template.specs.declared.templates.Role.{Role}
use Rattle.dk_template.specs.declared.templates.Takes.{Takes}
use Rattle.dk_template.specs.declared.templates.Takes.TheVariants.{One, Two, Three}
use Rattle.dk_report.proofs.FlatMaps.{flat_map-filter, flat_map-same, over_one, over_three, over_two}
use Rattle.dk_report.proofs.Falling.{CountsFall}
use Rattle.dk_report.proofs.Passing.{no-equality, passed, passed-scarce, unadmitted, unequal, unled}
use Rattle.dk_report.specs.Listing.{listed_candidates, listed_candidates_of_row, may_equal, may_lead, may_stand}
use Rattle.dk_report.specs.Sweeps.{behind, equal_takes, equals, firsts, over_takes, pairs, seconds, thirds, triples}
use Rattle.dk_report.specs.declared.options.Options.{Options}

-- ---- the variables that may stand in what is kept
-- it is present in enough samples
abbrev pub is_enough : Options → Answers → VarId → Bool
is_enough options here v = nat_le options.least (here.counted (v ∷ []))

abbrev pub enough_vars : Options → Answers → List VarId
enough_vars options here = filter (is_enough options here) (all_vars here.infos)

-- such variables that may stand in an instance of one variable, or of several
abbrev pub standing_vars : Options → Answers → List Parent → Bool → List VarId
standing_vars options here parents several = filter (may_stand options (found_of here parents) several) (enough_vars options here)

flat_map-none : {A B : Type 0} (f : A → List B) → ((x : A) → f x ≡ []) → (xs : List A) → flat_map f xs ≡ []
flat_map-none f none [] = refl
flat_map-none f none (x ∷ xs) = ap (λ r. f x ++ r) (flat_map-none f none xs) ∙ ap (λ r. r ++ []) (none x)

module _ (options : Options) (here : Answers) (parents : List Parent) (row : RowId) where
  abbrev all : List VarId
  all = all_vars here.infos

  abbrev given : List VarId → List Candidate
  given vars = listed_candidates options here parents row vars

  abbrev suits_at : Role → VarId → Bool
  suits_at role v = suits role (slice_get here.infos v.0)

  -- no list of candidates is longer for all variables than for those of a list, where the others give none
  abbrev Suffices : (VarId → Bool) → List VarId → Type 0
  Suffices q of = (f : VarId → List Candidate) → ((v : VarId) → q v ≡ false → f v ≡ []) → flat_map f of ≡ flat_map f all

  -- no candidate stands over a variable that fails
  abbrev Fails : (VarId → Bool) → ℕ → Type 0
  Fails q n = (vars : List VarId) → length vars ≡ n → (v : VarId) → IsIn v vars → q v ≡ false → given vars ≡ []

  unsuited : (roles : List Role) → roles_of (template_of row).takes ≡ roles → (vars : List VarId) → suit roles here.infos vars ≡ false → given vars ≡ []
  unsuited roles e vars h = unadmitted options here parents row vars (ap (λ rs. suit rs here.infos vars) e ∙ h)

  -- those of a list that suit a role
  of_suited : (q : VarId → Bool) (of : List VarId) → Suffices q of → (role : Role) (f : VarId → List Candidate) → ((v : VarId) → q v ≡ false → f v ≡ []) → ((v : VarId) → suits_at role v ≡ false → f v ≡ [])
      → flat_map f (suited_vars role here.infos of) ≡ flat_map f all
  of_suited q of suffices role f fails misfits = flat_map-filter f (suits_at role) misfits of ∙ suffices f fails

  pub of_one : (a : Role) → (template_of row).takes ≡ One a → (q : VarId → Bool) (of : List VarId) → Suffices q of → Fails q 1
      → firsts given (suited_vars a here.infos of) ≡ listed_candidates_of_row options here parents row
  of_one a e q of suffices fails =
      let roles : roles_of (template_of row).takes ≡ a ∷ [] = ap roles_of e in
      of_suited q of suffices a (λ v. given (v ∷ [])) (λ v h. fails (v ∷ []) refl v (inl refl) h)
      (λ v h. unsuited (a ∷ []) roles (v ∷ []) (and_left (suits_at a v) true h))
      ∙ (sym (over_one given all) ∙ ap (λ (rs : List Role). flat_map given (tuples_over (length rs) all)) (sym roles))

  -- of two variables, of which each has a list of its own
  of_pairs : (a b : Role) → (template_of row).takes ≡ Two a b → (p : VarId → Bool) (leading : List VarId) → Suffices p leading → (q : VarId → Bool) (of : List VarId) → Suffices q of
      → ((v w : VarId) → p v ≡ false → given (v ∷ w ∷ []) ≡ []) → ((v w : VarId) → q w ≡ false → given (v ∷ w ∷ []) ≡ [])
      → pairs given (suited_vars a here.infos leading) (suited_vars b here.infos of) ≡ listed_candidates_of_row options here parents row
  of_pairs a b e p leading leads q of suffices first_fails second_fails =
      let roles : roles_of (template_of row).takes ≡ a ∷ b ∷ [] = ap roles_of e in
      let second = suited_vars b here.infos of in
      let inner : (v : VarId) → seconds given v second ≡ flat_map (λ w. given (v ∷ w ∷ [])) all = λ v.
      of_suited q of suffices b (λ w. given (v ∷ w ∷ [])) (λ w h. second_fails v w h)
      (λ w h. unsuited (a ∷ b ∷ []) roles (v ∷ w ∷ []) (and_right (suits_at a v) (suits_at b w && true) (and_left (suits_at b w) true h))) in
      of_suited p leading leads a (λ v. seconds given v second)
      (λ v h. flat_map-none (λ w. given (v ∷ w ∷ [])) (λ w. first_fails v w h) second)
      (λ v h. flat_map-none (λ w. given (v ∷ w ∷ [])) (λ w. unsuited (a ∷ b ∷ []) roles (v ∷ w ∷ []) (and_left (suits_at a v) (suits_at b w && true) h)) second)
      ∙ (flat_map-same (λ v. seconds given v second) (λ v. flat_map (λ w. given (v ∷ w ∷ [])) all) inner all
      ∙ (sym (over_two given all) ∙ ap (λ (rs : List Role). flat_map given (tuples_over (length rs) all)) (sym roles)))

  pub of_two : (a b : Role) → (template_of row).takes ≡ Two a b → (q : VarId → Bool) (of : List VarId) → Suffices q of → Fails q 2
      → pairs given (suited_vars a here.infos of) (suited_vars b here.infos of) ≡ listed_candidates_of_row options here parents row
  of_two a b e q of suffices fails =
      of_pairs a b e q of suffices q of suffices (λ v w h. fails (v ∷ w ∷ []) refl v (inl refl) h) (λ v w h. fails (v ∷ w ∷ []) refl w (inr (inl refl)) h)

  pub of_three : (a b c : Role) → (template_of row).takes ≡ Three a b c → (q : VarId → Bool) (of : List VarId) → Suffices q of → Fails q 3
      → triples given (suited_vars a here.infos of) (suited_vars b here.infos of) (suited_vars c here.infos of) ≡ listed_candidates_of_row options here parents row
  of_three a b c e q of suffices fails =
      let roles : roles_of (template_of row).takes ≡ a ∷ b ∷ c ∷ [] = ap roles_of e in
      let second = suited_vars b here.infos of in
      let third = suited_vars c here.infos of in
      let misfit : (v w x : VarId) → suits_at a v && (suits_at b w && (suits_at c x && true)) ≡ false → given (v ∷ w ∷ x ∷ []) ≡ [] = λ v w x h. unsuited (a ∷ b ∷ c ∷ []) roles (v ∷ w ∷ x ∷ []) h in
      let inmost : (v w : VarId) → thirds given v w third ≡ flat_map (λ x. given (v ∷ w ∷ x ∷ [])) all = λ v w.
      of_suited q of suffices c (λ x. given (v ∷ w ∷ x ∷ [])) (λ x h. fails (v ∷ w ∷ x ∷ []) refl x (inr (inr (inl refl))) h)
      (λ x h. misfit v w x (and_right (suits_at a v) (suits_at b w && (suits_at c x && true)) (and_right (suits_at b w) (suits_at c x && true) (and_left (suits_at c x) true h)))) in
      let inner : (v : VarId) → behind given v second third ≡ flat_map (λ w. flat_map (λ x. given (v ∷ w ∷ x ∷ [])) all) all = λ v.
      of_suited q of suffices b (λ w. thirds given v w third)
      (λ w h. flat_map-none (λ x. given (v ∷ w ∷ x ∷ [])) (λ x. fails (v ∷ w ∷ x ∷ []) refl w (inr (inl refl)) h) third)
      (λ w h. flat_map-none (λ x. given (v ∷ w ∷ x ∷ [])) (λ x. misfit v w x (and_right (suits_at a v) (suits_at b w && (suits_at c x && true)) (and_left (suits_at b w) (suits_at c x && true) h))) third)
      ∙ flat_map-same (λ w. thirds given v w third) (λ w. flat_map (λ x. given (v ∷ w ∷ x ∷ [])) all) (inmost v) all in
      of_suited q of suffices a (λ v. behind given v second third)
      (λ v h. flat_map-none (λ w. thirds given v w third) (λ w. flat_map-none (λ x. given (v ∷ w ∷ x ∷ [])) (λ x. fails (v ∷ w ∷ x ∷ []) refl v (inl refl) h) third) second)
      (λ v h. flat_map-none (λ w. thirds given v w third) (λ w. flat_map-none (λ x. given (v ∷ w ∷ x ∷ [])) (λ x. misfit v w x (and_left (suits_at a v) (suits_at b w && (suits_at c x && true)) h)) third) second)
      ∙ (flat_map-same (λ v. behind given v second third) (λ v. flat_map (λ w. flat_map (λ x. given (v ∷ w ∷ x ∷ [])) all) all) inner all
      ∙ (sym (over_three given all) ∙ ap (λ (rs : List Role). flat_map given (tuples_over (length rs) all)) (sym roles)))

  -- ---- the lists that rows are swept over
  abbrev enough : VarId → Bool
  enough = is_enough options here

  abbrev with_enough : List VarId
  with_enough = enough_vars options here

  pub filtered_suffices : (q : VarId → Bool) → Suffices q (filter q all)
  filtered_suffices q f none = flat_map-filter f q none all

  pub twice_suffices : (p q : VarId → Bool) → Suffices (λ v. p v && q v) (filter q (filter p all))
  twice_suffices p q f none =
      flat_map-filter f q (λ v h. none v (and_right (p v) (q v) h)) (filter p all) ∙ flat_map-filter f p (λ v h. none v (and_left (p v) (q v) h)) all

  pub scarce_fails : CountsFall here → (n : ℕ) → Fails enough n
  scarce_fails falls n vars e v i h = passed-scarce options here parents falls row vars v i h

  pub both_fail : (p q : VarId → Bool) (n : ℕ) → Fails p n → Fails q n → Fails (λ v. p v && q v) n
  both_fail p q n one other vars e v i h = elim (and_cases (p v) (q v) h) as (λ _. given vars ≡ []) [ inl a ↦ one vars e v i a | inr b ↦ other vars e v i b ]

  pub passed_single : Fails (may_stand options (found_of here parents) false) 1
  passed_single [] e v i h = absurd i
  passed_single (w ∷ []) e v i h = passed options here parents row (w ∷ []) v i refl h
  passed_single (w ∷ x ∷ vars) e v i h = absurd (omega (arith, e))

  pub passed_several : (n : ℕ) → 1 < n → is_equality row ≡ false → Fails (may_stand options (found_of here parents) true) n
  passed_several n lt differs vars e v i h =
      passed options here parents row vars v i (no-equality (first_in (found_of here parents).firsts) row vars differs)
      (ap (λ b. may_stand options (found_of here parents) b v) (lt-ltb 1 (length vars) (omega (arith, e, lt))) ∙ h)

  -- ---- a row as it takes its variables
  pub of_takes : (takes : Takes) → (template_of row).takes ≡ takes → (q : VarId → Bool) (of : List VarId) → Suffices q of → Fails q (arity_of row)
      → over_takes given here.infos takes of ≡ listed_candidates_of_row options here parents row
  of_takes (One a) e q of suffices fails = of_one a e q of suffices (subst (Fails q) (ap (λ (t : Takes). length (roles_of t)) e) fails)
  of_takes (Two a b) e q of suffices fails = of_two a b e q of suffices (subst (Fails q) (ap (λ (t : Takes). length (roles_of t)) e) fails)
  of_takes (Three a b c) e q of suffices fails = of_three a b c e q of suffices (subst (Fails q) (ap (λ (t : Takes). length (roles_of t)) e) fails)

  pub some-role : (takes : Takes) → 0 < length (roles_of takes)
  some-role (One a) = omega arith
  some-role (Two a b) = omega arith
  some-role (Three a b c) = omega arith

  abbrev pub over_all : List VarId → List Candidate
  over_all of = over_takes given here.infos (template_of row).takes of

  -- ---- over the variables that may stand in what is kept a row lists what it lists over all
  abbrev may_equal_here : VarId → VarId → Bool
  may_equal_here = may_equal options (found_of here parents)

  abbrev may_lead_here : VarId → Bool
  may_lead_here = may_lead options (found_of here parents)

  equal-or-none : (v w : VarId) → (if may_equal_here v w then given (v ∷ w ∷ []) else []) ≡ given (v ∷ w ∷ [])
  equal-or-none v w = elim (cases_Bool (may_equal_here v w)) as (λ _. (if may_equal_here v w then given (v ∷ w ∷ []) else []) ≡ given (v ∷ w ∷ [])) [
    | inl may ↦ ap (λ b. if b then given (v ∷ w ∷ []) else []) may
    | inr gone ↦ ap (λ b. if b then given (v ∷ w ∷ []) else []) gone ∙ sym (unequal options here parents row v w gone)
  ]

  leading-fails : CountsFall here → (v w : VarId) → enough v && may_lead_here v ≡ false → given (v ∷ w ∷ []) ≡ []
  leading-fails falls v w h = elim (and_cases (enough v) (may_lead_here v) h) as (λ _. given (v ∷ w ∷ []) ≡ []) [
    | inl scarce ↦ scarce_fails falls 2 (v ∷ w ∷ []) refl v (inl refl) scarce
    | inr follows ↦ unled options here parents row v w follows
  ]

  of_equality : CountsFall here → (takes : Takes) → (template_of row).takes ≡ takes
      → equal_takes given may_equal_here here.infos takes (filter may_lead_here with_enough) with_enough ≡ listed_candidates_of_row options here parents row
  of_equality falls (One a) e = of_takes (One a) e enough with_enough (filtered_suffices enough) (scarce_fails falls (arity_of row))
  of_equality falls (Three a b c) e = of_takes (Three a b c) e enough with_enough (filtered_suffices enough) (scarce_fails falls (arity_of row))
  of_equality falls (Two a b) e =
      let first = suited_vars a here.infos (filter may_lead_here with_enough) in
      let second = suited_vars b here.infos with_enough in
      flat_map-same (λ v. equals given may_equal_here v second) (λ v. seconds given v second)
      (λ v. flat_map-same (λ w. if may_equal_here v w then given (v ∷ w ∷ []) else []) (λ w. given (v ∷ w ∷ [])) (λ w. equal-or-none v w) second) first
      ∙ of_pairs a b e (λ v. enough v && may_lead_here v) (filter may_lead_here with_enough) (twice_suffices enough may_lead_here) enough with_enough (filtered_suffices enough)
      (leading-fails falls) (λ v w h. scarce_fails falls 2 (v ∷ w ∷ []) refl w (inr (inl refl)) h)

  abbrev standing : Bool → List VarId
  standing = standing_vars options here parents

  of_single : CountsFall here → arity_of row ≡ 1 → over_all (standing false) ≡ listed_candidates_of_row options here parents row
  of_single falls one =
      let may = may_stand options (found_of here parents) false in
      let q : VarId → Bool = λ v. enough v && may v in
      of_takes (template_of row).takes refl q (standing false) (twice_suffices enough may) (subst (Fails q) (sym one) (both_fail enough may 1 (scarce_fails falls 1) passed_single))

  of_several : CountsFall here → is_equality row ≡ false → 1 < arity_of row → over_all (standing true) ≡ listed_candidates_of_row options here parents row
  of_several falls differs more =
      let may = may_stand options (found_of here parents) true in
      of_takes (template_of row).takes refl (λ v. enough v && may v) (standing true) (twice_suffices enough may)
      (both_fail enough may (arity_of row) (scarce_fails falls (arity_of row)) (passed_several (arity_of row) more differs))

  of_lists : CountsFall here → is_equality row ≡ false → over_all (if arity_of row == 1 then standing false else standing true) ≡ listed_candidates_of_row options here parents row
  of_lists falls differs = elim (cases_Bool (arity_of row == 1)) as (λ _. over_all (if arity_of row == 1 then standing false else standing true) ≡ listed_candidates_of_row options here parents row) [
    | inl one ↦ ap (λ b. over_all (if b then standing false else standing true)) one ∙ of_single falls (eqb-true (arity_of row) 1 one)
    | inr more ↦
        (let role = some-role (template_of row).takes in
        let not_one = eqb-false (arity_of row) 1 more in
        ap (λ b. over_all (if b then standing false else standing true)) more ∙ of_several falls differs (omega (arith, role, not_one)))
  ]

  abbrev pub over_lists : List VarId → List VarId → List VarId → List VarId → List Candidate
  over_lists leading of single several =
      if is_equality row then equal_takes given may_equal_here here.infos (template_of row).takes leading of else over_all (if arity_of row == 1 then single else several)

  pub over_standing : CountsFall here → (leading of single several : List VarId) → leading ≡ filter may_lead_here with_enough → of ≡ with_enough → single ≡ standing false → several ≡ standing true
      → over_lists leading of single several ≡ listed_candidates_of_row options here parents row
  over_standing falls leading of single several l o s t =
      ap (λ xs. over_lists xs of single several) l
      ∙ (ap (λ xs. over_lists (filter may_lead_here with_enough) xs single several) o
      ∙ (ap (λ xs. over_lists (filter may_lead_here with_enough) with_enough xs several) s
      ∙ (ap (λ xs. over_lists (filter may_lead_here with_enough) with_enough (standing false) xs) t
      ∙ elim (cases_Bool (is_equality row)) as (λ _. over_lists (filter may_lead_here with_enough) with_enough (standing false) (standing true) ≡ listed_candidates_of_row options here parents row) [
        | inl e ↦
            ap (λ b. if b then equal_takes given may_equal_here here.infos (template_of row).takes (filter may_lead_here with_enough) with_enough
            else over_all (if arity_of row == 1 then standing false else standing true)) e
            ∙ of_equality falls (template_of row).takes refl
        | inr differs ↦
            ap (λ b. if b then equal_takes given may_equal_here here.infos (template_of row).takes (filter may_lead_here with_enough) with_enough
            else over_all (if arity_of row == 1 then standing false else standing true)) differs
            ∙ of_lists falls differs
      ])))
