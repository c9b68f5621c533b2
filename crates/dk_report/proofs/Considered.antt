-- What is told of an instance makes its candidate, or none.
use Rattle.std.specs.Prelude.{◌≡◌, ◌<◌, ◌++◌, ◌&&◌, ℕ, Bool, true, false, not, List, [], ◌∷◌, if◌then◌else◌}
use Rattle.std.proofs.Common.{◌∙◌, ap, append-nil, subst, sym}
use Rattle.std.proofs.lemmas.Bool.{and_from, and_left, and_parts, and_right, lt-ltb}
use Rattle.dk_base.specs.declared.kinds.VarId.{VarId}
use Rattle.dk_base.specs.declared.kinds.VarInfo.{VarInfo}
use Rattle.dk_filters.proofs.Asked.{admitted-there}
use Rattle.dk_filters.specs.Answers.{Answers}
use Rattle.dk_filters.specs.Candidates.{candidate_of, it_holds}
use Rattle.dk_filters.specs.Facts.{facts_of}
use Rattle.dk_filters.specs.Parents.{answers_by}
use Rattle.dk_filters.specs.declared.candidate.Candidate.{Candidate}
use Rattle.dk_filters.specs.declared.facts.Facts.{Facts}
use Rattle.dk_forms.specs.declared.states.State.{State}
use Rattle.dk_hierarchy.specs.Merging.{merged_agree, merged_count, merged_state}
use Rattle.dk_instances.specs.Instances.{are_distinct, is_asked}
use Rattle.dk_template.specs.Admitted.{admits, is_written}
use Rattle.dk_template.specs.Fitting.{fits}
use Rattle.dk_template.specs.Premises.{AreThere}
use Rattle.dk_template.specs.declared.grammar.RowId.{RowId}
use Rattle.dk_report.proofs.Passing.{passed-few, unlisted}
use Rattle.dk_report.specs.Asked.{here_of, listed_candidates_by, views_of}
use Rattle.dk_report.specs.Keeping.{drops, keeps}
use Rattle.dk_report.specs.Listing.{is_listed, listed_candidates}
use Rattle.dk_report.specs.declared.asking.Asking.{Asking}
use Rattle.dk_report.specs.declared.options.Options.{Options}

module _ (asking : Asking) (row : RowId) (vars : List VarId) (infos : List VarInfo) (is : infos ≡ asking.here.now.here.infos) where
  abbrev here : Answers
  here = here_of asking

  abbrev options : Options
  options = asking.options.now

  abbrev candidate : Candidate
  candidate = candidate_of options.least here (views_of asking) (row, vars)

  abbrev holds : Bool
  holds = it_holds here (row, vars)

  asked_here : (b : Bool) → is_asked infos row vars ≡ b → is_asked here.infos row vars ≡ b
  asked_here b h = ap (λ vs. is_asked vs row vars) (sym is) ∙ h

  nothing : (list : List Candidate) → is_listed options here (views_of asking) row vars ≡ false → list ≡ list ++ listed_candidates_by asking row vars
  nothing list h = sym (append-nil list) ∙ ap (λ cs. list ++ cs) (sym (unlisted options here (views_of asking) row vars h))

  pub unasked : (list : List Candidate) → is_asked infos row vars ≡ false → list ≡ list ++ listed_candidates_by asking row vars
  unasked list h = nothing list (and_left (is_asked here.infos row vars) (holds && keeps options candidate) (asked_here false h))

  pub unfitting : (list : List Candidate) (s : State) → s ≡ merged_state asking.here.now row vars → fits s ≡ false → list ≡ list ++ listed_candidates_by asking row vars
  unfitting list s e h = nothing list (and_right (is_asked here.infos row vars) (holds && keeps options candidate) (and_left holds (keeps options candidate) (ap fits (sym e) ∙ h)))

  pub scarce : (list : List Candidate) (count : ℕ) → count ≡ merged_count asking.here.now vars → count < options.least → list ≡ list ++ listed_candidates_by asking row vars
  scarce list count e l =
      sym (append-nil list)
      ∙ ap (λ cs. list ++ cs) (sym (passed-few options here (views_of asking) row vars (lt-ltb (merged_count asking.here.now vars) options.least (subst (λ n. n < options.least) e l))))

  -- facts are told of the variables that are there
  abbrev IsJudged : Facts → Type 0
  IsJudged facts = facts ≡ facts_of options.least (answers_by infos (merged_state asking.here.now) (merged_count asking.here.now) (merged_agree asking.here.now)) (views_of asking) row vars

  facts_are : (facts : Facts) → IsJudged facts → facts ≡ facts_of options.least here (views_of asking) row vars
  facts_are facts e = e ∙ ap (λ vs. facts_of options.least (answers_by vs (merged_state asking.here.now) (merged_count asking.here.now) (merged_agree asking.here.now)) (views_of asking) row vars) is

  keeps_is : (facts : Facts) (b : Bool) → IsJudged facts → not (drops options facts) ≡ b → keeps options candidate ≡ b
  keeps_is facts b e h = ap (λ (f : Facts). not (drops options f)) (sym (facts_are facts e)) ∙ h

  pub dropped : (list : List Candidate) (facts : Facts) → IsJudged facts → not (drops options facts) ≡ false → list ≡ list ++ listed_candidates_by asking row vars
  dropped list facts e h = nothing list (and_right (is_asked here.infos row vars) (holds && keeps options candidate) (and_right holds (keeps options candidate) (keeps_is facts false e h)))

  pub considered : (list : List Candidate) (s : State) (facts : Facts) (tuple : List VarId) (count : ℕ) → is_asked infos row vars ≡ true → s ≡ merged_state asking.here.now row vars → fits s ≡ true
      → IsJudged facts → not (drops options facts) ≡ true → tuple ≡ vars → count ≡ merged_count asking.here.now vars
      → list ++ record { row = row; vars = tuple; state = s; count = count; facts = facts } ∷ [] ≡ list ++ listed_candidates_by asking row vars
  unfolding listed_candidates
  considered list s facts tuple count a e f j k t n =
      let same = facts_are facts j in
      let given : Candidate = record { row = row; vars = tuple; state = s; count = count; facts = facts } in
      let made : given ≡ candidate = λ i. record { row = row; vars = t i; state = e i; count = n i; facts = same i } in
      let listed_is : is_listed options here (views_of asking) row vars ≡ true =
      and_from (is_asked here.infos row vars) (holds && keeps options candidate) (asked_here true a) (and_from holds (keeps options candidate) (ap fits (sym e) ∙ f) (keeps_is facts true j k)) in
      ap (λ (c : Candidate). list ++ c ∷ []) made ∙ ap (λ b. list ++ (if b then candidate ∷ [] else [])) (sym listed_is)

  pub admitted : is_asked infos row vars ≡ true → admits row here.infos vars ≡ true
  admitted h = (and_parts (admits row here.infos vars) (is_written row vars && are_distinct vars) (asked_here true h)).0

  pub there : is_asked infos row vars ≡ true → AreThere here.infos vars
  there h = admitted-there here.infos row vars (admitted h)
