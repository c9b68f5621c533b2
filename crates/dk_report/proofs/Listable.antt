-- What is listed are instances, whatever the engines keep.
use Rattle.std.specs.Prelude.{◌≡◌, ◌&&◌, Bool, true, false, All, List, [], ◌∷◌, filter, flat_map, if◌then◌else◌, refl}
use Rattle.std.proofs.Common.{get_or, inl, inr, subst, sym}
use Rattle.std.proofs.lemmas.Bool.{and_parts}
use Rattle.std.proofs.lemmas.List.Elements.{All-append, All-cons, All-contains_itself, All-filter, All-nil}
use Rattle.dk_base.specs.declared.kinds.VarId.{VarId}
use Rattle.dk_base.specs.declared.kinds.VarInfo.{VarInfo}
use Rattle.dk_engine.specs.Sweeps.Suited.{suited_vars}
use Rattle.dk_filters.proofs.Ascending.{candidates_are}
use Rattle.dk_filters.specs.Answers.{Answers, Parent}
use Rattle.dk_filters.specs.Candidates.{candidate_of, candidates_of, it_holds, candidates_kept}
use Rattle.dk_filters.specs.Facts.{is_equality}
use Rattle.dk_filters.specs.declared.candidate.Candidate.{Candidate}
use Rattle.dk_instances.proofs.Listing.{row_of_grammar}
use Rattle.dk_instances.specs.Instances.{IsInstance, is_asked, rows_of}
use Rattle.dk_forms.specs.Laws.{IsIn}
use Rattle.dk_template.specs.Templates.{IsRowOf, template_of}
use Rattle.dk_template.specs.declared.grammar.Grammar.{Grammar}
use Rattle.dk_template.specs.declared.grammar.RowId.{RowId}
use Rattle.dk_template.specs.declared.templates.Takes.{Takes}
use Rattle.dk_template.specs.declared.templates.Takes.TheVariants.{One, Two, Three}
use Rattle.dk_engine.specs.declared.kept.Kept.{Kept}
use Rattle.dk_engine.specs.declared.slots.slot.Slot.{Slot}
use Rattle.dk_report.specs.Asked.{candidates_equal, candidates_over, candidates_standing, here_of, listed_candidates_by, vars_for_row, views_of}
use Rattle.dk_report.specs.Keeping.{keeps}
use Rattle.dk_report.specs.Listing.{is_listed, listed_candidates, may_equal}
use Rattle.dk_report.specs.Narrowing.{candidates_left, candidates_of_kept, candidates_of_slots, is_left, is_narrow, is_of_row, lacks_role}
use Rattle.dk_report.specs.Sweeps.{behind, equal_takes, equals, over_takes, seconds, thirds}
use Rattle.dk_report.specs.declared.asking.Asking.{Asking}
use Rattle.dk_report.specs.declared.options.Options.{Options}
use Rattle.dk_report.specs.declared.sweeping.Standing.{Standing}

all_flat : {A B : Type 0} (Q : B → Type 0) (f : A → List B) → ((x : A) → All Q (f x)) → (xs : List A) → All Q (flat_map f xs)
all_flat Q f each [] = All-nil Q
all_flat Q f each (x ∷ xs) = All-append Q (f x) (flat_map f xs) (each x) (all_flat Q f each xs)

all_in : {A B : Type 0} (Q : B → Type 0) (f : A → List B) (xs : List A) → ((x : A) → IsIn x xs → All Q (f x)) → All Q (flat_map f xs)
all_in Q f [] each = All-nil Q
all_in Q f (x ∷ xs) each = All-append Q (f x) (flat_map f xs) (each x (inl refl)) (all_in Q f xs (λ y i. each y (inr i)))

abbrev pub IsOne : Grammar → List VarInfo → Candidate → Type 0
IsOne grammar infos c = IsInstance grammar infos c.row c.vars

-- ---- those that a row lists
module _ (asking : Asking) where
  abbrev IsHere : Candidate → Type 0
  IsHere = IsOne asking.here.now.here.grammar asking.here.now.here.infos

  module _ (row : RowId) (of : IsRowOf asking.here.now.here.grammar row) where
    all_listed : (vars : List VarId) → All IsHere (listed_candidates_by asking row vars)
    unfolding listed_candidates
    all_listed vars = by (is_listed asking.options.now (here_of asking) (views_of asking) row vars) refl
      where
        by : (b : Bool) → is_listed asking.options.now (here_of asking) (views_of asking) row vars ≡ b → All IsHere (if b then candidate_of asking.options.now.least (here_of asking) (views_of asking) (row, vars) ∷ [] else [])
        by true h =
            All-cons IsHere (candidate_of asking.options.now.least (here_of asking) (views_of asking) (row, vars)) []
            (record {
              of_grammar = of;
              asked = (and_parts (is_asked asking.here.now.here.infos row vars)
                  (it_holds (here_of asking) (row, vars) && keeps asking.options.now (candidate_of asking.options.now.least (here_of asking) (views_of asking) (row, vars))) h).0;
            })
            (All-nil IsHere)
        by false h = All-nil IsHere

    all_over : (takes : Takes) (vars : List VarId) → All IsHere (over_takes (listed_candidates_by asking row) asking.here.now.here.infos takes vars)
    all_over (One a) vars = all_flat IsHere (λ v. listed_candidates_by asking row (v ∷ [])) (λ v. all_listed (v ∷ [])) (suited_vars a asking.here.now.here.infos vars)
    all_over (Two a b) vars =
        let second = suited_vars b asking.here.now.here.infos vars in
        all_flat IsHere (λ v. seconds (listed_candidates_by asking row) v second)
        (λ v. all_flat IsHere (λ w. listed_candidates_by asking row (v ∷ w ∷ [])) (λ w. all_listed (v ∷ w ∷ [])) second) (suited_vars a asking.here.now.here.infos vars)
    all_over (Three a b c) vars =
        let second = suited_vars b asking.here.now.here.infos vars in
        let third = suited_vars c asking.here.now.here.infos vars in
        all_flat IsHere (λ v. behind (listed_candidates_by asking row) v second third)
        (λ v. all_flat IsHere (λ w. thirds (listed_candidates_by asking row) v w third)
        (λ w. all_flat IsHere (λ x. listed_candidates_by asking row (v ∷ w ∷ x ∷ [])) (λ x. all_listed (v ∷ w ∷ x ∷ [])) third) second)
        (suited_vars a asking.here.now.here.infos vars)

    all_equal : (takes : Takes) (leading vars : List VarId) → All IsHere (equal_takes (listed_candidates_by asking row) (may_equal asking.options.now asking.found.now) asking.here.now.here.infos takes leading vars)
    all_equal (One a) leading vars = all_over (One a) vars
    all_equal (Three a b c) leading vars = all_over (Three a b c) vars
    all_equal (Two a b) leading vars =
        let may = may_equal asking.options.now asking.found.now in
        let second = suited_vars b asking.here.now.here.infos vars in
        all_flat IsHere (λ v. equals (listed_candidates_by asking row) may v second)
        (λ v. all_flat IsHere (λ w. if may v w then listed_candidates_by asking row (v ∷ w ∷ []) else []) (λ w. all_if (v ∷ w ∷ []) (may v w) (all_listed (v ∷ w ∷ []))) second)
        (suited_vars a asking.here.now.here.infos leading)
      where
        all_if : (pair : List VarId) (b : Bool) → All IsHere (listed_candidates_by asking row pair) → All IsHere (if b then listed_candidates_by asking row pair else [])
        all_if pair true all = all
        all_if pair false all = All-nil IsHere

    all_standing : (standing : Standing) → All IsHere (candidates_standing asking standing row)
    all_standing standing = by (is_equality row)
      where
        by : (b : Bool) → All IsHere (if b then candidates_equal asking standing row else candidates_over asking row (vars_for_row standing row))
        by true = all_equal (template_of row).takes standing.leading standing.all
        by false = all_over (template_of row).takes (vars_for_row standing row)

    all_kept : (kept : Kept) (standing : Standing) (fixed : List VarId) → All IsHere (candidates_of_kept kept asking standing fixed row)
    all_kept kept standing fixed = by (lacks_role row asking.here.now.here.infos fixed)
      where
        by : (b : Bool) → All IsHere (if b then candidates_of_slots kept asking row else candidates_over asking row (filter (is_left kept row) standing.several))
        by true = all_flat IsHere (λ (slot : Slot). listed_candidates_by asking row slot.leaders) (λ slot. all_listed slot.leaders) (filter (is_of_row row) kept.slots)
        by false = all_over (template_of row).takes (filter (is_left kept row) standing.several)

    all_left : (kept : Kept) (standing : Standing) (fixed : List VarId) → All IsHere (candidates_left kept asking standing fixed row)
    all_left kept standing fixed = by (is_narrow row)
      where
        by : (b : Bool) → All IsHere (if b then candidates_of_kept kept asking standing fixed row else candidates_standing asking standing row)
        by true = all_kept kept standing fixed
        by false = all_standing standing

  pub narrowed_listable : (kept : Kept) (standing : Standing) (fixed : List VarId) → All IsHere (flat_map (candidates_left kept asking standing fixed) (rows_of asking.here.now.here.grammar))
  narrowed_listable kept standing fixed =
      all_in IsHere (candidates_left kept asking standing fixed) (rows_of asking.here.now.here.grammar)
      (λ row i. all_left row (row_of_grammar asking.here.now.here.grammar row i) kept standing fixed)

-- ---- the candidates of a point
pub candidates_listable : (grammar : Grammar) (options : Options) (here : Answers) (parents : List Parent) → All (IsOne grammar here.infos) (candidates_kept (keeps options) (candidates_of grammar options.least here parents))
candidates_listable grammar options here parents =
    All-filter (keeps options) (IsOne grammar here.infos) (candidates_of grammar options.least here parents)
    (λ k d l.
    let c = get_or (candidates_of grammar options.least here parents) k d in
    let is = (candidates_are grammar options.least here parents c).0 (All-contains_itself (candidates_of grammar options.least here parents) k d l) in
    subst (IsOne grammar here.infos) (sym is.3) is.1)
