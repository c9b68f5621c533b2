-- The kept candidates of a point are those of its rows, one row after another.
use Rattle.std.specs.Prelude.{◌≡◌, ◌&&◌, Bool, true, false, List, [], ◌∷◌, ◌++◌, filter, flat_map, if◌then◌else◌, map, refl}
use Rattle.std.proofs.Common.{ap, ◌∙◌}
use Rattle.std.proofs.lemmas.List.Folds.{flat_map-map}
use Rattle.dk_base.specs.declared.kinds.VarId.{VarId}
use Rattle.dk_filters.specs.Answers.{Answers, Parent}
use Rattle.dk_filters.specs.Candidates.{candidate_of, candidates_kept, candidates_of, it_holds}
use Rattle.dk_filters.specs.declared.candidate.Candidate.{Candidate}
use Rattle.dk_instances.specs.Instances.{all_vars, asked_of, instances_of, is_asked, rows_of, tuples_over}
use Rattle.dk_template.specs.Templates.{arity_of}
use Rattle.dk_template.specs.declared.grammar.Grammar.{Grammar}
use Rattle.dk_template.specs.declared.grammar.RowId.{RowId}
use Rattle.dk_report.proofs.FlatMaps.{flat_map-flat_map, flat_map-passing, flat_map-same}
use Rattle.dk_report.specs.Keeping.{keeps}
use Rattle.dk_report.specs.Listing.{listed_candidates, listed_candidates_of_row}
use Rattle.dk_report.specs.declared.options.Options.{Options}

-- ---- what is mapped and filtered on both sides
module _ {A B : Type 0} (make : A → B) (before : A → Bool) (behind : B → Bool) where
  abbrev pub if_both : A → List B
  if_both x = if before x && behind (make x) then make x ∷ [] else []

  made : (x : A) (xs : List A) (b c : Bool) → filter behind (map make (filter before xs)) ≡ flat_map if_both xs → behind (make x) ≡ c
      → filter behind (map make (if b then x ∷ filter before xs else filter before xs)) ≡ (if b && c then make x ∷ [] else []) ++ flat_map if_both xs
  made x xs true true rest e = ap (λ t. if t then make x ∷ filter behind (map make (filter before xs)) else filter behind (map make (filter before xs))) e ∙ ap (λ r. make x ∷ r) rest
  made x xs true false rest e = ap (λ t. if t then make x ∷ filter behind (map make (filter before xs)) else filter behind (map make (filter before xs))) e ∙ rest
  made x xs false c rest e = rest

  pub one_by_one : (xs : List A) → filter behind (map make (filter before xs)) ≡ flat_map if_both xs
  one_by_one [] = refl
  one_by_one (x ∷ xs) = made x xs (before x) (behind (make x)) (one_by_one xs) refl

module _ (options : Options) (here : Answers) (parents : List Parent) where
  abbrev Instance : Type 0
  Instance = RowId × List VarId

  abbrev made_of : Instance → Candidate
  made_of = candidate_of options.least here parents

  abbrev of_instance : Instance → List Candidate
  of_instance = if_both made_of (it_holds here) (keeps options)

  if-asked : (row : RowId) (vars : List VarId) (asked : Bool) (kept : Bool)
      → (if asked then (if kept then made_of (row, vars) ∷ [] else []) else []) ≡ (if asked && kept then made_of (row, vars) ∷ [] else [])
  if-asked row vars true kept = refl
  if-asked row vars false kept = refl

  of_row : (row : RowId) → flat_map of_instance (map (λ vars. (row, vars)) (asked_of here.infos row)) ≡ listed_candidates_of_row options here parents row
  unfolding listed_candidates
  of_row row =
      flat_map-map {A = List VarId} {B = Instance} of_instance (λ vars. (row, vars)) (asked_of here.infos row)
      ∙ (flat_map-passing (λ vars. of_instance (row, vars)) (is_asked here.infos row) (tuples_over (arity_of row) (all_vars here.infos))
      ∙ flat_map-same (λ vars. if is_asked here.infos row vars then of_instance (row, vars) else []) (listed_candidates options here parents row)
      (λ vars. if-asked row vars (is_asked here.infos row vars) (it_holds here (row, vars) && keeps options (made_of (row, vars))))
      (tuples_over (arity_of row) (all_vars here.infos)))

  pub row_by_row : (grammar : Grammar) → candidates_kept (keeps options) (candidates_of grammar options.least here parents) ≡ flat_map (listed_candidates_of_row options here parents) (rows_of grammar)
  unfolding candidates_of instances_of
  row_by_row grammar =
      one_by_one made_of (it_holds here) (keeps options) (instances_of grammar here.infos)
      ∙ (flat_map-flat_map of_instance (λ row. map (λ vars. (row, vars)) (asked_of here.infos row)) (rows_of grammar)
      ∙ flat_map-same (λ row. flat_map of_instance (map (λ vars. (row, vars)) (asked_of here.infos row))) (listed_candidates_of_row options here parents) of_row (rows_of grammar))
