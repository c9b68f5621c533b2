-- What engines that stand for samples and their halves tell of them.
use Rattle.std.specs.Prelude.{◌≡◌, ◌&&◌, ◌||◌, ◌==◌, ◌<◌, ◌++◌, ℕ, Bool, true, false, not, All, List, [], ◌∷◌, filter, find, flat_map, if◌then◌else◌, length, map, refl, Option, Some, OnOk, Result, Ok, Err}
use Rattle.std.specs.List.{list_any}
use Rattle.std.specs.Option.{option_map_or}
use Rattle.std.proofs.Common.{◌∙◌, ap, append-nil, subst, sym}
use Rattle.std.proofs.lemmas.List.Concat.{flat_map-append}
use Rattle.std.proofs.lemmas.List.{append_assoc}
use Rattle.std.proofs.lemmas.List.Elements.{All-cons, All-filter, All-head, All-nil, All-tail}
use Rattle.std.proofs.lemmas.List.Folds.{flat_map-map}
use Rattle.dk_base.specs.declared.kinds.VarId.{VarId}
use Rattle.dk_base.specs.declared.kinds.VarInfo.{VarInfo}
use Rattle.dk_base.specs.declared.values.Value.{Value}
use Rattle.dk_classes.proofs.OfKind.{kind_read}
use Rattle.dk_classes.specs.Classes.{kind_at, var_kinds}
use Rattle.dk_engine.proofs.Readings.{agree_read_is_agreement, reading_is_fit}
use Rattle.dk_engine.specs.Reading.{agree_read, state_read}
use Rattle.dk_engine.specs.Reading.Levels.{Whole}
use Rattle.dk_filters.proofs.Agreeing.{agrees_is_agreement}
use Rattle.dk_filters.proofs.Asked.{admitted-there, all-there}
use Rattle.dk_filters.proofs.Lists.{any-same, find-same}
use Rattle.dk_filters.specs.Candidates.{candidate_of, candidates_of, it_holds, candidates_kept}
use Rattle.dk_filters.specs.Facts.{facts_of, info_at, no_info}
use Rattle.dk_filters.specs.OfSamples.{agrees, answers_of}
use Rattle.dk_filters.specs.Sameness.{same_state}
use Rattle.dk_filters.specs.declared.candidate.Candidate.{Candidate}
use Rattle.dk_filters.specs.declared.facts.Facts.{Facts}
use Rattle.dk_hierarchy.specs.Standing.{EngineStandsFor}
use Rattle.dk_instances.specs.Instances.{IsInstance, all_vars, are_distinct, instances_of}
use Rattle.dk_report.proofs.FlatMaps.{flat_map-flat_map, flat_map-passing}
use Rattle.dk_report.specs.Keeping.{drops, keeps}
use Rattle.dk_report.specs.declared.options.Options.{Options}
use Rattle.dk_template.specs.Admitted.{admits, is_written}
use Rattle.dk_template.specs.Premises.{AreThere}
use Rattle.dk_template.specs.declared.grammar.Grammar.{Grammar}
use Rattle.dk_template.specs.declared.grammar.RowId.{RowId}
use Rattle.std.proofs.lemmas.Bool.{and_parts}
use Rattle.dk_implications.specs.Conditions.{base_bools, conditions, is_base_bool, is_condition}
use Rattle.dk_implications.specs.Implications.{Implication, implication, implications_of, implied_by, is_left_out, is_told_by, kept_in, told_by_halves}
use Rattle.dk_implications.specs.Halves.{half_of}
use Rattle.dk_implications.specs.Reports.{implication_line}
use Rattle.dk_implications.specs.Standing.{AreOver, HalvesStandFor, half_by}
use Rattle.dk_implications.specs.Telling.{all_on, is_first, is_told, lines_of, told_lines}
use Rattle.dk_implications.specs.declared.halves.Halves.{Halves}

abbrev Samples : Type 0
Samples = List (List Value)

-- what is so where all is well
pub on_ok : {A E : Type 0} (r : Result A E) (P Q : Type 0) → (P → Q) → OnOk r P → OnOk r Q
on_ok (Ok x) P Q f h = f h
on_ok (Err e) P Q f h = tt

-- ---- lists
same-tests : (b c : Bool) → (b ≡ true → c ≡ true) → (c ≡ true → b ≡ true) → b ≡ c
same-tests true c to from = sym (to refl)
same-tests false true to from = from refl
same-tests false false to from = refl

module _ {A : Type 0} (Q : A → Type 0) (p q : A → Bool) (same : (x : A) → Q x → p x ≡ q x) where
  pub filter-same : (xs : List A) → All Q xs → filter p xs ≡ filter q xs
  filter-same [] all = refl
  filter-same (x ∷ xs) all = rw (same x (All-head Q x xs all), filter-same xs (All-tail Q x xs all)) refl

module _ {A B C : Type 0} (f : A → B) (p : B → Bool) (g : B → C) (none : C) where
  found : (x : A) (xs : List A) (b : Bool) → option_map_or (λ y. g (f y)) (find (λ y. p (f y)) xs) none ≡ option_map_or g (find p (map f xs)) none
      → option_map_or (λ y. g (f y)) (if b then Some x else find (λ y. p (f y)) xs) none ≡ option_map_or g (if b then Some (f x) else find p (map f xs)) none
  found x xs true rest = refl
  found x xs false rest = rest

  pub find-mapped : (xs : List A) → option_map_or (λ y. g (f y)) (find (λ y. p (f y)) xs) none ≡ option_map_or g (find p (map f xs)) none
  find-mapped [] = refl
  find-mapped (x ∷ xs) = found x xs (p (f x)) (find-mapped xs)

-- ---- what the engine of all samples tells
module _ (whole : Whole) (samples : Samples) (stands : EngineStandsFor whole samples) where
  abbrev Within : VarId → Type 0
  Within v = v.0 < length whole.infos

  agree_is : (v w : VarId) → Within v → Within w → agree_read whole.kept v w ≡ agrees whole.infos samples v w
  agree_is v w first second =
      let says = agree_read_is_agreement whole.grammar whole.infos stands.variables samples stands.samples_are whole.kept stands.kept_is v w first second in
      let told = agrees_is_agreement whole.infos samples v w in
      let at-v : kind_at (var_kinds whole.infos) v.0 ≡ (info_at whole.infos v).kind = kind_read whole.infos v.0 no_info first in
      let at-w : kind_at (var_kinds whole.infos) w.0 ≡ (info_at whole.infos w).kind = kind_read whole.infos w.0 no_info second in
      same-tests (agree_read whole.kept v w) (agrees whole.infos samples v w)
      (λ h. told.1 (sym at-v ∙ ((says.0 h).0 ∙ at-w), (says.0 h).1))
      (λ h. says.1 (at-v ∙ ((told.0 h).0 ∙ sym at-w), (told.0 h).1))

  -- whether a Bool is a condition
  pub first_is : (all : List Halves) → map (λ (halves : Halves). halves.condition) all ≡ base_bools whole.infos → All (λ (halves : Halves). Within halves.condition) all
      → (b : VarId) → Within b → is_first whole.kept all b ≡ is_condition whole.infos samples b
  first_is all conditions within b there =
      ap (λ (o : Option Halves). option_map_or (λ (halves : Halves). halves.condition.0 == b.0) o false)
      (find-same (λ (halves : Halves). Within halves.condition) (λ (halves : Halves). agree_read whole.kept halves.condition b) (λ (halves : Halves). agrees whole.infos samples halves.condition b)
      (λ halves w. agree_is halves.condition b w there) all within)
      ∙ (find-mapped (λ (halves : Halves). halves.condition) (λ a. agrees whole.infos samples a b) (λ (a : VarId). a.0 == b.0) false all
      ∙ ap (λ (vs : List VarId). option_map_or (λ (a : VarId). a.0 == b.0) (find (λ a. agrees whole.infos samples a b) vs) false) conditions)

  -- whether an instance says more on a half
  pub told_is : (b : VarId) → Within b → (c : Candidate) → IsInstance whole.grammar whole.infos c.row c.vars → is_told whole.kept b c ≡ is_told_by whole.infos samples b c
  told_is b there c is =
      let admitted = (and_parts (admits c.row whole.infos c.vars) (is_written c.row c.vars && are_distinct c.vars) is.asked).0 in
      let there_too : AreThere whole.infos c.vars = admitted-there whole.infos c.row c.vars admitted in
      ap (λ t. not t && not (same_state c.state (state_read whole.kept c.row c.vars)))
      (any-same Within (agree_read whole.kept b) (agrees whole.infos samples b) (λ v w. agree_is b v there w) c.vars there_too)
      ∙ ap (λ s. not (list_any (agrees whole.infos samples b) c.vars) && not (same_state c.state s))
      (reading_is_fit whole.grammar whole.infos stands.variables samples stands.samples_are whole.kept stands.kept_is c.row is.of_grammar c.vars admitted)

-- ---- what isn't dropped
and-true : (b : Bool) → (b && true) ≡ b
and-true true = refl
and-true false = refl

or-false : (b : Bool) → (b || false) ≡ b
or-false true = refl
or-false false = refl

-- where no parent has an instance, all filters drop what is dropped
drops_is : (least : ℕ) (f : Facts) → f.parent ≡ false → drops (all_on least) f ≡ is_left_out f
drops_is least f none =
    ap (λ b. f.few || b || (f.member && true) || (f.implied && true) || (f.constant && true) || (f.parent && true)) (and-true f.incomparable)
    ∙ (ap (λ b. f.few || f.incomparable || b || (f.implied && true) || (f.constant && true) || (f.parent && true)) (and-true f.member)
    ∙ (ap (λ b. f.few || f.incomparable || f.member || b || (f.constant && true) || (f.parent && true)) (and-true f.implied)
    ∙ (ap (λ b. f.few || f.incomparable || f.member || f.implied || b || (f.parent && true)) (and-true f.constant)
    ∙ (ap (λ b. f.few || f.incomparable || f.member || f.implied || f.constant || b) (and-true f.parent ∙ none)
    ∙ or-false (f.few || f.incomparable || f.member || f.implied || f.constant)))))

module _ (grammar : Grammar) (least : ℕ) (infos : List VarInfo) (half : Samples) where
  abbrev HasNoParent : Candidate → Type 0
  HasNoParent c = c.facts.parent ≡ false

  no_parent : (i : RowId × List VarId) → HasNoParent (candidate_of least (answers_of infos half) [] i)
  unfolding facts_of
  no_parent i = refl

  all_mapped : (is : List (RowId × List VarId)) → All HasNoParent (map (candidate_of least (answers_of infos half) []) is)
  all_mapped [] = All-nil HasNoParent
  all_mapped (i ∷ is) = All-cons HasNoParent (candidate_of least (answers_of infos half) [] i) (map (candidate_of least (answers_of infos half) []) is) (no_parent i) (all_mapped is)

  no_parents : All HasNoParent (candidates_of grammar least (answers_of infos half) [])
  unfolding candidates_of
  no_parents = all_mapped (filter (it_holds (answers_of infos half)) (instances_of grammar infos))

  pub kept_is : candidates_kept (keeps (all_on least)) (candidates_of grammar least (answers_of infos half) []) ≡ kept_in grammar least infos half
  kept_is =
      filter-same HasNoParent (keeps (all_on least)) (λ (c : Candidate). not (is_left_out c.facts)) (λ c none. ap not (drops_is least c.facts none))
      (candidates_of grammar least (answers_of infos half) []) no_parents

-- ---- lines
module _ (whole : Whole) (samples : Samples) (stands : EngineStandsFor whole samples) (b : VarId) (there : b.0 < length whole.infos) (least : ℕ) where
  -- of a half
  pub half_lines : (truth : Bool) (list : List Candidate) → All (λ (c : Candidate). IsInstance whole.grammar whole.infos c.row c.vars) list
      → list ≡ candidates_kept (keeps (all_on least)) (candidates_of whole.grammar least (answers_of whole.infos (half_of samples b truth)) [])
      → told_lines whole b truth list ≡ flat_map (implication_line whole.infos) (implied_by whole.grammar least whole.infos samples b truth)
  half_lines truth list instances is =
      let line : Candidate → List ℕ = λ c. implication_line whole.infos (implication b truth c) in
      sym (flat_map-passing line (is_told whole.kept b) list)
      ∙ (ap (flat_map line)
      (filter-same (λ (c : Candidate). IsInstance whole.grammar whole.infos c.row c.vars) (is_told whole.kept b) (is_told_by whole.infos samples b) (λ c one. told_is whole samples stands b there c one) list instances)
      ∙ (ap (λ (cs : List Candidate). flat_map line (filter (is_told_by whole.infos samples b) cs)) (is ∙ kept_is whole.grammar least whole.infos (half_of samples b truth))
      ∙ sym (flat_map-map (implication_line whole.infos) (implication b truth) (filter (is_told_by whole.infos samples b) (kept_in whole.grammar least whole.infos (half_of samples b truth))))))

-- ---- the engine of a half
pub half_over : (grammar : Grammar) (infos : List VarInfo) (halves : Halves) (truth : Bool) → AreOver grammar infos halves
    → ((half_by halves truth).grammar ≡ grammar) × ((half_by halves truth).infos ≡ infos)
half_over grammar infos halves true over = (over.true_grammar, over.true_infos)
half_over grammar infos halves false over = (over.false_grammar, over.false_infos)

half_stands : (halves : Halves) (samples : Samples) (truth : Bool) → HalvesStandFor halves samples → EngineStandsFor (half_by halves truth) (half_of samples halves.condition truth)
half_stands halves samples true stand = stand.when_true
half_stands halves samples false stand = stand.when_false

-- it is an instance of the engine's variables
abbrev pub IsOneOf : Whole → Candidate → Type 0
IsOneOf engine c = IsInstance engine.grammar engine.infos c.row c.vars

module _ (whole : Whole) (halves : Halves) (over : AreOver whole.grammar whole.infos halves) (truth : Bool) (half : Whole) (same : half ≡ half_by halves truth) (list : List Candidate) where
  grammar_is : half.grammar ≡ whole.grammar
  grammar_is = ap (λ (e : Whole). e.grammar) same ∙ (half_over whole.grammar whole.infos halves truth over).0

  infos_is : half.infos ≡ whole.infos
  infos_is = ap (λ (e : Whole). e.infos) same ∙ (half_over whole.grammar whole.infos halves truth over).1

  -- its instances are those of the engine of all samples
  pub half_instances : All (IsOneOf half) list → All (IsOneOf whole) list
  half_instances all =
      subst (λ (g : Grammar). All (λ (c : Candidate). IsInstance g whole.infos c.row c.vars) list) grammar_is
      (subst (λ (vars : List VarInfo). All (λ (c : Candidate). IsInstance half.grammar vars c.row c.vars) list) infos_is all)

  -- the lines of those that it keeps
  pub half_told : (least : ℕ) → halves.condition.0 < length whole.infos → All (IsOneOf half) list → (options : Options) → options ≡ all_on least
      → ((samples : Samples) → EngineStandsFor half samples → list ≡ candidates_kept (keeps options) (candidates_of half.grammar options.least (answers_of half.infos samples) []))
      → (samples : Samples) → EngineStandsFor whole samples → HalvesStandFor halves samples
      → told_lines whole halves.condition truth list ≡ flat_map (implication_line whole.infos) (implied_by whole.grammar least whole.infos samples halves.condition truth)
  half_told least there instances options on kept samples stands stand =
      let own : Samples = half_of samples halves.condition truth in
      let kept_of = λ (g : Grammar) (vars : List VarInfo). candidates_kept (keeps (all_on least)) (candidates_of g least (answers_of vars own) []) in
      half_lines whole samples stands halves.condition there least truth list (half_instances instances)
      (kept own (subst (λ (e : Whole). EngineStandsFor e own) (sym same) (half_stands halves samples truth stand))
      ∙ (ap (λ (o : Options). candidates_kept (keeps o) (candidates_of half.grammar o.least (answers_of half.infos own) [])) on
      ∙ (ap (λ (g : Grammar). kept_of g half.infos) grammar_is
      ∙ ap (kept_of whole.grammar) infos_is)))

-- of both halves
pub both_lines : (grammar : Grammar) (least : ℕ) (infos : List VarInfo) (samples : Samples) (b : VarId)
    → flat_map (implication_line infos) (implied_by grammar least infos samples b true) ++ flat_map (implication_line infos) (implied_by grammar least infos samples b false)
    ≡ flat_map (implication_line infos) (told_by_halves grammar least infos samples b)
both_lines grammar least infos samples b =
    let line = implication_line infos in
    let first = implied_by grammar least infos samples b true in
    let second = implied_by grammar least infos samples b false in
    sym (flat_map-append line first (second ++ []) ∙ ap (λ (is : List Implication). flat_map line first ++ flat_map line is) (append-nil second))

-- ---- the lines of both halves
-- what holds of all that is made of items holds so of the items
unmapped : {A B : Type 0} (P : B → Type 0) (f : A → B) (xs : List A) → All P (map f xs) → All (λ x. P (f x)) xs
unmapped P f [] all = All-nil (λ x. P (f x))
unmapped P f (x ∷ xs) all = All-cons (λ y. P (f y)) x xs (All-head P (f x) (map f xs) all) (unmapped P f xs (All-tail P (f x) (map f xs) all))

pub conditions_there : (infos : List VarInfo) (all : List Halves) → map (λ (halves : Halves). halves.condition) all ≡ base_bools infos → All (λ (halves : Halves). halves.condition.0 < length infos) all
conditions_there infos all are =
    let There : VarId → Type 0 = λ v. v.0 < length infos in
    unmapped There (λ (halves : Halves). halves.condition) all (subst (All There) (sym are) (All-filter (is_base_bool infos) There (all_vars infos) (all-there infos)))

module _ (whole : Whole) (samples : Samples) (stands : EngineStandsFor whole samples) (all : List Halves) (are : map (λ (halves : Halves). halves.condition) all ≡ base_bools whole.infos)
    (b : VarId) (there : b.0 < length whole.infos) (least : ℕ)
  where
    is : is_first whole.kept all b ≡ is_condition whole.infos samples b
    is = first_is whole samples stands all are (conditions_there whole.infos all are) b there

    abbrev lines_if : Bool → List ℕ
    lines_if t = if t then flat_map (implication_line whole.infos) (told_by_halves whole.grammar least whole.infos samples b) else []

    pub none_told : is_first whole.kept all b ≡ false → (text : List ℕ) → text ≡ text ++ lines_of whole.grammar least whole.infos samples b
    none_told other text = sym (ap (λ t. text ++ lines_if t) (sym is ∙ other) ∙ append-nil text)

    pub both_told : is_first whole.kept all b ≡ true → (old first second : List ℕ)
        → first ≡ old ++ flat_map (implication_line whole.infos) (implied_by whole.grammar least whole.infos samples b true)
        → second ≡ first ++ flat_map (implication_line whole.infos) (implied_by whole.grammar least whole.infos samples b false)
        → second ≡ old ++ lines_of whole.grammar least whole.infos samples b
    both_told here old first second one two =
        let when_true = flat_map (implication_line whole.infos) (implied_by whole.grammar least whole.infos samples b true) in
        let when_false = flat_map (implication_line whole.infos) (implied_by whole.grammar least whole.infos samples b false) in
        two ∙ (ap (λ (t : List ℕ). t ++ when_false) one ∙ (append_assoc old when_true when_false
        ∙ (ap (λ (t : List ℕ). old ++ t) (both_lines whole.grammar least whole.infos samples b) ∙ ap (λ t. old ++ lines_if t) (sym (sym is ∙ here)))))

-- of all halves
pub all_lines : (grammar : Grammar) (least : ℕ) (infos : List VarInfo) (samples : Samples) (all : List Halves) → map (λ (halves : Halves). halves.condition) all ≡ base_bools infos
    → flat_map (λ (halves : Halves). lines_of grammar least infos samples halves.condition) all ≡ flat_map (implication_line infos) (implications_of grammar least infos samples)
unfolding implications_of
all_lines grammar least infos samples all conditions_are =
    let line = implication_line infos in
    let told = told_by_halves grammar least infos samples in
    sym (flat_map-map (lines_of grammar least infos samples) (λ (halves : Halves). halves.condition) all)
    ∙ (ap (flat_map (lines_of grammar least infos samples)) conditions_are
    ∙ (sym (flat_map-passing (λ b. flat_map line (told b)) (is_condition infos samples) (base_bools infos))
    ∙ sym (flat_map-flat_map line told (conditions infos samples))))
