-- The checker behind what a block does.
use Rattle.std.proofs.Common.{◌≡◌, ◌∙◌, ◌++◌, ◌∷◌, [], ℕ, List, map, Some, Result, Ok, Err, OnOk, ap, subst, sym}
use Rattle.std.proofs.lemmas.List.{map-append}
use Rattle.std.specs.List.{AllZip}
use Rattle.dk_base.specs.Values.{IsOfKind, values_of}
use Rattle.dk_base.specs.declared.kinds.VarInfo.{VarInfo}
use Rattle.dk_base.specs.declared.values.Value.{Value}
use Rattle.dk_blocks.specs.Fitting.{Extends}
use Rattle.dk_derive.specs.Laws.{var_kinds}
use Rattle.dk_derive.specs.Values.{values_by_form}
use Rattle.dk_driver.specs.Consuming.{IsBehind, Record, SamplesMore, Tells, Told}
use Rattle.dk_events.specs.Telling.{PointsGoOn}
use Rattle.dk_events.specs.declared.event.Event.{Event}
use Rattle.dk_events.specs.declared.event.Event.TheVariants as event
use Rattle.dk_hierarchy.specs.Samples.{all_vars_of}
use Rattle.dk_instances.specs.Laws.{IsSample}
use Rattle.dk_points.specs.Table.{Point}
use Rattle.dk_trace.specs.Fitting.{FitKinds}
use Rattle.dk_verdicts.proofs.Growth.{kept_up_on, stands_on}
use Rattle.dk_verdicts.specs.Standing as verdicts
use Rattle.dk_verdicts.specs.declared.checker.Checker.{Checker}
use Rattle.dk_check.specs.Standing.{StandsFor, checked}
use Rattle.dk_check.specs.Taking.{HasTaken, TakesEvent}
use Rattle.dk_check.specs.declared.checking.Checking.{Checking}

-- ---- what holds where a call succeeds
pub if_ok : {A E : Type 0} (r : Result A E) (P Q : Type 0) → (P → Q) → OnOk r P → OnOk r Q
if_ok (Ok x) P Q f p = f p
if_ok (Err e) P Q f p = tt

pub on_ok : {A E : Type 0} (r : Result A E) (P Q R S : Type 0) → (P → Q → R → S) → OnOk r P → OnOk r Q → OnOk r R → OnOk r S
on_ok (Ok x) P Q R S f p q r = f p q r
on_ok (Err e) P Q R S f p q r = tt

-- ---- a sample
zipped : (vars : List VarInfo) (values : List Value) → AllZip IsOfKind (var_kinds vars) values → AllZip (λ (v : VarInfo) x. IsOfKind v.kind x) vars values
zipped [] [] h = tt
zipped [] (x ∷ xs) h = absurd h
zipped (v ∷ vars) [] h = absurd h
zipped (v ∷ vars) (x ∷ xs) h = (h.0, zipped vars xs h.1)

-- what an event tells is a sample of its point's variables
pub sample_fits : (vars : List VarInfo) (values : List Value) → FitKinds (var_kinds vars) values → IsSample vars values
sample_fits vars values fits = record { kinds = zipped vars values fits.0; written = fits.1 }

-- ---- over which points
still_over : (ps ps' : List Point) (e : Event) (c : Checker) → PointsGoOn ps (Some e) ps' → verdicts.IsKeptUp ps c → verdicts.IsKeptUp ps' c
still_over ps ps' event.Nothing c extends up = kept_up_on ps ps' c extends up
still_over ps ps' event.Declared c extends up = kept_up_on ps ps' c extends up
still_over ps ps' (event.Sample point line values) c same up = subst (λ (l : List Point). verdicts.IsKeptUp l c) (sym same) up

-- no point goes: the checker is over those behind the block too
pub kept_up : (ps' : List Point) (e : Event) (c : Checker) → IsBehind (λ ps. verdicts.IsKeptUp ps c) ps' e → verdicts.IsKeptUp ps' c
kept_up ps' e c (ps, up, goes) = still_over ps ps' e c goes up

-- ---- what was told
-- the same checker, where no record is told
no_record : (c : Checking) (old new : Told) → Extends old.points new.points → new.records ≡ old.records → StandsFor c old → StandsFor c new
no_record c old new extends same stands = record {
  kept_up = kept_up_on old.points new.points c.checker extends stands.kept_up;
  checker = subst (λ (l : List Record). verdicts.StandsFor c.checker new.points (map checked l)) (sym same)
      (stands_on old.points new.points c.checker (map checked old.records) extends stands.kept_up stands.checker);
}

one_record : (c c' : Checking) (ps : List Point) (old new : Told) (file line p : ℕ) (sample : List Value) → new.points ≡ ps → HasTaken ps c.checker c'.checker file p line sample
    → SamplesMore file line p sample old new → StandsFor c old → StandsFor c' new
one_record c c' ps old new file line p sample now taken more stands =
    let here : old.points ≡ ps = sym more.points_are ∙ now in
    let behind = taken.stands (map checked old.records) more.base (more.derived ∙ ap (λ (l : List Point). values_by_form (all_vars_of l p) more.base) here)
    (subst (λ (l : List Point). verdicts.StandsFor c.checker l (map checked old.records)) here stands.checker) in
    let records : map checked old.records ++ record { table = ps; file = file; line = line; point = p; values = more.base } ∷ [] ≡ map checked new.records =
    ap (λ (l : List Point). map checked old.records ++ record { table = l; file = file; line = line; point = p; values = more.base } ∷ []) (sym here)
    ∙ sym (map-append checked old.records (record { table = old.points; file = file; line = line; point = p; values = more.base } ∷ []))
    ∙ ap (map checked) (sym more.records_are) in
    record {
      kept_up = subst (λ (l : List Point). verdicts.IsKeptUp l c'.checker) (sym now) taken.kept_up;
      checker = subst (λ (l : List Point). verdicts.StandsFor c'.checker l (map checked new.records)) (sym now)
          (subst (verdicts.StandsFor c'.checker ps) records behind);
    }

same_stands : (c c' : Checking) (told : Told) → c'.checker ≡ c.checker → StandsFor c told → StandsFor c' told
same_stands c c' told same stands = record {
  kept_up = subst (λ (k : Checker). verdicts.IsKeptUp told.points k) (sym same) stands.kept_up;
  checker = subst (λ (k : Checker). verdicts.StandsFor k told.points (map checked told.records)) (sym same) stands.checker;
}

-- what an event tells is what the checker stands for
taken_told : (c c' : Checking) (ps : List Point) (file : ℕ) (e : Event) → TakesEvent ps file e c.checker c'.checker
    → (old new : Told) → new.points ≡ ps → StandsFor c old → Tells file e old new → StandsFor c' new
taken_told c c' ps file event.Nothing taken old new now stands same = same_stands c c' new taken (subst (StandsFor c) (sym same) stands)
taken_told c c' ps file event.Declared taken old new now stands more = same_stands c c' new taken (no_record c old new (more.more, more.points_are) more.records_are stands)
taken_told c c' ps file (event.Sample point line values) taken old new now stands more = one_record c c' ps old new file line point.0 (values_of values.now) now taken more stands

pub taken_stands : {A E : Type 0} (c c' : Checking) (r : Result A E) (ps : List Point) (file : ℕ) (e : Event) → OnOk r (TakesEvent ps file e c.checker c'.checker)
    → OnOk r ((old new : Told) → new.points ≡ ps → StandsFor c old → Tells file e old new → StandsFor c' new)
taken_stands c c' r ps file e taken = if_ok r _ _ (taken_told c c' ps file e) taken

-- ---- claims, and points
claims_told : (ps : List Point) (file : ℕ) (e : Event) (c c' : Checker) → TakesEvent ps file e c c' → verdicts.claims_of c' ≡ verdicts.claims_of c
claims_told ps file event.Nothing c c' same = ap verdicts.claims_of same
claims_told ps file event.Declared c c' same = ap verdicts.claims_of same
claims_told ps file (event.Sample point line values) c c' taken = taken.claims

over_told : (ps : List Point) (file : ℕ) (e : Event) (c c' : Checker) → verdicts.IsKeptUp ps c → TakesEvent ps file e c c' → verdicts.IsKeptUp ps c'
over_told ps file event.Nothing c c' up same = subst (verdicts.IsKeptUp ps) (sym same) up
over_told ps file event.Declared c c' up same = subst (verdicts.IsKeptUp ps) (sym same) up
over_told ps file (event.Sample point line values) c c' up taken = taken.kept_up

-- its claims stay
pub claims_stay : {A E : Type 0} (r : Result A E) (ps : List Point) (file : ℕ) (e : Event) (c c' : Checker) → OnOk r (TakesEvent ps file e c c') → OnOk r (verdicts.claims_of c' ≡ verdicts.claims_of c)
claims_stay r ps file e c c' taken = if_ok r _ _ (claims_told ps file e c c') taken

-- it is over the points of the table
pub still_over_all : {A E : Type 0} (r : Result A E) (ps : List Point) (file : ℕ) (e : Event) (c c' : Checker) → verdicts.IsKeptUp ps c → OnOk r (TakesEvent ps file e c c') → OnOk r (verdicts.IsKeptUp ps c')
still_over_all r ps file e c c' up taken = if_ok r _ _ (over_told ps file e c c' up) taken
