-- What the code finds among the rules is what the table of the rules has.
use Rattle.std.specs.Prelude.{◌≡◌, ◌<◌, ◌≤◌, ◌+◌, ◌&&◌, ◌||◌, ◌==◌, ℕ, zero, suc, Bool, true, false, All, IfSome, List, [], ◌∷◌, ◌++◌, length, map, refl, slice_index_or, take, Option, Some, None}
use Rattle.std.specs.List.{list_any}
use Rattle.std.proofs.Common.{◌∙◌, ap, arith, inl, inr, subst, sym}
use Rattle.std.proofs.lemmas.Bool.{eqb-true}
use Rattle.std.proofs.lemmas.List.{take_all}
use Rattle.std.proofs.lemmas.List.Folds.{list_any_at}
use Rattle.dk_base.specs.declared.kinds.VarId.{VarId}
use Rattle.dk_classes.proofs.OwnLeaders.{leads_from_own}
use Rattle.dk_classes.specs.Leaders.{leader_at, own_leaders}
use Rattle.dk_engine.proofs.Spread.{rows_all, rows_more}
use Rattle.dk_engine.specs.Reading.Levels.{Whole}
use Rattle.dk_engine.specs.Reading.Parts.{leader_of}
use Rattle.dk_engine.specs.Reading.{agree_read}
use Rattle.dk_engine.specs.declared.kept.Kept.{Kept}
use Rattle.dk_instances.proofs.Members.{contained, in_map}
use Rattle.dk_instances.specs.Instances.{rows_of}
use Rattle.dk_forms.specs.Laws.{IsIn}
use Rattle.dk_hierarchy.specs.declared.way.Way.{Way}
use Rattle.dk_suppress.specs.Rules.{Rule, rules}
use Rattle.dk_suppress.specs.Told.{told}
use Rattle.dk_suppress.specs.declared.rules.Rule.{Rule as CodeRule}
use Rattle.dk_template.specs.Premises.{row_of}
use Rattle.dk_template.specs.Templates.{IsRow, arity_of, rows_in}
use Rattle.dk_template.specs.declared.grammar.Grammar.{Grammar}
use Rattle.dk_template.specs.declared.grammar.RowId.{RowId}
use Rattle.dk_report.proofs.Told.{premise-rows}
use Rattle.dk_hierarchy.specs.Merging.{Joint}
use Rattle.dk_report.specs.Viewing.{IsTold, IsView, led_through, may_follow, may_follow_by, told_rows}
use Rattle.dk_report.specs.declared.viewing.View.{View}

in-get : {X : Type 0} (xs : List X) (i : ℕ) (d : X) → i < length xs → IsIn (slice_index_or xs i d) xs
in-get [] i d l = absurd (omega (arith, l))
in-get (x ∷ xs) zero d l = inl refl
in-get (x ∷ xs) (suc i) d l = inr (in-get xs i d (omega (arith, l)))

-- the rule is the row's, and its premises may fit
abbrev pub follows : List (List VarId) → RowId → VarId → CodeRule → Bool
follows below row v r = r.conclusion.0 == row.0 && may_follow_by below (arity_of row) v r.premises.now

abbrev table_follows : List (List VarId) → RowId → VarId → Rule → Bool
table_follows below row v r = r.0.0 == row.0 && may_follow_by below (arity_of row) v r.1

any-told : (test : Rule → Bool) (items : List CodeRule) → list_any test (map told items) ≡ list_any (λ r. test (told r)) items
any-told test [] = refl
any-told test (r ∷ rs) = ap (λ b. test (told r) || b) (any-told test rs)

module _ (items : List CodeRule) (table : map told items ≡ rules) where
  pub rule-rows : (i : ℕ) → i < length items → (d : CodeRule) → All (λ p. IsRow (row_of p)) (slice_index_or items i d).premises.now
  rule-rows i l d k e m =
      let r = slice_index_or items i d in
      premise-rows (told r) (subst (IsIn (told r)) table (in_map told r items (in-get items i d l))) (slice_index_or r.premises.now k e) (in-get r.premises.now k e m)

  module _ (below : List (List VarId)) (row : RowId) (v : VarId) where
    follows-any : list_any (follows below row v) items ≡ may_follow below row v
    follows-any = sym (any-told (table_follows below row v) items) ∙ ap (list_any (table_follows below row v)) table

    pub rule-follows : (i : ℕ) → i < length items → (d : CodeRule) → follows below row v (slice_index_or items i d) ≡ true → may_follow below row v ≡ true
    rule-follows i l d h = sym follows-any ∙ list_any_at (follows below row v) items i d l h

    pub none-follow : (i : ℕ) → length items ≤ i → list_any (follows below row v) (take i items) ≡ false → may_follow below row v ≡ false
    none-follow i past none = sym follows-any ∙ (ap (list_any (follows below row v)) (sym (take_all i items past)) ∙ none)

-- ---- rows
map-push : {X Y : Type 0} (f : X → Y) (xs : List X) (x : X) → map f (xs ++ x ∷ []) ≡ map f xs ++ f x ∷ []
map-push f [] x = refl
map-push f (y ∷ xs) x = ap (λ rest. f y ∷ rest) (map-push f xs x)

pub row-more : {X : Type 0} (g : Grammar) (F : RowId → List X) (n : ℕ) → n < rows_in g
    → ([] ∷ map F (take n (rows_of g))) ++ F (record { 0 = n + 1 }) ∷ [] ≡ [] ∷ map F (take (n + 1) (rows_of g))
row-more {X} g F n l =
    let r : RowId = record { 0 = n + 1 } in
    ap (λ (xs : List (List X)). [] ∷ xs) (sym (ap (map F) (rows_more g n l) ∙ map-push F (take n (rows_of g)) r))

pub rows-all : {X : Type 0} (g : Grammar) (F : RowId → List X) (n : ℕ) → rows_in g ≤ n → [] ∷ map F (take n (rows_of g)) ≡ [] ∷ map F (rows_of g)
rows-all g F n past = ap (λ (rs : List RowId). [] ∷ map F rs) (rows_all g n past)

-- ---- leaders
pub found-leader : (kept : Kept) (own : List VarId) → own ≡ own_leaders kept.leaders → (i : ℕ) → i < length own → (d : VarId) (v : VarId) → agree_read kept v (slice_index_or own i d) ≡ true
    → slice_index_or own i d ≡ leader_of kept.leaders v
found-leader kept own all i l d v agrees =
    let a = slice_index_or own i d in
    let c = contained a (own_leaders kept.leaders) (subst (IsIn a) all (in-get own i d l)) in
    let leads = (leads_from_own kept.leaders a c).1 in
    let same = eqb-true (leader_at kept.leaders v.0) (leader_at kept.leaders a.0) agrees in
    ap (λ n. record { 0 = n }) (sym (same ∙ leads))

-- ---- views
pub view-among : (engines : List Whole) (ways : List Way) (vars : List VarId) (way : Way) → IsIn way ways → (o : Option View)
    → IfSome o (λ view. IsView engines (way ∷ []) vars view.way.now view.engine.now) → IfSome o (λ view. IsView engines ways vars view.way.now view.engine.now)
view-among engines ways vars way i None h = tt
view-among engines ways vars way i (Some view) h = record {
  among = elim h.among as (λ _. IsIn view.way.now ways) [ inl e ↦ subst (λ w. IsIn w ways) (sym e) i | inr j ↦ absurd j ];
  there = h.there;
  some = h.some;
  mapped = h.mapped;
}

-- what a view tells of the variables
pub told-is : (joint : Joint) (several vars : List VarId) (engines : List Whole) (ways : List Way) (g : Grammar) (way : Way) (engine : Whole) (table : List (List VarId))
    → joint.engines ≡ engines → ways ≡ joint.ways → vars ≡ several → g ≡ joint.here.grammar
    → IsView engines ways vars way engine → table ≡ told_rows 4 g engine.kept (led_through engine.kept way vars) → IsTold joint several table
told-is joint several vars engines ways g way engine table e w s same view is = record {
  way = way;
  engine = engine;
  view = subst (λ vs. IsView joint.engines joint.ways vs way engine) s (subst (λ ws. IsView joint.engines ws vars way engine) w (subst (λ es. IsView es ways vars way engine) (sym e) view));
  rows = is ∙ (ap (λ vs. told_rows 4 g engine.kept (led_through engine.kept way vs)) s ∙ ap (λ h. told_rows 4 h engine.kept (led_through engine.kept way several)) same);
}

pub if-some : {A : Type 0} (o : Option A) (P Q : A → Type 0) → ((x : A) → P x → Q x) → IfSome o P → IfSome o Q
if-some None P Q f h = tt
if-some (Some x) P Q f h = f x h
