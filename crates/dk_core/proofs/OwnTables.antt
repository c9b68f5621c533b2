-- Tables that their own declarations make.
use Rattle.std.proofs.Common.{◌≡◌, ◌∙◌, ◌-◌, ◌<◌, ◌≤◌, ◌||◌, ◌++◌, ℕ, nat_lt, All, Bool, true, false, List, [], ◌∷◌, Option, Some, None, Result, Ok, Err, ap, append_assoc, arith, inl, inr, length, length-append, map, option_and_then, refl, slice_get, subst, sym, take, if◌then◌else◌}
use Rattle.std.proofs.Math.Seq.{take-append_seam}
use Rattle.std.proofs.lemmas.Bool.{cases_lt}
use Rattle.std.proofs.lemmas.List.Elements.{All-head, All-nil, All-push, All-tail, All-weaker, filter_map-append}
use Rattle.std.specs.Option.{option_map_or}
use Rattle.dk_base.specs.Shapes.{shape_of, with_derived}
use Rattle.dk_base.specs.declared.kinds.Kind.{Kind}
use Rattle.dk_base.specs.declared.kinds.VarInfo.{VarInfo}
use Rattle.dk_base.specs.declared.values.Value.{Value}
use Rattle.dk_base.specs.declared.why.Why.{Why}
use Rattle.dk_base.specs.declared.why.Why.TheVariants.{CyclicParents, DuplicatePoint, TooManyPoints, TooManyVariables}
use Rattle.dk_decl.specs.declared.decls.PointDecl.{PointDecl}
use Rattle.dk_derive.proofs.Deriving.{length_with_derived}
use Rattle.dk_derive.specs.Laws.{all_vars_of}
use Rattle.dk_derive.specs.Vars.{with_derived_vars}
use Rattle.dk_engine.specs.Exact.{AreOfPoint}
use Rattle.dk_graph.specs.Graphs.{has_cycle}
use Rattle.dk_graph.specs.Names.{place_of}
use Rattle.dk_hierarchy.proofs.OfPoint.{of_point}
use Rattle.dk_points.proofs.Exits.{vars-same}
use Rattle.dk_points.specs.Declaring.{at_line, declared, declared_again, declared_at, has_many_points, has_many_vars}
use Rattle.dk_points.specs.Links.{nodes}
use Rattle.dk_points.specs.Sameness.{same_decl}
use Rattle.dk_points.specs.Table.{Point, added_points, decl_at, decl_if_declared, declared_point, implicit_exit, makes_exit, names}
use Rattle.dk_points.specs.Vars.{base_vars, vars_of}
use Rattle.dk_points.specs.declared.declared.Declared.{Declared}
use Rattle.dk_points.specs.declared.declared.Declared.TheVariants.{New, Same}
use Rattle.dk_state.specs.Declarations.{decls_of}
use Rattle.dk_state.specs.Fitting.{FitsConstant, FitsVar}
use Rattle.dk_state.specs.Given.{CanBeGiven}
use Rattle.dk_state.specs.Spelling.{IsOwnTable, if_new, table_behind}
use Rattle.dk_trace.specs.Fitting.{FitsKind, HasFittingConstant}
use Rattle.dk_blocks.specs.Fitting.{ConstantsFit, HasFittingConstants}
use Rattle.dk_blocks.proofs.Derived.{vars_are_base}
use Rattle.dk_blocks.proofs.Growing.{again_points, constants_still, new_points, not_refused, same_vars, taken_if}

-- ---- constants
constant_given : (there : Bool) (kind : Option Kind) (constant : Option Value) → FitsConstant there kind constant → there ≡ true → FitsKind kind constant
constant_given false kind constant fits is = absurd (cc is)
constant_given true None None fits is = tt
constant_given true None (Some value) fits is = absurd fits
constant_given true (Some k) None fits is = absurd fits
constant_given true (Some k) (Some value) fits is = fits

constants_given : (d : PointDecl) → CanBeGiven d → HasFittingConstants d
constants_given d given = All-weaker FitsVar HasFittingConstant (λ v fits is. constant_given v.constant_line v.kind v.constant fits.constant is) d.vars given.fits.vars

-- each declaration brings its own constants, and so does the exit that it implies
made_fit : (ds : List PointDecl) (qs ps : List Point) → ConstantsFit qs → All CanBeGiven ds → table_behind qs ds ≡ Some ps → ConstantsFit ps
made_fit [] qs ps fit given made = let same : qs ≡ ps = cc made in subst ConstantsFit same fit
made_fit (d ∷ ds) qs ps fit given made = by (declared qs d) refl made (λ next now behind. made_fit ds next ps now (All-tail CanBeGiven d ds given) behind)
  where
    by : (r : Result (List Point × Declared) Why) → declared qs d ≡ r → option_and_then (λ next. table_behind next ds) (if_new r) ≡ Some ps
        → ((next : List Point) → ConstantsFit next → table_behind next ds ≡ Some ps → ConstantsFit ps) → ConstantsFit ps
    by (Ok (next, New p)) is made later =
        let told : at_line 0 (declared qs d) ≡ Ok (next, New p) = ap (λ (r : Result (List Point × Declared) Why). at_line 0 r) is in
        later next (constants_still qs next d 0 (New p) told fit (constants_given d (All-head CanBeGiven d ds given))) made
    by (Ok (next, Same p)) is made later = absurd (cc made)
    by (Err why) is made later = absurd (cc made)

pub own_constants : (ps : List Point) → IsOwnTable ps → ConstantsFit ps
own_constants ps own = made_fit (decls_of ps) [] ps (All-nil (λ (p : Point). HasFittingConstants p.decl)) own.given own.made

-- ---- declarations
-- what an unless-refused did not refuse
not_first : {A : Type 0} (b : Bool) (why : Why) (r : Result A Why) (x : A) → (if b then Err why else r) ≡ Ok x → b ≡ false
not_first true why r x e = absurd (cc e)
not_first false why r x e = refl

-- points are added, few enough variables each
record IsAdded (ps ps' : List Point) (d : PointDecl) : Type 0 where
  added_are : ps' ≡ ps ++ added_points ps d
  few : has_many_vars ps d ≡ false

-- one answer says one thing
one_answer : (r : Result (List Point × Declared) Why) (x y : List Point × Declared) → r ≡ Ok x → r ≡ Ok y → x.1 ≡ y.1
one_answer r x y e f = let same : x ≡ y = cc (e, f) in ap (λ (t : List Point × Declared). t.1) same

new_added : (ps ps' : List Point) (d : PointDecl) (p : ℕ) (o : Option ℕ) → declared_at ps d o ≡ Ok (ps', New (record { 0 = p })) → IsAdded ps ps' d
new_added ps ps' d p None e = record {
  added_are = new_points ps ps' d (New (record { 0 = p })) e;
  few = not_first (has_many_vars ps d) TooManyVariables _ _ (taken_if (has_many_points (ps ++ added_points ps d)) TooManyPoints _ _ e);
}
new_added ps ps' d p (Some i) e = again (decl_at ps i) e
  where
    at : (b : Bool) → if◌then◌else◌ {A = Result (List Point × Declared) Why} b (Ok (ps, Same (record { 0 = i }))) (Err DuplicatePoint) ≡ Ok (ps', New (record { 0 = p })) → IsAdded ps ps' d
    at true e = absurd (cc (one_answer (Ok (ps, Same (record { 0 = i }))) (ps, Same (record { 0 = i })) (ps', New (record { 0 = p })) refl e))
    at false e = absurd (cc e)

    again : (own : Option PointDecl) → declared_again ps d i own ≡ Ok (ps', New (record { 0 = p })) → IsAdded ps ps' d
    again None e = absurd (cc e)
    again (Some own) e = at (same_decl own d) e

declared_added : (ps ps' : List Point) (d : PointDecl) (p : ℕ) → declared ps d ≡ Ok (ps', New (record { 0 = p })) → IsAdded ps ps' d
unfolding declared
declared_added ps ps' d p e = new_added ps ps' d p (place_of (names ps) d.name) e

same_kept : (ps ps' : List Point) (d : PointDecl) (p : ℕ) (o : Option ℕ) → declared_at ps d o ≡ Ok (ps', Same (record { 0 = p })) → ps' ≡ ps
same_kept ps ps' d p None e =
    by (has_cycle (nodes (ps ++ added_points ps d))) (taken_if (has_many_vars ps d) TooManyVariables _ _ (taken_if (has_many_points (ps ++ added_points ps d)) TooManyPoints _ _ e))
  where
    by : (b : Bool) → if◌then◌else◌ {A = Result (List Point × Declared) Why} b (Err CyclicParents) (Ok (ps ++ added_points ps d, New (record { 0 = length (ps ++ added_points ps d) - 1 }))) ≡ Ok (ps', Same (record { 0 = p }))
        → ps' ≡ ps
    by true e = absurd (cc e)
    by false e =
        let n = length (ps ++ added_points ps d) - 1 in
        absurd (cc (one_answer (Ok (ps ++ added_points ps d, New (record { 0 = n }))) (ps ++ added_points ps d, New (record { 0 = n })) (ps', Same (record { 0 = p })) refl e))
same_kept ps ps' d p (Some i) e = again_points ps ps' d i (Same (record { 0 = p })) (decl_at ps i) e

decls_added : (ps : List Point) (d : PointDecl) → decls_of (added_points ps d) ≡ d ∷ []
decls_added ps d = by (makes_exit ps d)
  where
    by : (b : Bool) → decls_of (if b then implicit_exit d ∷ declared_point d ∷ [] else declared_point d ∷ []) ≡ d ∷ []
    by true = refl
    by false = refl

table_push : (ds : List PointDecl) (qs : List Point) (d : PointDecl) → table_behind qs (ds ++ d ∷ []) ≡ option_and_then (λ t. if_new (declared t d)) (table_behind qs ds)
table_push [] qs d = all (if_new (declared qs d))
  where
    all : (o : Option (List Point)) → option_and_then (λ t. Some t) o ≡ o
    all None = refl
    all (Some t) = refl
table_push (e ∷ ds) qs d = by (if_new (declared qs e)) (λ t. table_push ds t d)
  where
    by : (o : Option (List Point)) → ((t : List Point) → table_behind t (ds ++ d ∷ []) ≡ option_and_then (λ u. if_new (declared u d)) (table_behind t ds))
        → option_and_then (λ t. table_behind t (ds ++ d ∷ [])) o ≡ option_and_then (λ u. if_new (declared u d)) (option_and_then (λ t. table_behind t ds) o)
    by None later = refl
    by (Some t) later = later t

-- the declarations of the points that a declaration adds
decls_behind : (ps ps' : List Point) (d : PointDecl) → IsAdded ps ps' d → decls_of ps' ≡ decls_of ps ++ d ∷ []
decls_behind ps ps' d is =
    ap decls_of is.added_are ∙ filter_map-append decl_if_declared ps (added_points ps d) ∙ ap (λ (l : List PointDecl). decls_of ps ++ l) (decls_added ps d)

-- behind a declaration the table has the declarations that it had, and perhaps this one
pub all_declared : (P : PointDecl → Type 0) (ps ps' : List Point) (d : PointDecl) (line : ℕ) (x : Declared) → All P (decls_of ps) → P d → at_line line (declared ps d) ≡ Ok (ps', x) → All P (decls_of ps')
unfolding declared
all_declared P ps ps' d line (Same p) all own e =
    subst (λ (qs : List Point). All P (decls_of qs)) (sym (same_kept ps ps' d p.0 (place_of (names ps) d.name) (not_refused line (declared ps d) (ps', Same p) e))) all
all_declared P ps ps' d line (New p) all own e =
    let is = new_added ps ps' d p.0 (place_of (names ps) d.name) (not_refused line (declared ps d) (ps', New p) e) in
    subst (All P) (sym (decls_behind ps ps' d is)) (All-push P (decls_of ps) d all own)

-- the table behind a declaration that a block can give
pub own_declared : (ps ps' : List Point) (d : PointDecl) (line : ℕ) (x : Declared) → IsOwnTable ps → CanBeGiven d → at_line line (declared ps d) ≡ Ok (ps', x) → IsOwnTable ps'
unfolding declared
own_declared ps ps' d line (Same p) own given e =
    subst IsOwnTable (sym (same_kept ps ps' d p.0 (place_of (names ps) d.name) (not_refused line (declared ps d) (ps', Same p) e))) own
own_declared ps ps' d line (New p) own given e =
    let told : declared ps d ≡ Ok (ps', New p) = not_refused line (declared ps d) (ps', New p) e in
    let is = new_added ps ps' d p.0 (place_of (names ps) d.name) told in
    let decls : decls_of ps' ≡ decls_of ps ++ d ∷ [] = decls_behind ps ps' d is in
    record {
      made = ap (table_behind []) decls ∙ table_push (decls_of ps) [] d ∙ ap (option_and_then (λ t. if_new (declared t d))) own.made ∙ ap (λ (r : Result (List Point × Declared) Why). if_new r) told;
      given = subst (All CanBeGiven) (sym decls) (All-push CanBeGiven (decls_of ps) d own.given given);
    }

-- ---- variables
abbrev HasFew : List Point → ℕ → Type 0
HasFew ps p = length (all_vars_of ps p) ≤ 16384

abbrev HaveFew : List Point → Type 0
HaveFew ps = (p : ℕ) → p < length ps → HasFew ps p

few_base : (ps : List Point) (d : PointDecl) → has_many_vars ps d ≡ false → length (with_derived_vars (base_vars ps d)) ≤ 16384
unfolding has_many_vars
few_base ps d few =
    let n = length (with_derived (map shape_of (base_vars ps d))) in
    let same : length (with_derived_vars (base_vars ps d)) ≡ n = length_with_derived (base_vars ps d) in
    let most : nat_lt 16384 n ≡ false = second (nat_lt 1024 (length d.vars)) (nat_lt 16384 n) few in
    let less : n ≤ 16384 = at_most n most in
    omega (arith, same, less)
  where
    second : (a b : Bool) → (a || b) ≡ false → b ≡ false
    second true b e = absurd (cc e)
    second false b e = e

    at_most : (n : ℕ) → nat_lt 16384 n ≡ false → n ≤ 16384
    at_most n h = grind (arith, h)

last_there : (qs : List Point) (q : Point) → slice_get (qs ++ q ∷ []) (length qs) ≡ Some q
last_there [] q = refl
last_there (p ∷ qs) q = last_there qs q

last_vars : (qs : List Point) (q : Point) → vars_of (qs ++ q ∷ []) (length qs) ≡ base_vars qs q.decl
unfolding vars_of
last_vars qs q =
    ap (λ (o : Option Point). option_map_or (λ p. base_vars (take (length qs) (qs ++ q ∷ [])) p.decl) o []) (last_there qs q)
    ∙ ap (λ (ts : List Point). base_vars ts q.decl) (take-append_seam qs (q ∷ []))

few_push : (qs : List Point) (q : Point) → HaveFew qs → length (with_derived_vars (base_vars qs q.decl)) ≤ 16384 → HaveFew (qs ++ q ∷ [])
few_push qs q have few p within =
    elim (cases_lt p (length qs)) as (λ _. HasFew (qs ++ q ∷ []) p) [
      | inl l ↦ subst (λ (vars : List VarInfo). length (with_derived_vars vars) ≤ 16384) (sym (same_vars qs (qs ++ q ∷ []) p (q ∷ [], refl) l)) (have p l)
      | inr l ↦
          let at : length qs ≡ p = omega (arith, within, l, length-append qs (q ∷ [])) in
          subst (HasFew (qs ++ q ∷ [])) at (subst (λ (vars : List VarInfo). length (with_derived_vars vars) ≤ 16384) (sym (last_vars qs q)) few)
    ]

few_added : (qs : List Point) (d : PointDecl) → has_many_vars qs d ≡ false → HaveFew qs → HaveFew (qs ++ added_points qs d)
few_added qs d few have = by (makes_exit qs d)
  where
    own : length (with_derived_vars (base_vars qs d)) ≤ 16384
    own = few_base qs d few

    by : (b : Bool) → HaveFew (qs ++ (if b then implicit_exit d ∷ declared_point d ∷ [] else declared_point d ∷ []))
    by true =
        let first = few_push qs (implicit_exit d) have own in
        let again : length (with_derived_vars (base_vars (qs ++ implicit_exit d ∷ []) d)) ≤ 16384 =
        subst (λ (vars : List VarInfo). length (with_derived_vars vars) ≤ 16384) (sym (vars-same qs d)) own in
        subst HaveFew (append_assoc qs (implicit_exit d ∷ []) (declared_point d ∷ [])) (few_push (qs ++ implicit_exit d ∷ []) (declared_point d) first again)
    by false = few_push qs (declared_point d) have own

made_few : (ds : List PointDecl) (qs ps : List Point) → HaveFew qs → table_behind qs ds ≡ Some ps → HaveFew ps
made_few [] qs ps have made = let same : qs ≡ ps = cc made in subst HaveFew same have
made_few (d ∷ ds) qs ps have made = by (declared qs d) refl made (λ next now behind. made_few ds next ps now behind)
  where
    by : (r : Result (List Point × Declared) Why) → declared qs d ≡ r → option_and_then (λ next. table_behind next ds) (if_new r) ≡ Some ps
        → ((next : List Point) → HaveFew next → table_behind next ds ≡ Some ps → HaveFew ps) → HaveFew ps
    by (Ok (next, New p)) is made later = let more = declared_added qs next d p.0 is in later next (subst HaveFew (sym more.added_are) (few_added qs d more.few have)) made
    by (Ok (next, Same p)) is made later = absurd (cc made)
    by (Err why) is made later = absurd (cc made)

pub own_vars : (ps : List Point) → IsOwnTable ps → (p : ℕ) → p < length ps → AreOfPoint (all_vars_of ps p)
own_vars ps own p within =
    let few = made_few (decls_of ps) [] ps (λ q none. absurd (omega (arith, none))) own.made p within in
    of_point (vars_of ps p) (vars_are_base ps p) (omega (arith, few))
