-- The table of points as it grows.
use Rattle.std.proofs.Common.{◌≡◌, ◌∙◌, ◌<◌, ◌≤◌, ◌-◌, ℕ, zero, suc, ◌∷◌, All, Bool, true, false, List, [], ◌++◌, length, take, slice_get, if◌then◌else◌, Option, Some, None, Result, Ok, Err, refl, sym, ap, subst, arith, length-append}
use Rattle.std.proofs.lemmas.List.Elements.{All-append, All-cons, All-nil, All-weaker}
use Rattle.std.proofs.lemmas.List.{take-append-le}
use Rattle.std.specs.Option.{option_map_or}
use Rattle.dk_base.specs.declared.kinds.PointId.{PointId}
use Rattle.dk_base.specs.declared.values.Value.{Value}
use Rattle.dk_blocks.specs.Fitting.{ConstantsFit, Extends, FitAt, HasFittingConstants}
use Rattle.dk_derive.specs.Laws.{all_vars_of}
use Rattle.dk_derive.specs.Vars.{with_derived_vars}
use Rattle.dk_base.specs.declared.why.Why.{Why}
use Rattle.dk_base.specs.declared.why.Why.TheVariants.{CyclicParents, DuplicatePoint, TooManyPoints, TooManyVariables}
use Rattle.dk_decl.specs.declared.decls.PointDecl.{PointDecl}
use Rattle.dk_graph.specs.Graphs.{has_cycle}
use Rattle.dk_graph.specs.Names.{place_of}
use Rattle.dk_points.specs.Declaring.{at_line, declared, declared_again, declared_at, declared_new, grown, has_many_points, has_many_vars}
use Rattle.dk_points.specs.Links.{nodes}
use Rattle.dk_points.specs.Sameness.{same_decl}
use Rattle.dk_points.specs.Table.{Point, added_points, decl_at, declared_point, implicit_exit, makes_exit, names}
use Rattle.dk_points.specs.Vars.{base_vars, vars_of}
use Rattle.dk_points.specs.declared.declared.Declared.{Declared}
use Rattle.dk_points.specs.declared.declared.Declared.TheVariants.{New, Same}

-- what an unless-refused gives, where it isn't refused
pub taken_if : {A : Type 0} (b : Bool) (why : Why) (r : Result A Why) (x : A) → (if b then Err why else r) ≡ Ok x → r ≡ Ok x
taken_if true why r x e = absurd (cc (e))
taken_if false why r x e = e

same_ok : {A : Type 0} (r : Result A Why) (x y : A) → r ≡ Ok x → r ≡ Ok y → y ≡ x
same_ok r x y e f = cc

grown_points : (ps ps' : List Point) (x : Declared) → grown ps ≡ Ok (ps', x) → ps' ≡ ps
grown_points ps ps' x e =
    let last : Declared = New (record { 0 = length ps - 1 }) in
    ap (λ (t : List Point × Declared). t.0) (same_ok (Ok (ps, last)) (ps, last) (ps', x) refl (taken_if (has_cycle (nodes ps)) CyclicParents (Ok (ps, last)) (ps', x) e))

pub new_points : (ps ps' : List Point) (d : PointDecl) (x : Declared) → declared_new ps d ≡ Ok (ps', x) → ps' ≡ ps ++ added_points ps d
new_points ps ps' d x e =
    grown_points (ps ++ added_points ps d) ps' x (taken_if (has_many_vars ps d) TooManyVariables _ _ (taken_if (has_many_points (ps ++ added_points ps d)) TooManyPoints _ _ e))

taken_same : {A : Type 0} (b : Bool) (why : Why) (r : A) (x : A) → (if b then Ok r else Err why) ≡ Ok x → x ≡ r
taken_same true why r x e = cc
taken_same false why r x e = absurd (cc (e))

pub again_points : (ps ps' : List Point) (d : PointDecl) (i : ℕ) (x : Declared) (own : Option PointDecl) → declared_again ps d i own ≡ Ok (ps', x) → ps' ≡ ps
again_points ps ps' d i x None e = absurd (cc (e))
again_points ps ps' d i x (Some own) e = ap (λ (t : List Point × Declared). t.0) (taken_same (same_decl own d) DuplicatePoint (ps, Same (record { 0 = i })) (ps', x) e)

-- all of these points are by one declaration
abbrev AreBy : PointDecl → List Point → Type 0
AreBy d more = All (λ (p : Point). p.decl ≡ d) more

append-nil : {X : Type 0} (xs : List X) → xs ≡ xs ++ []
append-nil [] = refl
append-nil (x ∷ xs) = ap (λ (l : List _). x ∷ l) (append-nil xs)

added_by : (ps : List Point) (d : PointDecl) → AreBy d (added_points ps d)
added_by ps d = by (makes_exit ps d)
  where
    by : (b : Bool) → AreBy d (if b then implicit_exit d ∷ declared_point d ∷ [] else declared_point d ∷ [])
    by true = All-cons (λ (p : Point). p.decl ≡ d) (implicit_exit d) (declared_point d ∷ []) refl (All-cons (λ (p : Point). p.decl ≡ d) (declared_point d) [] refl (All-nil (λ (p : Point). p.decl ≡ d)))
    by false = All-cons (λ (p : Point). p.decl ≡ d) (declared_point d) [] refl (All-nil (λ (p : Point). p.decl ≡ d))

abbrev ExtendsBy : PointDecl → List Point → List Point → Type 0
ExtendsBy d ps ps' = (more : List Point) × (ps' ≡ ps ++ more) × AreBy d more

at_points : (ps ps' : List Point) (d : PointDecl) (x : Declared) (o : Option ℕ) → declared_at ps d o ≡ Ok (ps', x) → ExtendsBy d ps ps'
at_points ps ps' d x None e = (added_points ps d, new_points ps ps' d x e, added_by ps d)
at_points ps ps' d x (Some i) e = ([], again_points ps ps' d i x (decl_at ps i) e ∙ append-nil ps, All-nil (λ (p : Point). p.decl ≡ d))

pub not_refused : {A : Type 0} (line : ℕ) (r : Result A Why) (x : A) → at_line line r ≡ Ok x → r ≡ Ok x
not_refused line (Ok y) x e = let same : y ≡ x = cc in ap (λ z. Ok z) same
not_refused line (Err why) x e = absurd (cc (e))

extends_by : (ps ps' : List Point) (d : PointDecl) (line : ℕ) (x : Declared) → at_line line (declared ps d) ≡ Ok (ps', x) → ExtendsBy d ps ps'
unfolding declared
extends_by ps ps' d line x e = at_points ps ps' d x (place_of (names ps) d.name) (not_refused line (declared ps d) (ps', x) e)

-- a declaration that is taken leaves the points as they are, and adds some behind them
pub declared_points : (ps ps' : List Point) (d : PointDecl) (line : ℕ) (x : Declared) → at_line line (declared ps d) ≡ Ok (ps', x) → Extends ps ps'
declared_points ps ps' d line x e = let by = extends_by ps ps' d line x e in (by.0, by.1)

-- whose constants are those of the declaration
pub constants_still : (ps ps' : List Point) (d : PointDecl) (line : ℕ) (x : Declared) → at_line line (declared ps d) ≡ Ok (ps', x) → ConstantsFit ps → HasFittingConstants d → ConstantsFit ps'
constants_still ps ps' d line x e all own =
    let by = extends_by ps ps' d line x e in
    let P : Point → Type 0 = λ p. HasFittingConstants p.decl in
    subst ConstantsFit (sym by.1) (All-append P ps by.0 all (All-weaker (λ (p : Point). p.decl ≡ d) P (λ p same. subst HasFittingConstants (sym same) own) by.0 by.2))

pub more_points : (ps ps' : List Point) → Extends ps ps' → length ps ≤ length ps'
more_points ps ps' (more, is) = omega (arith, ap length is, length-append ps more)

-- the variables of a point stay as they are
pub same_vars : (ps ps' : List Point) (p : ℕ) → Extends ps ps' → p < length ps → vars_of ps' p ≡ vars_of ps p
unfolding vars_of
same_vars ps ps' p (more, is) there =
    ap (λ qs. vars_of qs p) is
    ∙ ap (λ (o : Option Point). option_map_or (λ q. base_vars (take p (ps ++ more)) q.decl) o []) (same_point ps more p there)
    ∙ ap (λ qs. option_map_or (λ q. base_vars qs q.decl) (slice_get ps p) []) (take-append-le p ps more (omega arith)) where
      same_point : (ps more : List Point) (p : ℕ) → p < length ps → slice_get (ps ++ more) p ≡ slice_get ps p
      same_point [] more p there = absurd (omega arith)
      same_point (q ∷ ps) more zero there = refl
      same_point (q ∷ ps) more (suc p) there = same_point ps more p (omega arith)

pub same_all_vars : (ps ps' : List Point) (p : ℕ) → Extends ps ps' → p < length ps → all_vars_of ps' p ≡ all_vars_of ps p
same_all_vars ps ps' p extends there = ap with_derived_vars (same_vars ps ps' p extends there)

-- so do declarations, and with them what fits them
pub still_fits : (ps ps' : List Point) (p : ℕ) (values : List Value) → Extends ps ps' → FitAt ps p values → FitAt ps' p values
still_fits ps ps' p values (more, is) (d, own, fits) = (d, ap (λ qs. decl_at qs p) is ∙ same_decl_of ps more p d own, fits) where
  same_decl_of : (ps more : List Point) (p : ℕ) (d : PointDecl) → decl_at ps p ≡ Some d → decl_at (ps ++ more) p ≡ Some d
  same_decl_of [] more p d own = absurd (cc own)
  same_decl_of (q ∷ ps) more zero d own = own
  same_decl_of (q ∷ ps) more (suc p) d own = same_decl_of ps more p d own

-- a declaration that a point has already leaves the points as they are
pub same_points : (ps ps' : List Point) (d : PointDecl) (line : ℕ) (p : PointId) → at_line line (declared ps d) ≡ Ok (ps', Same p) → ps' ≡ ps
unfolding declared
same_points ps ps' d line p e = by (place_of (names ps) d.name) (not_refused line (declared ps d) (ps', Same p) e)
  where
    is_new : (qs : List Point) → grown qs ≡ Ok (ps', Same p) → ps' ≡ ps
    is_new qs e =
        let last : Declared = New (record { 0 = length qs - 1 }) in
        let same : (ps', Same p) ≡ (qs, last) = same_ok (Ok (qs, last)) (qs, last) (ps', Same p) refl (taken_if (has_cycle (nodes qs)) CyclicParents (Ok (qs, last)) (ps', Same p) e) in
        let which : Same p ≡ last = ap (λ (t : List Point × Declared). t.1) same in
        absurd (cc which)

    by : (o : Option ℕ) → declared_at ps d o ≡ Ok (ps', Same p) → ps' ≡ ps
    by None e = is_new (ps ++ added_points ps d) (taken_if (has_many_vars ps d) TooManyVariables _ _ (taken_if (has_many_points (ps ++ added_points ps d)) TooManyPoints _ _ e))
    by (Some i) e = again_points ps ps' d i (Same p) (decl_at ps i) e
