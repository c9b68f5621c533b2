-- The values of base variables, and what is derived of them.
use Rattle.std.proofs.Common.{◌≡◌, ◌∙◌, ℕ, All, List, [], ◌∷◌, ◌++◌, drop, length, map, slice_get, take, Option, Some, None, refl, sym, ap, subst}
use Rattle.std.proofs.lemmas.List.{append-nil, drop_at, length-map}
use Rattle.std.proofs.lemmas.List.Elements.{All-head, All-nil, All-tail, filter-append}
use Rattle.std.specs.List.{AllZip, enumerate_from, flat_map}
use Rattle.std.specs.Option.{option_map_or}
use Rattle.dk_base.specs.Shapes.{AreWithDerived, Shape, is_base_form, of_sequence, shape_of, with_derived}
use Rattle.dk_base.specs.Values.{IsOfKind}
use Rattle.dk_base.specs.Values.Spelling.{IsWritten}
use Rattle.dk_base.specs.declared.kinds.VarInfo.{VarInfo}
use Rattle.dk_base.specs.declared.values.Value.{Value}
use Rattle.dk_derive.proofs.Deriving.{IsDerived, are_with_derived, base_form, given_derived}
use Rattle.dk_derive.proofs.Typed.{values_of_kinds}
use Rattle.dk_derive.specs.Laws.{all_vars_of, base_of, var_kinds}
use Rattle.dk_derive.specs.Values.{values_by_form}
use Rattle.dk_derive.specs.Vars.{derived_var, with_derived_vars}
use Rattle.dk_points.proofs.BaseForms.{base-vars-are}
use Rattle.dk_points.specs.Laws.{IsBaseVar}
use Rattle.dk_points.specs.Table.{Point}
use Rattle.dk_points.specs.Vars.{base_vars, vars_of}
use Rattle.dk_trace.specs.Fitting.{FitKinds}

pub vars_are_base : (ps : List Point) (p : ℕ) → All IsBaseVar (vars_of ps p)
unfolding vars_of
vars_are_base ps p = by (slice_get ps p)
  where
    by : (o : Option Point) → All IsBaseVar (option_map_or (λ q. base_vars (take p ps) q.decl) o [])
    by None = All-nil IsBaseVar
    by (Some q) = base-vars-are (take p ps) q.decl

-- the variables of a point are base ones with what is derived of them
pub are_derived : (ps : List Point) (p : ℕ) → AreWithDerived (all_vars_of ps p)
are_derived ps p = are_with_derived (vars_of ps p) (vars_are_base ps p)

all_base : (vars : List VarInfo) → All IsBaseVar vars → base_of vars ≡ vars
all_base [] all = refl
all_base (v ∷ vars) all = rw (base_form v (All-head IsBaseVar v vars all)) (ap (λ (l : List VarInfo). v ∷ l) (all_base vars (All-tail IsBaseVar v vars all)))

none_base : (base : List VarInfo) (ds : List Shape) → All IsDerived ds → base_of (map (derived_var base) ds) ≡ []
none_base base [] all = refl
none_base base (d ∷ ds) all = rw (All-head IsDerived d ds all) (none_base base ds (All-tail IsDerived d ds all))

-- the base variables among them are those
base_again : (base : List VarInfo) → All IsBaseVar base → base_of (with_derived_vars base) ≡ base
unfolding with_derived_vars
base_again base all =
    let es : List (ℕ × Shape) = enumerate_from 0 (map shape_of base) in
    let given : List Shape = flat_map (of_sequence es) es in
    let behind : drop (length base) (with_derived (map shape_of base)) ≡ given = drop_at (map shape_of base) given (length base) (length-map base shape_of) in
    ap (λ (ds : List Shape). base_of (base ++ map (derived_var base) ds)) behind
    ∙ filter-append (λ (v : VarInfo). is_base_form v.form) base (map (derived_var base) given)
    ∙ ap (λ (l : List VarInfo). l ++ base_of (map (derived_var base) given)) (all_base base all)
    ∙ ap (λ (l : List VarInfo). base ++ l) (none_base base given (given_derived es))
    ∙ append-nil base

-- values that fit a point's base variables fit the base ones among all of them
pub base_among : (ps : List Point) (p : ℕ) (values : List Value) → FitKinds (var_kinds (vars_of ps p)) values → FitKinds (var_kinds (base_of (all_vars_of ps p))) values
base_among ps p values fits =
    let P : List VarInfo → Type 0 = λ vars. FitKinds (var_kinds vars) values in
    subst P (sym (base_again (vars_of ps p) (vars_are_base ps p))) fits

-- with the derived ones they fit all variables
pub all_fit : (ps : List Point) (p : ℕ) (base values : List Value) → FitKinds (var_kinds (vars_of ps p)) base → values ≡ values_by_form (all_vars_of ps p) base → All IsWritten values
    → FitKinds (var_kinds (all_vars_of ps p)) values
all_fit ps p base values fits is written =
    let vars = all_vars_of ps p in
    let among = base_among ps p base fits in
    (subst (λ (vs : List Value). AllZip IsOfKind (var_kinds vars) vs) (sym is) (values_of_kinds vars base (are_derived ps p) among.0), written)
