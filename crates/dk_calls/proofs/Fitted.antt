-- The values of an exit fit the base variables of its point.
use Rattle.std.proofs.Common.{◌≡◌, ◌∙◌, ◌++◌, ℕ, Bool, true, false, List, [], ◌∷◌, filter_map, find, Option, Some, None, option_and_then, option_map, refl, sym, ap, slice_get, subst, take, bytes_eq, if◌then◌else◌}
use Rattle.std.proofs.lemmas.List.{take-append-drop}
use Rattle.std.proofs.lemmas.List.Elements.{All-cons, All-head, All-nil, All-tail}
use Rattle.std.specs.List.{cons_option, zip}
use Rattle.std.specs.Option.{option_map_or}
use Rattle.dk_base.specs.Values.Spelling.{IsWritten}
use Rattle.dk_base.specs.Values.{IsOfKind}
use Rattle.dk_base.specs.declared.kinds.Kind.{Kind}
use Rattle.dk_base.specs.declared.kinds.Form.TheVariants as form
use Rattle.dk_base.specs.declared.kinds.VarInfo.{VarInfo}
use Rattle.dk_base.specs.declared.values.Value.{Value}
use Rattle.dk_decl.specs.declared.decls.PointDecl.{PointDecl}
use Rattle.dk_decl.specs.declared.decls.VarDecl.{VarDecl}
use Rattle.dk_points.specs.Table.{Point, decl_at, decl_if_declared}
use Rattle.dk_points.specs.Vars.{declared_vars, orig_name, orig_of, orig_var, orig_vars, same_kind, vars_of}
use Rattle.dk_trace.specs.Fitting.{FitKinds, declared_kinds}
use Rattle.dk_calls.specs.Fitting.{ExitValuesFit, base_kinds}
use Rattle.dk_calls.specs.Origs.{orig_values, own_len, own_vars}
use Rattle.dk_calls.proofs.Owning.{orig_part, own_part}

-- the kinds of the variables that a block declares
kinds_declared : (vs : List VarDecl) → base_kinds (declared_vars vs) ≡ declared_kinds vs
kinds_declared [] = refl
kinds_declared (v ∷ vs) = by v.kind (kinds_declared vs)
  where
    by : (k : Option Kind) → base_kinds (declared_vars vs) ≡ declared_kinds vs
        → base_kinds (cons_option (option_map (λ k. record { name = v.name; kind = k; form = form.Declared; compar = v.compar }) k) (declared_vars vs)) ≡ cons_option k (declared_kinds vs)
    by None h = h
    by (Some k) h = ap (λ (ks : List Kind). k ∷ ks) h

own_kinds : (ps : List Point) (p : ℕ) (d : PointDecl) → decl_at ps p ≡ Some d → base_kinds (own_vars ps p) ≡ declared_kinds d.vars
unfolding own_vars
own_kinds ps p d e = by (slice_get ps p) e
  where
    declared : (q : Point) (b : Bool) → (if b then None else Some q.decl) ≡ Some d → base_kinds (declared_vars q.decl.vars) ≡ declared_kinds d.vars
    declared q true e = absurd (cc e)
    declared q false e = let same : q.decl ≡ d = cc e in kinds_declared q.decl.vars ∙ ap (λ (x : PointDecl). declared_kinds x.vars) same

    by : (o : Option Point) → option_and_then decl_if_declared o ≡ Some d → base_kinds (option_map_or (λ q. declared_vars q.decl.vars) o []) ≡ declared_kinds d.vars
    by None e = absurd (cc e)
    by (Some q) e = declared q q.is_implicit e

-- an orig variable has its variable's kind
orig_kind : (exit : List VarInfo) (v o : VarInfo) → orig_var exit v ≡ Some o → v.kind ≡ o.kind
orig_kind exit v o is = by (find (λ w. bytes_eq v.name w.name) exit) is
  where
    chosen : (b : Bool) (w : VarInfo) → (if b then Some (record { name = orig_name v.name; kind = v.kind; form = form.Orig; compar = w.compar }) else None) ≡ Some o → v.kind ≡ o.kind
    chosen true w e =
        let same : record { name = orig_name v.name; kind = v.kind; form = form.Orig; compar = w.compar } ≡ o = cc e in
        ap (λ (u : VarInfo). u.kind) same
    chosen false w e = absurd (cc e)

    by : (found : Option VarInfo) → option_and_then (orig_of v) found ≡ Some o → v.kind ≡ o.kind
    by None e = absurd (cc e)
    by (Some w) e = chosen (same_kind v.kind w.kind) w e

fit_one : (k : Kind) (ks : List Kind) (x : Value) (xs : List Value) → IsOfKind k x → IsWritten x → FitKinds ks xs → FitKinds (k ∷ ks) (x ∷ xs)
fit_one k ks x xs own written h = ((own, h.0), All-cons IsWritten x xs written h.1)

origs_fit : (entry exit : List VarInfo) (xs : List Value) → FitKinds (base_kinds entry) xs → FitKinds (base_kinds (orig_vars entry exit)) (orig_values entry exit xs)
unfolding orig_vars orig_values
origs_fit [] exit xs h = (tt, All-nil IsWritten)
origs_fit (v ∷ vs) exit [] h = absurd h.0
origs_fit (v ∷ vs) exit (x ∷ xs) h =
    by (orig_var exit v) refl (origs_fit vs exit xs (h.0.1, All-tail IsWritten x xs h.1))
  where
    by : (found : Option VarInfo) → orig_var exit v ≡ found
        → FitKinds (base_kinds (filter_map (orig_var exit) vs)) (filter_map (λ e. option_map (λ _. e.1) (orig_var exit e.0)) (zip vs xs))
        → FitKinds (base_kinds (cons_option found (filter_map (orig_var exit) vs))) (cons_option (option_map (λ _. x) found) (filter_map (λ e. option_map (λ _. e.1) (orig_var exit e.0)) (zip vs xs)))
    by None is rest = rest
    by (Some o) is rest =
        let P : Kind → Type 0 = λ k. IsOfKind k x in
        fit_one o.kind (base_kinds (filter_map (orig_var exit) vs)) x (filter_map (λ e. option_map (λ _. e.1) (orig_var exit e.0)) (zip vs xs))
        (subst P (orig_kind exit v o is) h.0.0) (All-head IsWritten x xs h.1) rest

fit_both : (vs bs : List VarInfo) (xs ys : List Value) → FitKinds (base_kinds vs) xs → FitKinds (base_kinds bs) ys → FitKinds (base_kinds (vs ++ bs)) (xs ++ ys)
fit_both [] bs [] ys h k = k
fit_both [] bs (x ∷ xs) ys h k = absurd h.0
fit_both (a ∷ vs) bs [] ys h k = absurd h.0
fit_both (a ∷ vs) bs (x ∷ xs) ys h k =
    fit_one a.kind (base_kinds (vs ++ bs)) x (xs ++ ys) h.0.0 (All-head IsWritten x xs h.1) (fit_both vs bs xs ys (h.0.1, All-tail IsWritten x xs h.1) k)

pub exit_values_fit : ExitValuesFit
exit_values_fit ps s w exit entry entered before is_exit exit_fits is_entry entry_fits =
    let own : List VarInfo = own_vars ps s.point in
    let origs : List VarInfo = orig_vars (own_vars ps w.point) own in
    let n : ℕ = own_len (vars_of ps s.point) in
    let parts : own ++ origs ≡ vars_of ps s.point =
    sym (ap (λ (l : List VarInfo). l ++ origs) (own_part ps s.point))
    ∙ sym (ap (λ (l : List VarInfo). take n (vars_of ps s.point) ++ l) (orig_part ps s.point w.point entered before))
    ∙ take-append-drop n (vars_of ps s.point) in
    let P : List Kind → Type 0 = λ ks. FitKinds ks s.values in
    let Q : List Kind → Type 0 = λ ks. FitKinds ks w.values in
    let R : List VarInfo → Type 0 = λ vs. FitKinds (base_kinds vs) (s.values ++ orig_values (own_vars ps w.point) own w.values) in
    subst R parts
    (fit_both own origs s.values (orig_values (own_vars ps w.point) own w.values)
    (subst P (sym (own_kinds ps s.point exit is_exit)) exit_fits)
    (origs_fit (own_vars ps w.point) own w.values (subst Q (sym (own_kinds ps w.point entry is_entry)) entry_fits)))
