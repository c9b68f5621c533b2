-- The variables of a point: its own, and then the orig ones.
use Rattle.std.proofs.Common.{◌≡◌, ◌∙◌, ◌+◌, ◌++◌, ◌<◌, ℕ, zero, suc, Bool, true, false, cond, not, List, [], ◌∷◌, drop, filter_map, find, length, Option, Some, None, option_and_then, refl, sym, ap, slice_get, take, bytes_eq, if◌then◌else◌, arith}
use Rattle.std.specs.List.{cons_option}
use Rattle.std.specs.Option.{option_map, option_map_or}
use Rattle.dk_base.specs.Shapes.{is_orig}
use Rattle.dk_base.specs.declared.kinds.Form.{Form}
use Rattle.dk_base.specs.declared.kinds.Form.TheVariants as form
use Rattle.dk_base.specs.declared.kinds.Kind.{Kind}
use Rattle.dk_base.specs.declared.kinds.VarInfo.{VarInfo}
use Rattle.dk_decl.specs.declared.decls.VarDecl.{VarDecl}
use Rattle.dk_points.specs.Table.{Point}
use Rattle.dk_points.specs.Vars.{base_vars, declared_vars, entry_before, entry_of, orig_name, orig_of, orig_var, orig_vars, same_kind, vars_of, vars_of_entry}
use Rattle.dk_calls.specs.Origs.{own_len, own_vars}

take_own : (xs ys : List VarInfo) (n : ℕ) → n ≡ length xs → take n (xs ++ ys) ≡ xs
take_own [] ys zero e = refl
take_own [] ys (suc n) e = absurd (omega arith)
take_own (x ∷ xs) ys zero e = absurd (omega arith)
take_own (x ∷ xs) ys (suc n) e = ap (λ (l : List VarInfo). x ∷ l) (take_own xs ys n (omega arith))

drop_own : (xs ys : List VarInfo) (n : ℕ) → n ≡ length xs → drop n (xs ++ ys) ≡ ys
drop_own [] ys zero e = refl
drop_own [] ys (suc n) e = absurd (omega arith)
drop_own (x ∷ xs) ys zero e = absurd (omega arith)
drop_own (x ∷ xs) ys (suc n) e = drop_own xs ys n (omega arith)

suc_of : (n m : ℕ) → n ≡ m → 1 + n ≡ suc m
suc_of n m e = omega arith

-- the declared variables stand in front
own_front : (vs : List VarDecl) (os : List VarInfo) → own_len os ≡ 0 → own_len (declared_vars vs ++ os) ≡ length (declared_vars vs)
own_front [] os none = none
own_front (v ∷ vs) os none = by v.kind (own_front vs os none)
  where
    by : (k : Option Kind) → own_len (declared_vars vs ++ os) ≡ length (declared_vars vs)
        → own_len (cons_option (option_map (λ k. record { name = v.name; kind = k; form = form.Declared; compar = v.compar }) k) (declared_vars vs) ++ os)
        ≡ length (cons_option (option_map (λ k. record { name = v.name; kind = k; form = form.Declared; compar = v.compar }) k) (declared_vars vs))
    by None h = h
    by (Some k) h = suc_of (own_len (declared_vars vs ++ os)) (length (declared_vars vs)) h

orig_form : (exit : List VarInfo) (v o : VarInfo) → orig_var exit v ≡ Some o → o.form ≡ form.Orig
orig_form exit v o is = by (find (λ w. bytes_eq v.name w.name) exit) is
  where
    chosen : (b : Bool) (w : VarInfo) → (if b then Some (record { name = orig_name v.name; kind = v.kind; form = form.Orig; compar = w.compar }) else None) ≡ Some o → o.form ≡ form.Orig
    chosen true w e =
        let same : record { name = orig_name v.name; kind = v.kind; form = form.Orig; compar = w.compar } ≡ o = cc e in
        ap (λ (u : VarInfo). u.form) (sym same)
    chosen false w e = absurd (cc e)

    by : (found : Option VarInfo) → option_and_then (orig_of v) found ≡ Some o → o.form ≡ form.Orig
    by None e = absurd (cc e)
    by (Some w) e = chosen (same_kind v.kind w.kind) w e

-- and the others are orig ones
no_own : (entry exit : List VarInfo) → own_len (orig_vars entry exit) ≡ 0
unfolding orig_vars
no_own [] exit = refl
no_own (v ∷ vs) exit = by (orig_var exit v) refl (no_own vs exit)
  where
    by : (found : Option VarInfo) → orig_var exit v ≡ found → own_len (filter_map (orig_var exit) vs) ≡ 0 → own_len (cons_option found (filter_map (orig_var exit) vs)) ≡ 0
    by None is h = h
    by (Some o) is h = ap (λ (f : Form). cond (not (is_orig f)) (1 + own_len (filter_map (orig_var exit) vs)) 0) (orig_form exit v o is)

slice_get_take : (ps : List Point) (i e : ℕ) → e < i → slice_get (take i ps) e ≡ slice_get ps e
slice_get_take ps zero e lt = absurd (omega arith)
slice_get_take [] (suc i) e lt = refl
slice_get_take (p ∷ ps) (suc i) zero lt = refl
slice_get_take (p ∷ ps) (suc i) (suc e) lt = slice_get_take ps i e (omega arith)

pub own_part : (ps : List Point) (i : ℕ) → take (own_len (vars_of ps i)) (vars_of ps i) ≡ own_vars ps i
unfolding vars_of own_vars
own_part ps i = by (slice_get ps i)
  where
    by : (o : Option Point) → take (own_len (option_map_or (λ p. base_vars (take i ps) p.decl) o [])) (option_map_or (λ p. base_vars (take i ps) p.decl) o [])
        ≡ option_map_or (λ q. declared_vars q.decl.vars) o []
    by None = refl
    by (Some q) =
        let origs : List VarInfo = orig_vars (vars_of_entry (take i ps) (entry_before (take i ps) q.decl.name)) (declared_vars q.decl.vars) in
        take_own (declared_vars q.decl.vars) origs (own_len (declared_vars q.decl.vars ++ origs))
        (own_front q.decl.vars origs (no_own (vars_of_entry (take i ps) (entry_before (take i ps) q.decl.name)) (declared_vars q.decl.vars)))

pub orig_part : (ps : List Point) (i e : ℕ) → entry_of ps i ≡ Some e → e < i → drop (own_len (vars_of ps i)) (vars_of ps i) ≡ orig_vars (own_vars ps e) (own_vars ps i)
unfolding vars_of own_vars entry_of
orig_part ps i e entered before = by (slice_get ps i) entered
  where
    by : (o : Option Point) → option_and_then (λ q. entry_before (take i ps) q.decl.name) o ≡ Some e
        → drop (own_len (option_map_or (λ p. base_vars (take i ps) p.decl) o [])) (option_map_or (λ p. base_vars (take i ps) p.decl) o [])
        ≡ orig_vars (option_map_or (λ q. declared_vars q.decl.vars) (slice_get ps e) []) (option_map_or (λ q. declared_vars q.decl.vars) o [])
    by None h = absurd (cc h)
    by (Some q) h =
        let own : List VarInfo = declared_vars q.decl.vars in
        let entry : List VarInfo = vars_of_entry (take i ps) (entry_before (take i ps) q.decl.name) in
        drop_own own (orig_vars entry own) (own_len (own ++ orig_vars entry own)) (own_front q.decl.vars (orig_vars entry own) (no_own entry own))
        ∙ ap (λ (o : Option ℕ). orig_vars (vars_of_entry (take i ps) o) own) h
        ∙ ap (λ (o : Option Point). orig_vars (option_map_or (λ p. declared_vars p.decl.vars) o []) own) (slice_get_take ps i e before)
