-- The forms of base variables.
use Rattle.std.proofs.Common.{◌≡◌, ◌∙◌, inl, inr, ℕ, ◌+◌, ◌-◌, Bool, true, false, All, List, ◌++◌, length, take, filter_map, find, Option, Some, None, IfSome, option_map, option_and_then, slice_range, codes, if◌then◌else◌, bytes_eq, length-append, refl, sym, ap, arith}
use Rattle.std.proofs.lemmas.List.{take_at}
use Rattle.std.proofs.lemmas.List.Elements.{All-append}
use Rattle.dk_base.specs.declared.kinds.Form.TheVariants as form
use Rattle.dk_base.specs.declared.kinds.Kind.{Kind}
use Rattle.dk_base.specs.declared.kinds.VarInfo.{VarInfo}
use Rattle.dk_decl.specs.declared.decls.PointDecl.{PointDecl}
use Rattle.dk_decl.specs.declared.decls.VarDecl.{VarDecl}
use Rattle.dk_points.proofs.EndsOfEdges.{all-filter_map, always}
use Rattle.dk_points.specs.Laws.{IsBaseVar}
use Rattle.dk_points.specs.Table.{Point}
use Rattle.dk_points.specs.Vars.{base_vars, declared_var, declared_vars, entry_before, orig_name, orig_of, orig_var, orig_vars, same_kind, vars_of_entry}

-- the name inside orig(..)
inside : (n : List ℕ) → slice_range (orig_name n) 5 (length (orig_name n) - 1) ≡ n
inside n =
    let one : length (n ++ codes ")") ≡ length n + 1 = length-append n (codes ")") in
    let len : length (orig_name n) - 1 - 5 ≡ length n = omega (arith, one) in
    ap (λ k. take k (n ++ codes ")")) len ∙ take_at n (codes ")") (length n) refl

declared-base : (v : VarDecl) → IfSome (declared_var v) IsBaseVar
declared-base v = go v.kind
  where
    go : (o : Option Kind) → IfSome (option_map (λ k. record { name = v.name; kind = k; form = form.Declared; compar = v.compar }) o) IsBaseVar
    go None = tt
    go (Some k) = inl refl

orig-base : (exit : List VarInfo) (v : VarInfo) → IfSome (orig_var exit v) IsBaseVar
orig-base exit v = go (find (λ w. bytes_eq v.name w.name) exit)
  where
    at : (w : VarInfo) (b : Bool) → IfSome (if b then Some (record { name = orig_name v.name; kind = v.kind; form = form.Orig; compar = w.compar }) else None) IsBaseVar
    at w true = inr (refl, ap orig_name (sym (inside v.name)))
    at w false = tt

    go : (o : Option VarInfo) → IfSome (option_and_then (orig_of v) o) IsBaseVar
    go None = tt
    go (Some w) = at w (same_kind v.kind w.kind)

pub base-vars-are : (ps : List Point) (d : PointDecl) → All IsBaseVar (base_vars ps d)
unfolding orig_vars
base-vars-are ps d =
    let entry = vars_of_entry ps (entry_before ps d.name) in
    All-append IsBaseVar (declared_vars d.vars) (filter_map (orig_var (declared_vars d.vars)) entry)
    (all-filter_map declared_var (λ v. Unit {0}) IsBaseVar (λ v h. declared-base v) d.vars (always (λ v. Unit {0}) (λ v. tt) d.vars))
    (all-filter_map (orig_var (declared_vars d.vars)) (λ v. Unit {0}) IsBaseVar (λ v h. orig-base (declared_vars d.vars) v) entry (always (λ v. Unit {0}) (λ v. tt) entry))
