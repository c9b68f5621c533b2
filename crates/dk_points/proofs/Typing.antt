-- Kinds and comparabilities by name, as a map has them.
use Rattle.std.proofs.Common.{◌≡◌, ◌∙◌, ℕ, ◌+◌, ◌<◌, Bool, true, false, cond, List, [], ◌∷◌, ◌++◌, length, take, get_or, find, filter_map, Option, Some, None, option_map, option_and_then, is_some, if◌then◌else◌, bytes_eq, refl, sym, ap}
use Rattle.std.proofs.lemmas.List.{take_more}
use Rattle.std.proofs.lemmas.Slice.Eq.{bytes_eq-Decides}
use Rattle.std.specs.List.{cons_option}
use Rattle.std.specs.Map.{lookup}
use Rattle.std.specs.Option.{option_or}
use Rattle.dk_base.specs.declared.kinds.Compar.{Compar}
use Rattle.dk_base.specs.declared.kinds.Form.TheVariants as form
use Rattle.dk_base.specs.declared.kinds.Kind.{Kind}
use Rattle.dk_base.specs.declared.kinds.VarInfo.{VarInfo}
use Rattle.dk_decl.specs.declared.decls.VarDecl.{VarDecl}
use Rattle.dk_points.specs.Vars.{declared_var, declared_vars, orig_of, orig_var, orig_vars}
use Rattle.dk_points.specs.VarsByName.{orig_by, orig_like, typed_in}
use Rattle.indexmap.specs.IndexMap.{insert_entry}

-- a new key goes last
pub lookup-insert_new : {K V : Type 0} (f : K → List ℕ) (es : List (K × V)) (key : K) (v : V) (name : List ℕ) → lookup (λ k. bytes_eq (f key) (f k)) es ≡ None
    → lookup (λ k. bytes_eq name (f k)) (insert_entry (λ a b. bytes_eq (f a) (f b)) es key v)
    ≡ option_or (lookup (λ k. bytes_eq name (f k)) es) (if bytes_eq name (f key) then Some v else None)
lookup-insert_new f [] key v name none = refl
lookup-insert_new {K} {V} f (e ∷ es) key v name none = go (bytes_eq (f key) (f e.0)) refl none (lookup-insert_new f es key v name)
  where
    last : Option V
    last = if bytes_eq name (f key) then Some v else None

    go : (b : Bool) → bytes_eq (f key) (f e.0) ≡ b → cond b (Some e.1) (lookup (λ k. bytes_eq (f key) (f k)) es) ≡ None
        → (lookup (λ k. bytes_eq (f key) (f k)) es ≡ None → lookup (λ k. bytes_eq name (f k)) (insert_entry (λ a c. bytes_eq (f a) (f c)) es key v) ≡ option_or (lookup (λ k. bytes_eq name (f k)) es) last)
        → lookup (λ k. bytes_eq name (f k)) (if b then (e.0, v) ∷ es else e ∷ insert_entry (λ a c. bytes_eq (f a) (f c)) es key v)
        ≡ option_or (cond (bytes_eq name (f e.0)) (Some e.1) (lookup (λ k. bytes_eq name (f k)) es)) last
    go true is h rest = absurd (cc)
    go false is h rest = here (bytes_eq name (f e.0))
      where
        here : (b : Bool) → cond b (Some e.1) (lookup (λ k. bytes_eq name (f k)) (insert_entry (λ a c. bytes_eq (f a) (f c)) es key v))
            ≡ option_or (cond b (Some e.1) (lookup (λ k. bytes_eq name (f k)) es)) last
        here true = refl
        here false = rest h

abbrev type_of : VarInfo → Kind × Compar
type_of w = (w.kind, w.compar)

abbrev if_named : List ℕ → VarInfo → Option (Kind × Compar)
if_named name w = if bytes_eq name w.name then Some (type_of w) else None

typed_append : (name : List ℕ) (vs : List VarInfo) (w : VarInfo) → typed_in (vs ++ w ∷ []) name ≡ option_or (typed_in vs name) (if_named name w)
typed_append name [] w = go (bytes_eq name w.name)
  where
    go : (b : Bool) → option_map type_of (cond b (Some w) None) ≡ (if b then Some (type_of w) else None)
    go true = refl
    go false = refl
typed_append name (v ∷ vs) w = go (bytes_eq name v.name) (typed_append name vs w)
  where
    go : (b : Bool) → typed_in (vs ++ w ∷ []) name ≡ option_or (typed_in vs name) (if_named name w)
        → option_map type_of (cond b (Some v) (find (λ u. bytes_eq name u.name) (vs ++ w ∷ []))) ≡ option_or (option_map type_of (cond b (Some v) (find (λ u. bytes_eq name u.name) vs))) (if_named name w)
    go true h = refl
    go false h = h

typed_more : (vs : List VarInfo) (i : ℕ) (w : VarInfo) (name : List ℕ) → i < length vs → w ≡ get_or vs i w → typed_in (take (i + 1) vs) name ≡ option_or (typed_in (take i vs) name) (if_named name w)
typed_more vs i w name h e =
    ap (λ xs. typed_in xs name) (take_more vs i w h ∙ ap (λ x. take i vs ++ x ∷ []) (sym e)) ∙ typed_append name (take i vs) w

-- a variable whose name is new is looked up by it
pub typed-new : (vs : List VarInfo) (i : ℕ) (w : VarInfo) (before after : List ℕ → Option (Kind × Compar)) → i < length vs → w ≡ get_or vs i w
    → ((name : List ℕ) → before name ≡ typed_in (take i vs) name) → ((name : List ℕ) → after name ≡ option_or (before name) (if_named name w))
    → (name : List ℕ) → after name ≡ typed_in (take (i + 1) vs) name
typed-new vs i w before after h e is more name = more name ∙ ap (λ o. option_or o (if_named name w)) (is name) ∙ sym (typed_more vs i w name h e)

-- and one whose name is known is not
pub typed-known : (vs : List VarInfo) (i : ℕ) (w : VarInfo) (look : List ℕ → Option (Kind × Compar)) → i < length vs → w ≡ get_or vs i w
    → ((name : List ℕ) → look name ≡ typed_in (take i vs) name) → is_some (look w.name) ≡ true
    → (name : List ℕ) → look name ≡ typed_in (take (i + 1) vs) name
typed-known vs i w look h e is known name = go (bytes_eq name w.name) refl ∙ sym (typed_more vs i w name h e)
  where
    kept : (o last : Option (Kind × Compar)) → is_some o ≡ true → o ≡ option_or o last
    kept None last h = absurd (cc)
    kept (Some x) last h = refl

    none_more : (o : Option (Kind × Compar)) → o ≡ option_or o None
    none_more None = refl
    none_more (Some x) = refl

    go : (b : Bool) → bytes_eq name w.name ≡ b → look name ≡ option_or (typed_in (take i vs) name) (if_named name w)
    go true same =
        let one : name ≡ w.name = (bytes_eq-Decides name w.name).0 same in
        is name ∙ kept (typed_in (take i vs) name) (if_named name w) (ap is_some (sym (is name) ∙ ap look one) ∙ known)
    go false same = is name ∙ none_more (typed_in (take i vs) name) ∙ ap (λ b. option_or (typed_in (take i vs) name) (if b then Some (type_of w) else None)) (sym same)

-- ---- orig variables by such a look-up

module _ (ws : List VarInfo) (look : List ℕ → Option (Kind × Compar)) (is : (name : List ℕ) → look name ≡ typed_in ws name) where
  like-found : (v : VarInfo) (o : Option VarInfo) → option_and_then (orig_like v.name v.kind) (option_map type_of o) ≡ option_and_then (orig_of v) o
  like-found v None = refl
  like-found v (Some w) = refl

  orig-by : (v : VarDecl) → orig_by look v ≡ option_and_then (orig_var ws) (declared_var v)
  orig-by v = go v.kind
    where
      own : Kind → VarInfo
      own k = record { name = v.name; kind = k; form = form.Declared; compar = v.compar }

      go : (o : Option Kind) → option_and_then (λ k. option_and_then (orig_like v.name k) (look v.name)) o
          ≡ option_and_then (orig_var ws) (option_map own o)
      go None = refl
      go (Some k) = ap (option_and_then (orig_like v.name k)) (is v.name) ∙ like-found (own k) (find (λ w. bytes_eq v.name w.name) ws)

  pub orig-vars-by : (vs : List VarDecl) → filter_map (orig_by look) vs ≡ orig_vars (declared_vars vs) ws
  unfolding orig_vars
  orig-vars-by [] = refl
  orig-vars-by (v ∷ vs) = ap (λ o. cons_option o (filter_map (orig_by look) vs)) (orig-by v) ∙ go (declared_var v) (orig-vars-by vs)
    where
      go : (o : Option VarInfo) → filter_map (orig_by look) vs ≡ filter_map (orig_var ws) (declared_vars vs)
          → cons_option (option_and_then (orig_var ws) o) (filter_map (orig_by look) vs) ≡ filter_map (orig_var ws) (cons_option o (declared_vars vs))
      go None h = h
      go (Some w) h = ap (cons_option (orig_var ws w)) h
