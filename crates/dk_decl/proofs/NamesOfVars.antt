-- Names that are kept beside the variables.
use Rattle.std.proofs.Common.{◌≡◌, ◌∙◌, ◌||◌, ℕ, Bool, true, false, List, [], ◌∷◌, ◌++◌, refl, sym, ap, subst, if◌then◌else◌, bytes_eq}
use Rattle.std.specs.List.{list_any}
use Rattle.std.proofs.lemmas.List.Folds.{list_any-append}
use Rattle.std.proofs.lemmas.Slice.Eq.{bytes_eq-Decides}
use Rattle.indexmap.specs.IndexSet.{insert_key}
use Rattle.dk_decl.specs.VarNames.{has_name}
use Rattle.dk_decl.specs.declared.decls.VarDecl.{VarDecl}

or_false : (b : Bool) → (b || false) ≡ b
or_false true = refl
or_false false = refl

-- with one more name in the set and one more variable of this name in the list, the same names are found in both
pub found_with : {K : Type 0} (f : K → List ℕ) (keys : List K) (key : K) (vs : List VarDecl) (v : VarDecl) → f key ≡ v.name
    → ((name : List ℕ) → list_any (λ k. bytes_eq name (f k)) keys ≡ has_name name vs) → (name : List ℕ)
    → list_any (λ k. bytes_eq name (f k)) (insert_key (λ a b. bytes_eq (f a) (f b)) keys key) ≡ has_name name (vs ++ v ∷ [])
found_with {K} f keys key vs v same paired name = go (list_any (λ k. bytes_eq (f key) (f k)) keys) (bytes_eq name v.name) refl refl
  where
    longer : has_name name (vs ++ v ∷ []) ≡ (has_name name vs || (bytes_eq name v.name || false))
    longer = list_any-append (λ w. bytes_eq name w.name) vs (v ∷ [])

    go : (present here : Bool) → list_any (λ k. bytes_eq (f key) (f k)) keys ≡ present → bytes_eq name v.name ≡ here
        → list_any (λ k. bytes_eq name (f k)) (if present then keys else keys ++ key ∷ []) ≡ has_name name (vs ++ v ∷ [])
    go false here p h = list_any-append (λ k. bytes_eq name (f k)) keys (key ∷ [])
        ∙ ap (λ b. b || (bytes_eq name (f key) || false)) (paired name)
        ∙ ap (λ n. has_name name vs || (bytes_eq name n || false)) same ∙ sym longer
    go true true p h =
        let e : f key ≡ name = same ∙ sym ((bytes_eq-Decides name v.name).0 h) in
        let found : list_any (λ k. bytes_eq name (f k)) keys ≡ true =
        let P : List ℕ → Type 0 = λ n. list_any (λ k. bytes_eq n (f k)) keys ≡ true in subst P e p in
        found ∙ sym (longer ∙ ap (λ b. b || (bytes_eq name v.name || false)) (sym (paired name) ∙ found))
    go true false p h = paired name ∙ sym (longer ∙ ap (λ b. has_name name vs || (b || false)) h ∙ or_false (has_name name vs))
