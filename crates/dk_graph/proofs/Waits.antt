-- Links that wait for their parents, noted under the parents' names.
use Rattle.std.proofs.Common.{◌≡◌, ◌∙◌, ℕ, Bool, true, false, List, [], ◌∷◌, ◌++◌, map, filter, bytes_eq, is_none, Option, None, Some, if◌then◌else◌, append_assoc, append-nil, true≢false, refl, ap, sym}
use Rattle.dk_graph.specs.Names.{place_of}
use Rattle.dk_graph.specs.Notes.{noted, noted_under}
use Rattle.dk_graph.specs.Graphs.{Link}
use Rattle.dk_graph.specs.Kept.{waited, waiting_link}
use Rattle.dk_graph.specs.declared.nodes.Waiting.{Waiting}
use Rattle.dk_graph.proofs.Places.{bytes_eq-same, bytes_eq-true}

-- what is under a name once one item more is noted
pub noted_under-noted : {X : Type 0} (notes : List (List ℕ × List X)) (at : List ℕ) (x : X) (name : List ℕ)
    → noted_under (noted notes at x) name ≡ (if bytes_eq name at then noted_under notes name ++ x ∷ [] else noted_under notes name)
noted_under-noted [] at x name = refl
noted_under-noted {X = X} (n ∷ notes) at x name = by (bytes_eq at n.0) refl (bytes_eq name n.0) refl (bytes_eq name at) refl (noted_under-noted notes at x name)
  where
    by : (b : Bool) → bytes_eq at n.0 ≡ b → (d : Bool) → bytes_eq name n.0 ≡ d → (e : Bool) → bytes_eq name at ≡ e
        → noted_under (noted notes at x) name ≡ (if e then noted_under notes name ++ x ∷ [] else noted_under notes name)
        → noted_under (if b then (n.0, n.1 ++ x ∷ []) ∷ notes else n ∷ noted notes at x) name
        ≡ (if e then (if d then n.1 else noted_under notes name) ++ x ∷ [] else (if d then n.1 else noted_under notes name))
    by true ib true id true ie rest = rw id refl
    by true ib true id false ie rest = absurd (true≢false (sym (ap (λ m. bytes_eq m at) (bytes_eq-true name n.0 id) ∙ ap (λ m. bytes_eq m at) (sym (bytes_eq-true at n.0 ib)) ∙ bytes_eq-same at) ∙ ie))
    by true ib false id true ie rest = absurd (true≢false (sym ib ∙ ap (λ m. bytes_eq m n.0) (sym (bytes_eq-true name at ie)) ∙ id))
    by true ib false id false ie rest = rw id refl
    by false ib true id true ie rest = absurd (true≢false (sym id ∙ ap (λ m. bytes_eq m n.0) (bytes_eq-true name at ie) ∙ ib))
    by false ib true id false ie rest = rw id refl
    by false ib false id true ie rest = rw id rest
    by false ib false id false ie rest = rw id rest

-- the links of a list to a name
abbrev pub to_name : List Link → List ℕ → List Waiting
to_name ls name = map waiting_link (filter (λ l. bytes_eq l.parent name) ls)

-- under a name that no point has, the new links to it go last
pub waited-under : (all : List (List ℕ)) (ls : List Link) (notes : List (List ℕ × List Waiting)) (name : List ℕ) → place_of all name ≡ None
    → noted_under (waited all ls notes) name ≡ noted_under notes name ++ to_name ls name
waited-under all [] notes name none = sym (append-nil (noted_under notes name))
waited-under all (l ∷ ls) notes name none =
    waited-under all ls (if is_none (place_of all l.parent) then noted notes l.parent (waiting_link l) else notes) name none
    ∙ by (place_of all l.parent) refl (bytes_eq l.parent name) refl
  where
    by : (o : Option ℕ) → place_of all l.parent ≡ o → (b : Bool) → bytes_eq l.parent name ≡ b
        → noted_under (if is_none o then noted notes l.parent (waiting_link l) else notes) name ++ to_name ls name
        ≡ noted_under notes name ++ map waiting_link (if b then l ∷ filter (λ l. bytes_eq l.parent name) ls else filter (λ l. bytes_eq l.parent name) ls)
    by (Some j) found true is = absurd (some-none (sym found ∙ ap (place_of all) (bytes_eq-true l.parent name is) ∙ none))
      where
        some-none : Some j ≡ None → ⊥
        some-none h = cc
    by (Some j) found false is = refl
    by None found true is =
        let same : name ≡ l.parent = sym (bytes_eq-true l.parent name is) in
        ap (λ xs. xs ++ to_name ls name) (noted_under-noted notes l.parent (waiting_link l) name ∙ ap (λ b. if b then noted_under notes name ++ waiting_link l ∷ [] else noted_under notes name)
        (ap (bytes_eq name) (sym same) ∙ bytes_eq-same name))
        ∙ append_assoc (noted_under notes name) (waiting_link l ∷ []) (to_name ls name)
    by None found false is =
        ap (λ xs. xs ++ to_name ls name) (noted_under-noted notes l.parent (waiting_link l) name ∙ ap (λ b. if b then noted_under notes name ++ waiting_link l ∷ [] else noted_under notes name)
        (other (bytes_eq name l.parent) refl))
      where
        other : (b : Bool) → bytes_eq name l.parent ≡ b → bytes_eq name l.parent ≡ false
        other true h = absurd (true≢false (sym (bytes_eq-same name) ∙ ap (λ m. bytes_eq m name) (bytes_eq-true name l.parent h) ∙ is))
        other false h = h
