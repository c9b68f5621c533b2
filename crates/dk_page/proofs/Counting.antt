-- How often a name is noted.
use Rattle.std.proofs.Common.{◌≡◌, ◌∙◌, ◌+◌, ◌++◌, ◌∷◌, [], ℕ, List, Bool, true, false, ap, arith, bytes_eq, filter, length, refl, subst, sym}
use Rattle.std.proofs.lemmas.Bool.{true≢false}
use Rattle.std.proofs.lemmas.List.{length-append, length_push}
use Rattle.std.proofs.lemmas.List.Elements.{filter-append}
use Rattle.std.proofs.lemmas.Slice.Eq.{bytes_eq-Decides}
use Rattle.dk_graph.specs.Notes.{noted, noted_under}
use Rattle.dk_page.specs.Headings.{IsNext, StandsFor}
use Rattle.dk_page.specs.Ids.{id_behind, times}

abbrev Noted : Type 0
Noted = List (List ℕ × List ℕ)

is_same : (name : List ℕ) → bytes_eq name name ≡ true
is_same name = (bytes_eq-Decides name name).1 refl

-- one more under its name
noted_here : (kept : Noted) (name : List ℕ) (x : ℕ) → length (noted_under (noted kept name x) name) ≡ length (noted_under kept name) + 1
noted_here [] name x = rw (is_same name) refl
noted_here (e ∷ es) name x = by (bytes_eq name e.0) refl (noted_here es name x)
  where
    by : (b : Bool) → bytes_eq name e.0 ≡ b → length (noted_under (noted es name x) name) ≡ length (noted_under es name) + 1
        → length (noted_under (noted (e ∷ es) name x) name) ≡ length (noted_under (e ∷ es) name) + 1
    by true h rest = rw (h, h) (length_push e.1 x)
    by false h rest = rw (h, h) rest

-- and as many as before under another
noted_elsewhere : (kept : Noted) (name : List ℕ) (x : ℕ) (other : List ℕ) → bytes_eq other name ≡ false
    → noted_under (noted kept name x) other ≡ noted_under kept other
noted_elsewhere [] name x other isnt = rw isnt refl
noted_elsewhere (e ∷ es) name x other isnt = by (bytes_eq name e.0) (bytes_eq other e.0) refl refl (noted_elsewhere es name x other isnt)
  where
    by : (b c : Bool) → bytes_eq name e.0 ≡ b → bytes_eq other e.0 ≡ c → noted_under (noted es name x) other ≡ noted_under es other
        → noted_under (noted (e ∷ es) name x) other ≡ noted_under (e ∷ es) other
    by true true p q rest =
        let same : other ≡ name = (bytes_eq-Decides other e.0).0 q ∙ sym ((bytes_eq-Decides name e.0).0 p) in
        absurd (true≢false (sym (ap (λ (m : List ℕ). bytes_eq m name) same ∙ is_same name) ∙ isnt))
    by true false p q rest = rw (p, q) refl
    by false true p q rest = rw (p, q) refl
    by false false p q rest = rw (p, q) rest

-- so it is with the names themselves
times_here : (names : List (List ℕ)) (name : List ℕ) → times name (names ++ name ∷ []) ≡ times name names + 1
times_here names name =
    ap length (filter-append (bytes_eq name) names (name ∷ []))
    ∙ rw (is_same name) (length-append (filter (bytes_eq name) names) (name ∷ []))

times_elsewhere : (names : List (List ℕ)) (name other : List ℕ) → bytes_eq other name ≡ false → times other (names ++ name ∷ []) ≡ times other names
times_elsewhere names name other isnt =
    ap length (filter-append (bytes_eq other) names (name ∷ []))
    ∙ rw isnt (length-append (filter (bytes_eq other) names) [] ∙ omega arith)

-- one heading more
stands_behind : (kept : Noted) (name : List ℕ) (x : ℕ) (names : List (List ℕ)) → StandsFor kept names → StandsFor (noted kept name x) (names ++ name ∷ [])
stands_behind kept name x names stands other = by (bytes_eq other name) refl
  where
    by : (b : Bool) → bytes_eq other name ≡ b → length (noted_under (noted kept name x) other) ≡ times other (names ++ name ∷ [])
    by true h =
        subst (λ (m : List ℕ). length (noted_under (noted kept name x) m) ≡ times m (names ++ name ∷ [])) (sym ((bytes_eq-Decides other name).0 h))
        (noted_here kept name x ∙ ap (λ (n : ℕ). n + 1) (stands name) ∙ sym (times_here names name))
    by false h = ap length (noted_elsewhere kept name x other h) ∙ stands other ∙ sym (times_elsewhere names name other h)

pub next_heading : (old new : Noted) (name id : List ℕ) (count : ℕ) (names : List (List ℕ)) → count ≡ length (noted_under old name)
    → new ≡ noted old name count → id ≡ id_behind count name → StandsFor old names → IsNext old names name id new
next_heading old new name id count names counted noted_is id_is stands = record {
  id_is = id_is ∙ ap (λ (n : ℕ). id_behind n name) (counted ∙ stands name);
  kept = subst (λ (kept : Noted). StandsFor kept (names ++ name ∷ [])) (sym noted_is) (stands_behind old name count names stands);
}
