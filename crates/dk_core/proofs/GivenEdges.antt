-- The edges that the lines of a block make.
use Rattle.std.proofs.Common.{◌≡◌, ◌∙◌, ◌+◌, ◌<◌, ◌≤◌, ◌^◌, ◌||◌, ◌==◌, ◌++◌, ℕ, zero, suc, Bool, true, false, not, List, [], ◌∷◌, All, get_or, is_none, is_some, length, map, nat_lt, Option, Some, None, Ok, refl, sym, ap, subst, arith, if◌then◌else◌, length-append}
use Rattle.std.specs.Fmt.{decimal}
use Rattle.std.specs.List.{list_all, list_any, position}
use Rattle.std.specs.Str.{bytes_eq}
use Rattle.std.specs.Str.Parse.{AllDigits}
use Rattle.std.specs.Prelude.{codes, option_and_then}
use Rattle.std.proofs.lemmas.Bool.{ne_eqb}
use Rattle.std.proofs.lemmas.Fmt.{decimal_injective, decimal_is_IsNumeral_wide}
use Rattle.std.proofs.lemmas.List.Elements.{All-head, All-nil, All-push, All-tail}
use Rattle.std.proofs.lemmas.List.Folds.{list_all-append}
use Rattle.std.proofs.lemmas.List.Quantifiers.{position-Some}
use Rattle.std.proofs.lemmas.Slice.Eq.{bytes_eq-Decides}
use Rattle.std.proofs.lemmas.Str.Parse.{digit_from_value}
use Rattle.dk_base.specs.Names.{unescaped}
use Rattle.dk_base.specs.Numbers.{natural_of}
use Rattle.dk_base.specs.Reading.{Line}
use Rattle.dk_base.specs.Words.{rest_of_line, words}
use Rattle.dk_base.specs.declared.why.Why.TheVariants.{BadPoint}
use Rattle.dk_decl.proofs.LastLines.{bind_ok}
use Rattle.dk_decl.specs.Heads.{head_line, id_of, is_edge as same_edge, is_point_type, parent_line, with_edge}
use Rattle.dk_decl.specs.LineWords.{begins, each_line, operand, operands}
use Rattle.dk_decl.specs.Outcomes.{refused}
use Rattle.dk_decl.specs.declared.decls.EdgeDecl.{EdgeDecl}
use Rattle.dk_graph.specs.Names.{place_of}
use Rattle.dk_state.specs.Fitting.{FitsEdge}
use Rattle.dk_state.specs.Given.{all_new, edge_key, is_given_edge}
use Rattle.dk_core.proofs.Spelled.{IsSpelled, IsWord, are_words, both, is_name_spelled, left, none_rest, right, spelled_undone, spelled_word, unescaped_none}
use Rattle.dk_write.specs.Names.{has_none}

pub or_none_right : (a b : Bool) → (a || b) ≡ false → b ≡ false
or_none_right true b e = absurd (cc e)
or_none_right false b e = e

pub or_none_left : (a b : Bool) → (a || b) ≡ false → a ≡ false
or_none_left true b e = e
or_none_left false b e = refl

-- ---- lists of names, none of which comes twice
pub all_new_push : (seen names : List (List ℕ)) (name : List ℕ) → all_new seen names ≡ true → is_none (place_of (seen ++ names) name) ≡ true → all_new seen (names ++ name ∷ []) ≡ true
all_new_push seen [] name h new = both _ _ (subst (λ (xs : List (List ℕ)). is_none (place_of xs name) ≡ true) (append_none seen) new) refl
  where
    append_none : {X : Type 0} (xs : List X) → xs ++ [] ≡ xs
    append_none [] = refl
    append_none (x ∷ xs) = ap (λ (l : List _). x ∷ l) (append_none xs)
all_new_push seen (n ∷ names) name h new =
    both _ _ (left _ _ h)
    (all_new_push (seen ++ n ∷ []) names name (right (is_none (place_of seen n)) _ h)
    (subst (λ (xs : List (List ℕ)). is_none (place_of xs name) ≡ true) (sym (append_one seen)) new))
  where
    append_one : (xs : List (List ℕ)) → (xs ++ n ∷ []) ++ names ≡ xs ++ n ∷ names
    append_one [] = refl
    append_one (x ∷ xs) = ap (λ (l : List (List ℕ)). x ∷ l) (append_one xs)

none_at : {X : Type 0} (p : X → Bool) (xs : List X) (i : ℕ) (d : X) → list_any p xs ≡ false → i < length xs → p (get_or xs i d) ≡ false
none_at p [] i d h within = absurd (omega (arith, within))
none_at p (x ∷ xs) zero d h within = or_none_left (p x) (list_any p xs) h
none_at p (x ∷ xs) (suc i) d h within = none_at p xs i d (or_none_right (p x) (list_any p xs) h) (omega (arith, within))

-- none is at a place where none passes
pub none_passes : {X : Type 0} (p : X → Bool) (xs : List X) → list_any p xs ≡ false → is_none (position p xs) ≡ true
none_passes p [] h = refl
none_passes p (x ∷ xs) h = by (position p (x ∷ xs)) refl
  where
    by : (o : Option ℕ) → position p (x ∷ xs) ≡ o → is_none o ≡ true
    by None is = refl
    by (Some i) is =
        let at = position-Some p (x ∷ xs) i x is in
        let off = none_at p (x ∷ xs) i x h at.0 in
        absurd (cc (off, at.1))

any_map : {X Y : Type 0} (p : Y → Bool) (f : X → Y) (xs : List X) → list_any p (map f xs) ≡ list_any (λ x. p (f x)) xs
any_map p f [] = refl
any_map p f (x ∷ xs) = ap (λ b. p (f x) || b) (any_map p f xs)

-- what fails one test fails another, where each that passes that passes this
pub any_less : {X : Type 0} (P : X → Type 0) (p q : X → Bool) (xs : List X) → ((x : X) → P x → q x ≡ true → p x ≡ true) → All P xs → list_any p xs ≡ false → list_any q xs ≡ false
any_less P p q [] less all h = refl
any_less P p q (x ∷ xs) less all h = by (p x) (q x) (less x (All-head P x xs all)) h (any_less P p q xs less (All-tail P x xs all))
  where
    by : (a b : Bool) → (b ≡ true → a ≡ true) → (a || list_any p xs) ≡ false → (list_any p xs ≡ false → list_any q xs ≡ false) → (b || list_any q xs) ≡ false
    by true b gives e later = absurd (cc e)
    by false true gives e later = absurd (cc (gives refl))
    by false false gives e later = later e

pub new_name : {X : Type 0} (P : X → Type 0) (name_of : X → List ℕ) (p : X → Bool) (xs : List X) (name : List ℕ) → ((x : X) → P x → bytes_eq name (name_of x) ≡ true → p x ≡ true)
    → All P xs → list_any p xs ≡ false → is_none (place_of (map name_of xs) name) ≡ true
unfolding place_of
new_name P name_of p xs name gives all none =
    none_passes (bytes_eq name) (map name_of xs) (any_map (bytes_eq name) name_of xs ∙ any_less P p (λ x. bytes_eq name (name_of x)) xs gives all none)

-- ---- what tells an edge
no_digit : (ds : List ℕ) → AllDigits 10 ds → has_none 32 ds ≡ true
no_digit [] all = refl
no_digit (d ∷ ds) all =
    let range = digit_from_value d all.0 in
    let blank : (d == 32) ≡ false = ne_eqb d 32 (λ e. absurd (omega (arith, range))) in
    rw blank (no_digit ds all.1)

-- two texts with a blank between parts of which the first has none are of the same parts
same_parts : (xs ys ps qs : List ℕ) → has_none 32 xs ≡ true → has_none 32 ys ≡ true → xs ++ 32 ∷ ps ≡ ys ++ 32 ∷ qs → (xs ≡ ys) × (ps ≡ qs)
same_parts [] [] ps qs h k e = (refl, cc e)
same_parts [] (y ∷ ys) ps qs h k e =
    let first : 32 ≡ y = cc e in
    absurd (cc (left (not (y == 32)) (has_none 32 ys) k, subst (λ n. (n == 32) ≡ true) first refl))
same_parts (x ∷ xs) [] ps qs h k e =
    let first : x ≡ 32 = cc e in
    absurd (cc (left (not (x == 32)) (has_none 32 xs) h, subst (λ n. (n == 32) ≡ true) (sym first) refl))
same_parts (x ∷ xs) (y ∷ ys) ps qs h k e =
    let first : x ≡ y = cc e in
    let rest : xs ++ 32 ∷ ps ≡ ys ++ 32 ∷ qs = cc e in
    let same = same_parts xs ys ps qs (right (not (x == 32)) (has_none 32 xs) h) (right (not (y == 32)) (has_none 32 ys) k) rest in
    (λ i. first i ∷ same.0 i, same.1)

key_tells : (e f : EdgeDecl) → e.id < 2 ^ 32 → f.id < 2 ^ 32 → bytes_eq (edge_key e) (edge_key f) ≡ true → same_edge e.parent e.id f ≡ true
key_tells e f small less same =
    let equal : edge_key e ≡ edge_key f = (bytes_eq-Decides (edge_key e) (edge_key f)).0 same in
    let inner : decimal e.id ++ 32 ∷ e.parent ≡ decimal f.id ++ 32 ∷ f.parent = cc equal in
    let plain : (n : ℕ) → n < 2 ^ 32 → has_none 32 (decimal n) ≡ true = λ n few. no_digit (decimal n) (decimal_is_IsNumeral_wide n (omega arith)).0.1 in
    let parts = same_parts (decimal e.id) (decimal f.id) e.parent f.parent (plain e.id small) (plain f.id less) inner in
    let id : f.id ≡ e.id = sym (decimal_injective e.id f.id (omega arith) (omega arith) parts.0) in
    both _ _ ((bytes_eq-Decides f.parent e.parent).1 (sym parts.1)) (subst (λ n. (n == e.id) ≡ true) (sym id) (same_id e.id))
  where
    same_id : (n : ℕ) → (n == n) ≡ true
    same_id n = grind arith

-- ---- edges
pub record AreGivenEdges (es : List EdgeDecl) : Type 0 where
  pub new : all_new [] (map edge_key es) ≡ true
  pub each : list_all is_given_edge es ≡ true
  pub fits : All FitsEdge es

pub no_edges : AreGivenEdges []
no_edges = record { new = refl; each = refl; fits = All-nil FitsEdge }

-- one edge more
one_more : (es : List EdgeDecl) (e : EdgeDecl) → AreGivenEdges es → is_given_edge e ≡ true → FitsEdge e → list_any (same_edge e.parent e.id) es ≡ false → AreGivenEdges (es ++ e ∷ [])
one_more es e given own fits none = record {
  new = subst (λ (ks : List (List ℕ)). all_new [] ks ≡ true) (sym (map_push es)) (all_new_push [] (map edge_key es) (edge_key e) given.new (new_key es given.fits none));
  each = list_all-append is_given_edge es (e ∷ []) ∙ both _ _ given.each (both _ _ own refl);
  fits = All-push FitsEdge es e given.fits fits;
}
  where
    map_push : (es : List EdgeDecl) → map edge_key (es ++ e ∷ []) ≡ map edge_key es ++ edge_key e ∷ []
    map_push [] = refl
    map_push (x ∷ es) = ap (λ (l : List (List ℕ)). edge_key x ∷ l) (map_push es)

    new_key : (es : List EdgeDecl) → All FitsEdge es → list_any (same_edge e.parent e.id) es ≡ false → is_none (place_of (map edge_key es) (edge_key e)) ≡ true
    new_key es all none =
        new_name FitsEdge edge_key (same_edge e.parent e.id) es (edge_key e) (λ f other same. key_tells e f fits.id other.id same) all none

id_small : (text : List ℕ) (id : ℕ) → id_of text ≡ Some id → id < 2 ^ 32
unfolding id_of
id_small text id is = by (natural_of text) is
  where
    at : (n : ℕ) (b : Bool) → nat_lt n (2 ^ 32) ≡ b → (if b then Some n else None) ≡ Some id → id < 2 ^ 32
    at n true less is = let same : n ≡ id = cc is in grind (arith, less, same)
    at n false less is = absurd (cc is)

    by : (o : Option ℕ) → option_and_then (λ n. if nat_lt n (2 ^ 32) then Some n else None) o ≡ Some id → id < 2 ^ 32
    by None is = absurd (cc is)
    by (Some n) is = at n (nat_lt n (2 ^ 32)) refl is

abbrev pub IsOneMore : List EdgeDecl → List EdgeDecl → Type 0
IsOneMore es es' = AreGivenEdges es' × (length es' ≤ length es + 1)

parent_given : (es : List EdgeDecl) (line : ℕ) (ws : List (List ℕ)) (es' : List EdgeDecl) → All IsWord ws → AreGivenEdges es → parent_line es line ws ≡ Ok es' → IsOneMore es es'
unfolding parent_line
parent_given es line [] es' all given e = absurd (cc e)
parent_given es line (relation ∷ []) es' all given e = absurd (cc e)
parent_given es line (relation ∷ parent ∷ []) es' all given e = absurd (cc e)
parent_given es line (relation ∷ parent ∷ id ∷ more ∷ rest) es' all given e = absurd (cc e)
parent_given es line (relation ∷ parent ∷ id ∷ []) es' all given e = by (bytes_eq relation (codes "parent")) e
  where
    name : List ℕ
    name = unescaped parent

    word : IsWord parent
    word = All-head IsWord parent (id ∷ []) (All-tail IsWord relation (parent ∷ id ∷ []) all)

    spelled : IsSpelled name
    spelled = spelled_undone parent (spelled_word parent word)

    edge : ℕ → EdgeDecl
    edge n = record { parent = name; id = n }

    taken : (n : ℕ) → n < 2 ^ 32 → (b : Bool) → list_any (same_edge name n) es ≡ b → (if b then refused BadPoint line else Ok (es ++ edge n ∷ [])) ≡ Ok es' → IsOneMore es es'
    taken n small true is e = absurd (cc e)
    taken n small false is e =
        let same : es ++ edge n ∷ [] ≡ es' = cc e in
        subst (IsOneMore es) same (
          one_more es (edge n) given (both _ _ (is_name_spelled name spelled) (unescaped_none 9 refl refl parent word.no_tab)) (record { id = small; parent = spelled.none }) is,
          omega (arith, length-append es (edge n ∷ [])),
        )

    at : (o : Option ℕ) → id_of id ≡ o → with_edge es line name o ≡ Ok es' → IsOneMore es es'
    at None is e = absurd (cc e)
    at (Some n) is e = taken n (id_small id n is) (list_any (same_edge name n) es) refl e

    other : (b : Bool) → (if b then Ok es else refused BadPoint line) ≡ Ok es' → IsOneMore es es'
    other true e = let same : es ≡ es' = cc e in subst (IsOneMore es) same (given, omega arith)
    other false e = absurd (cc e)

    by : (b : Bool) → (if b then with_edge es line name (id_of id) else if is_some (id_of id) then Ok es else refused BadPoint line) ≡ Ok es' → IsOneMore es es'
    by true e = at (id_of id) refl e
    by false e = other (is_some (id_of id)) e

head_given : (es : List EdgeDecl) (l : Line) (es' : List EdgeDecl) → has_none 10 l.bytes ≡ true → AreGivenEdges es → head_line es l ≡ Ok es' → IsOneMore es es'
unfolding head_line operands
head_given es l es' none given e = by (begins (codes "ppt-type") l.bytes) (begins (codes "parent") l.bytes) e
  where
    same : (b : Bool) → (if b then Ok es else refused BadPoint l.number) ≡ Ok es' → IsOneMore es es'
    same true e = let is : es ≡ es' = cc e in subst (IsOneMore es) is (given, omega arith)
    same false e = absurd (cc e)

    by : (a b : Bool) → (if a then (if is_point_type (operand l.bytes) then Ok es else refused BadPoint l.number) else if b then parent_line es l.number (words (rest_of_line l.bytes)) else Ok es) ≡ Ok es'
        → IsOneMore es es'
    by true b e = same (is_point_type (operand l.bytes)) e
    by false true e = parent_given es l.number (words (rest_of_line l.bytes)) es' (are_words (rest_of_line l.bytes) (none_rest 10 l.bytes none)) given e
    by false false e = let is : es ≡ es' = cc e in subst (IsOneMore es) is (given, omega arith)

abbrev pub HasNoLf : Line → Type 0
HasNoLf l = has_none 10 l.bytes ≡ true

-- the edges of a block
pub edges_given : (ls : List Line) (es es' : List EdgeDecl) → All HasNoLf ls → AreGivenEdges es → each_line head_line es ls ≡ Ok es' → AreGivenEdges es' × (length es' ≤ length es + length ls)
edges_given [] es es' none given e = let is : es ≡ es' = cc e in subst (λ (xs : List EdgeDecl). AreGivenEdges xs × (length xs ≤ length es + 0)) is (given, omega arith)
edges_given (l ∷ ls) es es' none given e =
    bind_ok (head_line es l) (λ next. each_line head_line next ls) es' e (λ next first rest.
    let one = head_given es l next (All-head HasNoLf l ls none) given first in
    let more = edges_given ls next es' (All-tail HasNoLf l ls none) one.0 rest in
    (more.0, omega (arith, one.1, more.1)))
