-- Members of classes, one variable after another; and which lists of members are empty.
use Rattle.std.specs.Prelude.{◌≡◌, ◌<◌, ◌+◌, ◌++◌, ℕ, zero, suc, true, false, not, List, [], ◌∷◌, filter, length, map, take, refl}
use Rattle.std.specs.List.{enumerate_from}
use Rattle.std.proofs.Common.{◌∙◌, ap, arith, cond, eqb, get_or, inl, inr, set, subst, sym}
use Rattle.std.proofs.lemmas.Bool.{cases_Bool, eq-eqb, eqb-true, true≢false}
use Rattle.std.proofs.lemmas.List.{append-nil, get_or-set_other, get_or-set_same, length-take-le, map-append, take_more}
use Rattle.std.proofs.lemmas.List.Elements.{filter-append}
use Rattle.dk_base.specs.Pieces.{is_empty}
use Rattle.dk_base.specs.declared.kinds.VarId.{VarId}
use Rattle.dk_classes.specs.Leaders.{AreClasses, leader_at, var}
use Rattle.dk_snapshot.specs.Classes.{AreGroups, classes_of, members_of, nonempty}

enumerate_push : (n : ℕ) (xs : List VarId) (x : VarId) → enumerate_from n (xs ++ x ∷ []) ≡ enumerate_from n xs ++ (n + length xs, x) ∷ []
enumerate_push n [] x = ap (λ m. (m, x) ∷ []) (omega arith)
enumerate_push n (y ∷ xs) x = ap (λ es. (n, y) ∷ es) (enumerate_push (n + 1) xs x ∙ ap (λ m. enumerate_from (n + 1) xs ++ (m, x) ∷ []) (omega arith))

-- the members among variables with their leaders
abbrev members_in : ℕ → List (ℕ × VarId) → List VarId
members_in leader es = map (λ p. var p.0) (filter (λ p. eqb p.1.0 leader) es)

members_in-append : (leader : ℕ) (es fs : List (ℕ × VarId)) → members_in leader (es ++ fs) ≡ members_in leader es ++ members_in leader fs
members_in-append leader es fs =
    ap (map (λ (p : ℕ × VarId). var p.0)) (filter-append (λ (p : ℕ × VarId). eqb p.1.0 leader) es fs)
    ∙ map-append (λ (p : ℕ × VarId). var p.0) (filter (λ p. eqb p.1.0 leader) es) (filter (λ p. eqb p.1.0 leader) fs)

one_member : (leader n : ℕ) (x : VarId) → members_in leader ((n, x) ∷ []) ≡ cond (eqb x.0 leader) (var n ∷ []) []
one_member leader n x = elim (eqb x.0 leader) as (λ b. map (λ (p : ℕ × VarId). var p.0) (cond b ((n, x) ∷ []) []) ≡ cond b (var n ∷ []) []) [ true ↦ refl | false ↦ refl ]

-- one variable more
members_push : (leader : ℕ) (xs : List VarId) (x : VarId) → members_of (xs ++ x ∷ []) leader ≡ members_of xs leader ++ cond (eqb x.0 leader) (var (length xs) ∷ []) []
members_push leader xs x =
    ap (members_in leader) (enumerate_push 0 xs x)
    ∙ (members_in-append leader (enumerate_from 0 xs) ((0 + length xs, x) ∷ [])
    ∙ ap (λ ms. members_of xs leader ++ ms) (ap (λ n. members_in leader ((n, x) ∷ [])) (omega arith) ∙ one_member leader (length xs) x))

-- a loop's step
pub members_more : (leader : ℕ) (xs : List VarId) (i : ℕ) (d : VarId) → i < length xs
    → members_of (take (i + 1) xs) leader ≡ members_of (take i xs) leader ++ cond (eqb (get_or xs i d).0 leader) (var i ∷ []) []
members_more leader xs i d l =
    ap (λ ys. members_of ys leader) (take_more xs i d l) ∙ (members_push leader (take i xs) (get_or xs i d)
    ∙ ap (λ n. members_of (take i xs) leader ++ cond (eqb (get_or xs i d).0 leader) (var n ∷ []) []) (length-take-le i xs (omega arith)))

-- ---- empty ones
some_member : (n : ℕ) (xs : List VarId) (leader : ℕ) → is_empty (members_in leader (enumerate_from n xs)) ≡ false → (j : ℕ) × (j < length xs) × (leader_at xs j ≡ leader)
some_member n [] leader e = absurd (true≢false e)
some_member n (x ∷ xs) leader e = elim (cases_Bool (eqb x.0 leader)) [
  | inl here ↦ (0, omega arith, eqb-true x.0 leader here)
  | inr other ↦
      let found = some_member (n + 1) xs leader (subst (λ b. is_empty (map (λ (p : ℕ × VarId). var p.0) (cond b ((n, x) ∷ filter (λ p. eqb p.1.0 leader) (enumerate_from (n + 1) xs)) (filter (λ p. eqb p.1.0 leader) (enumerate_from (n + 1) xs)))) ≡ false) other e) in
      (suc found.0, omega (arith, found.1), found.2)
]

has_member : (n : ℕ) (xs : List VarId) (leader j : ℕ) → j < length xs → leader_at xs j ≡ leader → is_empty (members_in leader (enumerate_from n xs)) ≡ false
has_member n [] leader j l e = absurd (omega arith)
has_member n (x ∷ xs) leader zero l e =
    ap (λ b. is_empty (map (λ (p : ℕ × VarId). var p.0) (cond b ((n, x) ∷ filter (λ p. eqb p.1.0 leader) (enumerate_from (n + 1) xs)) (filter (λ p. eqb p.1.0 leader) (enumerate_from (n + 1) xs)))))
    (eq-eqb x.0 leader e)
has_member n (x ∷ xs) leader (suc j) l e =
    let rest = has_member (n + 1) xs leader j (omega arith) e in
    elim (eqb x.0 leader) as (λ b. is_empty (map (λ (p : ℕ × VarId). var p.0) (cond b ((n, x) ∷ filter (λ p. eqb p.1.0 leader) (enumerate_from (n + 1) xs)) (filter (λ p. eqb p.1.0 leader) (enumerate_from (n + 1) xs)))) ≡ false) [
      | true ↦ refl
      | false ↦ rest
    ]

-- a variable has members exactly where it leads
led : (leaders : List VarId) (v : ℕ) → AreClasses leaders → v < length leaders → not (is_empty (members_of leaders v)) ≡ eqb (leader_at leaders v) v
led leaders v classes l = elim (cases_Bool (eqb (leader_at leaders v) v)) [
  | inl leads ↦ ap not (has_member 0 leaders v v l (eqb-true (leader_at leaders v) v leads)) ∙ sym leads
  | inr follows ↦ elim (cases_Bool (is_empty (members_of leaders v))) [
    | inl empty ↦ ap not empty ∙ sym follows
    | inr full ↦
        let found = some_member 0 leaders v full in
        let own : leader_at leaders v ≡ v = subst (λ w. leader_at leaders w ≡ w) found.2 (classes.own found.0 found.1) in
        absurd (true≢false (sym (eq-eqb (leader_at leaders v) v own) ∙ follows))
  ]
]

-- those that aren't empty are the classes, behind n variables
classes_behind : (leaders : List VarId) (n : ℕ) (xs : List VarId) (groups : List (List VarId)) → length groups ≡ length xs
    → ((k : ℕ) → k < length xs → get_or groups k [] ≡ members_of leaders (n + k))
    → ((k : ℕ) → k < length xs → not (is_empty (members_of leaders (n + k))) ≡ eqb (leader_at xs k) (n + k))
    → nonempty groups ≡ map (λ (v : VarId). members_of leaders v.0) (map (λ (p : ℕ × VarId). p.1) (filter (λ p. eqb p.1.0 p.0) (enumerate_from n xs)))
classes_behind leaders n [] [] long each which = refl
classes_behind leaders n [] (g ∷ groups) long each which = absurd (omega (arith, long))
classes_behind leaders n (x ∷ xs) [] long each which = absurd (omega (arith, long))
classes_behind leaders n (x ∷ xs) (g ∷ groups) long each which =
    let at : n + 0 ≡ n = omega arith in
    let here : g ≡ members_of leaders n = each 0 (omega arith) ∙ ap (members_of leaders) at in
    let leads : not (is_empty g) ≡ eqb x.0 n = ap (λ ms. not (is_empty ms)) here ∙ subst (λ k. not (is_empty (members_of leaders k)) ≡ eqb x.0 k) at (which 0 (omega arith)) in
    let next : (k : ℕ) → n + suc k ≡ n + 1 + k = λ k. omega arith in
    let rest = classes_behind leaders (n + 1) xs groups (omega (arith, long)) (λ k l. each (suc k) (omega (arith, l)) ∙ ap (members_of leaders) (next k))
    (λ k l. subst (λ j. not (is_empty (members_of leaders j)) ≡ eqb (leader_at xs k) j) (next k) (which (suc k) (omega (arith, l))))
    in
    let tail : List (ℕ × VarId) = filter (λ p. eqb p.1.0 p.0) (enumerate_from (n + 1) xs) in
    elim (cases_Bool (eqb x.0 n)) [
      | inl own ↦
          ap (λ b. cond b (g ∷ nonempty groups) (nonempty groups)) (leads ∙ own)
          ∙ (ap (λ gs. g ∷ gs) rest
          ∙ (ap (λ ms. ms ∷ map (λ (v : VarId). members_of leaders v.0) (map (λ (p : ℕ × VarId). p.1) tail)) (here ∙ ap (members_of leaders) (sym (eqb-true x.0 n own)))
          ∙ ap (λ b. map (λ (v : VarId). members_of leaders v.0) (map (λ (p : ℕ × VarId). p.1) (cond b ((n, x) ∷ tail) tail))) (sym own)))
      | inr other ↦
          ap (λ b. cond b (g ∷ nonempty groups) (nonempty groups)) (leads ∙ other)
          ∙ (rest ∙ ap (λ b. map (λ (v : VarId). members_of leaders v.0) (map (λ (p : ℕ × VarId). p.1) (cond b ((n, x) ∷ tail) tail))) (sym other))
    ]

pub nonempty_groups : (leaders : List VarId) (count : ℕ) (groups : List (List VarId)) → count ≡ length leaders → AreClasses leaders → AreGroups leaders count groups → nonempty groups ≡ classes_of leaders
nonempty_groups leaders count groups all classes are =
    let zero-plus : (k : ℕ) → k ≡ 0 + k = λ k. omega arith in
    classes_behind leaders 0 leaders groups (are.long ∙ all) (λ k l. are.each k (omega (arith, all)) ∙ ap (members_of leaders) (zero-plus k))
    (λ k l. subst (λ j. not (is_empty (members_of leaders j)) ≡ eqb (leader_at leaders k) j) (zero-plus k) (led leaders k classes l))

-- a loop's step: a variable goes to the members of its leader
pub grouped_more : (leaders : List VarId) (i : ℕ) (groups : List (List VarId)) (group : List VarId) (leader : ℕ) → i < length leaders → length groups ≡ length leaders → leader ≡ leader_at leaders i → leader < length leaders
    → group ≡ get_or groups leader [] ++ var i ∷ []
    → ((k : ℕ) → k < length leaders → get_or groups k [] ≡ members_of (take i leaders) k)
    → (k : ℕ) → k < length leaders → get_or (set groups leader group) k [] ≡ members_of (take (i + 1) leaders) k
grouped_more leaders i groups group leader l long is within grown each k m =
    let more = members_more k leaders i (var 0) l in
    elim (cases_Bool (eqb leader k)) [
      | inl here ↦
          let at : leader ≡ k = eqb-true leader k here in
          let put : get_or (set groups leader group) k [] ≡ group = subst (λ j. get_or (set groups leader group) j [] ≡ group) at (get_or-set_same groups leader group [] (omega (arith, long))) in
          put ∙ (grown ∙ (ap (λ ms. ms ++ var i ∷ []) (ap (λ j. get_or groups j []) at ∙ each k m)
          ∙ (ap (λ b. members_of (take i leaders) k ++ cond b (var i ∷ []) []) (sym (ap (λ j. eqb j k) (sym is) ∙ here)) ∙ sym more)))
      | inr other ↦
          let ne : k ≡ leader → ⊥ = λ e. true≢false (sym (eq-eqb leader k (sym e)) ∙ other) in
          get_or-set_other groups leader k group [] ne ∙ (each k m ∙ (sym (append-nil (members_of (take i leaders) k))
          ∙ (ap (λ b. members_of (take i leaders) k ++ cond b (var i ∷ []) []) (sym (ap (λ j. eqb j k) (sym is) ∙ other)) ∙ sym more)))
    ]
