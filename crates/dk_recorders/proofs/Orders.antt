-- Steps in another order: those of several lists, each of which keeps its order, where steps of two lists may change places.
use Rattle.std.proofs.Common.{◌≡◌, ◌<◌, ◌++◌, ℕ, zero, suc, All, List, [], ◌∷◌, Option, Some, None, drop, flat_map, length, option_and_then, refl, sym, subst, ap, ◌∙◌, append_assoc, append-nil, get_or, length-append, arith}
use Rattle.std.proofs.Math.Seq.{get_or-append_seam}
use Rattle.std.proofs.lemmas.Grind.{flat_map-append}
use Rattle.std.proofs.lemmas.List.{get_or_append_left}
use Rattle.std.proofs.lemmas.List.Elements.{All-append, All-cons, All-drop, All-head, All-nil, All-tail, All-weaker}
use Rattle.std.specs.List.{AllPairs}
use Rattle.dk_recorders.specs.Interleaving.{IsInterleaved}

-- both fail, or both come to something, and that is related
abbrev pub Both : {S : Type 0} → (S → S → Type 0) → Option S → Option S → Type 0
Both Like None None = Unit {0}
Both Like None (Some t) = ⊥
Both Like (Some s) None = ⊥
Both Like (Some s) (Some t) = Like s t

-- what steps come to, one after another
abbrev pub run : {S X : Type 0} → (S → X → Option S) → S → List X → Option S
run step s [] = Some s
run step s (x ∷ xs) = option_and_then (λ t. run step t xs) (step s x)

pub run-append : {S X : Type 0} (step : S → X → Option S) (s : S) (xs ys : List X)
    → run step s (xs ++ ys) ≡ option_and_then (λ t. run step t ys) (run step s xs)
run-append step s [] ys = refl
run-append {S = S} {X = X} step s (x ∷ xs) ys = by (step s x) (λ t. run-append step t xs ys)
  where
    by : (o : Option S) → ((t : S) → run step t (xs ++ ys) ≡ option_and_then (λ u. run step u ys) (run step t xs))
        → option_and_then (λ t. run step t (xs ++ ys)) o ≡ option_and_then (λ u. run step u ys) (option_and_then (λ t. run step t xs) o)
    by None more = refl
    by (Some t) more = more t

both_trans : {S : Type 0} (Like : S → S → Type 0) → ((s t u : S) → Like s t → Like t u → Like s u)
    → (a b c : Option S) → Both Like a b → Both Like b c → Both Like a c
both_trans Like trans None None c h k = k
both_trans Like trans None (Some t) c h k = absurd h
both_trans Like trans (Some s) None c h k = absurd h
both_trans Like trans (Some s) (Some t) None h k = k
both_trans Like trans (Some s) (Some t) (Some u) h k = trans s t u h k

both_sym : {S : Type 0} (Like : S → S → Type 0) → ((s t : S) → Like s t → Like t s) → (a b : Option S) → Both Like a b → Both Like b a
both_sym Like back None None h = h
both_sym Like back None (Some t) h = absurd h
both_sym Like back (Some s) None h = absurd h
both_sym Like back (Some s) (Some t) h = back s t h

then_both : {S : Type 0} (Like : S → S → Type 0) (f g : S → Option S) → ((s t : S) → Like s t → Both Like (f s) (g t))
    → (a b : Option S) → Both Like a b → Both Like (option_and_then f a) (option_and_then g b)
then_both Like f g more None None h = h
then_both Like f g more None (Some t) h = absurd h
then_both Like f g more (Some s) None h = absurd h
then_both Like f g more (Some s) (Some t) h = more s t h

flat_all : {X Y : Type 0} (P : X → Type 0) (f : Y → List X) (ys : List Y) → All (λ y. All P (f y)) ys → All P (flat_map f ys)
flat_all P f [] h = All-nil P
flat_all P f (y ∷ ys) h =
    All-append P (f y) (flat_map f ys) (All-head (λ y. All P (f y)) y ys h) (flat_all P f ys (All-tail (λ y. All P (f y)) y ys h))

pub All-parts : {X : Type 0} (P : X → Type 0) (xs ys : List X) → All P (xs ++ ys) → All P xs × All P ys
All-parts P [] ys all = (All-nil P, all)
All-parts P (x ∷ xs) ys all =
    let parts = All-parts P xs ys (All-tail P x (xs ++ ys) all) in
    (All-cons P x xs (All-head P x (xs ++ ys) all) parts.0, parts.1)

none_left : {X : Type 0} (lists : List (List X)) → All (λ list. list ≡ []) lists → flat_map (λ (list : List X). list) lists ≡ []
none_left [] none = refl
none_left {X} (l ∷ ls) none =
    ap (λ (k : List X). k ++ flat_map (λ (list : List X). list) ls) (All-head (λ list. list ≡ []) l ls none)
    ∙ none_left ls (All-tail (λ list. list ≡ []) l ls none)

-- ---- lists of which one loses its first item
left_long : {X : Type 0} (front : List (List X)) (x : X) (rest : List X) (back : List (List X)) → length (front ++ rest ∷ back) ≡ length (front ++ (x ∷ rest) ∷ back)
left_long front x rest back = length-append front (rest ∷ back) ∙ sym (length-append front ((x ∷ rest) ∷ back))

left_at : {X : Type 0} (front : List (List X)) (x : X) (rest : List X) (back : List (List X)) (i : ℕ) (d : List X)
    → (k : ℕ) × (get_or (front ++ rest ∷ back) i d ≡ drop k (get_or (front ++ (x ∷ rest) ∷ back) i d))
left_at [] x rest back zero d = (1, refl)
left_at [] x rest back (suc i) d = (0, refl)
left_at (l ∷ front) x rest back zero d = (0, refl)
left_at (l ∷ front) x rest back (suc i) d = left_at front x rest back i d

module _ {S X : Type 0} (step : S → X → Option S) (Like : S → S → Type 0) (Good : X → Type 0) (Apart : X → X → Type 0)
    (like_refl : (s : S) → Like s s) (like_sym : (s t : S) → Like s t → Like t s) (like_trans : (s t u : S) → Like s t → Like t u → Like s u)
    (step_alike : (s t : S) (x : X) → Like s t → Good x → Both Like (step s x) (step t x))
    (exchanged : (s : S) (x y : X) → Good x → Good y → Apart x y → Both Like (run step s (x ∷ y ∷ [])) (run step s (y ∷ x ∷ []))) where
  -- the two lists come to the same from all that is alike
  abbrev pub Same : List X → List X → Type 0
  Same xs ys = (s t : S) → Like s t → Both Like (run step s xs) (run step t ys)

  -- each step of the one may change places with each of the other
  abbrev AreApart : List X → List X → Type 0
  AreApart xs ys = All (λ x. All (Apart x) ys) xs

  same_refl : (xs : List X) → All Good xs → Same xs xs
  same_refl [] good s t like = like
  same_refl (x ∷ xs) good s t like =
      then_both Like (λ u. run step u xs) (λ u. run step u xs) (same_refl xs (All-tail Good x xs good)) (step s x) (step t x)
      (step_alike s t x like (All-head Good x xs good))

  same_trans : (xs ys zs : List X) → Same xs ys → Same ys zs → Same xs zs
  same_trans xs ys zs p q s t like =
      both_trans Like like_trans (run step s xs) (run step s ys) (run step t zs) (p s s (like_refl s)) (q s t like)

  same_append : (xs ys us vs : List X) → Same xs ys → Same us vs → Same (xs ++ us) (ys ++ vs)
  same_append xs ys us vs p q s t like =
      subst (λ (o : Option S). Both Like o (run step t (ys ++ vs))) (sym (run-append step s xs us))
      (subst (λ (o : Option S). Both Like (option_and_then (λ r. run step r us) (run step s xs)) o) (sym (run-append step t ys vs))
      (then_both Like (λ r. run step r us) (λ r. run step r vs) q (run step s xs) (run step t ys) (p s t like)))

  same_two : (x y : X) → Good x → Good y → Apart x y → Same (x ∷ y ∷ []) (y ∷ x ∷ [])
  same_two x y gx gy apart s t like =
      both_trans Like like_trans (run step s (x ∷ y ∷ [])) (run step s (y ∷ x ∷ [])) (run step t (y ∷ x ∷ []))
      (exchanged s x y gx gy apart)
      (same_refl (y ∷ x ∷ []) (All-cons Good y (x ∷ []) gy (All-cons Good x [] gx (All-nil Good))) s t like)

  -- a step goes behind others
  one_moved : (x : X) (ys : List X) → Good x → All Good ys → All (Apart x) ys → Same (x ∷ ys) (ys ++ x ∷ [])
  one_moved x [] gx gys apart = same_refl (x ∷ []) (All-cons Good x [] gx gys)
  one_moved x (y ∷ ys) gx gys apart =
      let gy = All-head Good y ys gys in
      let more = All-tail Good y ys gys in
      same_trans (x ∷ y ∷ ys) (y ∷ x ∷ ys) (y ∷ (ys ++ x ∷ []))
      (same_append (x ∷ y ∷ []) (y ∷ x ∷ []) ys ys (same_two x y gx gy (All-head (Apart x) y ys apart)) (same_refl ys more))
      (same_append (y ∷ []) (y ∷ []) (x ∷ ys) (ys ++ x ∷ []) (same_refl (y ∷ []) (All-cons Good y [] gy (All-nil Good)))
      (one_moved x ys gx more (All-tail (Apart x) y ys apart)))

  all_moved : (xs ys : List X) → All Good xs → All Good ys → AreApart xs ys → Same (xs ++ ys) (ys ++ xs)
  all_moved [] ys gxs gys apart = subst (λ (l : List X). Same ys l) (sym (append-nil ys)) (same_refl ys gys)
  all_moved (x ∷ xs) ys gxs gys apart =
      let gx = All-head Good x xs gxs in
      let more = All-tail Good x xs gxs in
      same_trans (x ∷ (xs ++ ys)) (x ∷ (ys ++ xs)) (ys ++ x ∷ xs)
      (same_append (x ∷ []) (x ∷ []) (xs ++ ys) (ys ++ xs) (same_refl (x ∷ []) (All-cons Good x [] gx (All-nil Good)))
      (all_moved xs ys more gys (All-tail (λ z. All (Apart z) ys) x xs apart)))
      (subst (λ (l : List X). Same (x ∷ (ys ++ xs)) l) (append_assoc ys (x ∷ []) xs)
      (same_append (x ∷ ys) (ys ++ x ∷ []) xs xs (one_moved x ys gx gys (All-head (λ z. All (Apart z) ys) x xs apart)) (same_refl xs more)))

  -- ---- several lists
  abbrev all_of : List (List X) → List X
  all_of lists = flat_map (λ (list : List X). list) lists

  apart_less : (k m : ℕ) (xs ys : List X) → AreApart xs ys → AreApart (drop k xs) (drop m ys)
  apart_less k m xs ys apart =
      All-drop (λ x. All (Apart x) (drop m ys)) k xs (All-weaker (λ x. All (Apart x) ys) (λ x. All (Apart x) (drop m ys)) (λ x a. All-drop (Apart x) m ys a) xs apart)

  module _ (front : List (List X)) (x : X) (rest : List X) (back : List (List X)) (good : All (All Good) (front ++ (x ∷ rest) ∷ back))
      (apart : AllPairs AreApart (front ++ (x ∷ rest) ∷ back)) where
    good_left : All (All Good) (front ++ rest ∷ back)
    good_left i d within =
        let at = left_at front x rest back i d in
        subst (All Good) (sym at.1)
        (All-drop Good at.0 (get_or (front ++ (x ∷ rest) ∷ back) i d) (good i d (subst (λ (n : ℕ). i < n) (left_long front x rest back) within)))

    apart_left : AllPairs AreApart (front ++ rest ∷ back)
    apart_left i j d lt within =
        let one = left_at front x rest back i d in
        let two = left_at front x rest back j d in
        subst (λ (k : List X). AreApart k (get_or (front ++ rest ∷ back) j d)) (sym one.1)
        (subst (λ (k : List X). AreApart (drop one.0 (get_or (front ++ (x ∷ rest) ∷ back) i d)) k) (sym two.1)
        (apart_less one.0 two.0 (get_or (front ++ (x ∷ rest) ∷ back) i d) (get_or (front ++ (x ∷ rest) ∷ back) j d)
        (apart i j d lt (subst (λ (n : ℕ). j < n) (left_long front x rest back) within))))

    good_parts : All (All Good) front × All (All Good) ((x ∷ rest) ∷ back)
    good_parts = All-parts (All Good) front ((x ∷ rest) ∷ back) good

    good_first : Good x
    good_first = All-head Good x rest (All-head (All Good) (x ∷ rest) back good_parts.1)

    good_front : All Good (all_of front)
    good_front = flat_all Good (λ l. l) front good_parts.0

    good_behind : All Good (rest ++ all_of back)
    good_behind =
        All-append Good rest (all_of back) (All-tail Good x rest (All-head (All Good) (x ∷ rest) back good_parts.1))
        (flat_all Good (λ l. l) back (All-tail (All Good) (x ∷ rest) back good_parts.1))

    front_apart : AreApart (all_of front) (x ∷ [])
    front_apart =
        flat_all (λ y. All (Apart y) (x ∷ [])) (λ l. l) front
        (λ i d within.
        let there : length front < length (front ++ (x ∷ rest) ∷ back) = omega (arith, length-append front ((x ∷ rest) ∷ back)) in
        let pair : AreApart (get_or front i d) (x ∷ rest) =
        subst (λ (k : List X). AreApart k (x ∷ rest)) (get_or_append_left front ((x ∷ rest) ∷ back) d i within)
        (subst (λ (k : List X). AreApart (get_or (front ++ (x ∷ rest) ∷ back) i d) k) (get_or-append_seam front (x ∷ rest) back d) (apart i (length front) d within there)) in
        All-weaker (λ y. All (Apart y) (x ∷ rest)) (λ y. All (Apart y) (x ∷ []))
        (λ y all. All-cons (Apart y) x [] (All-head (Apart y) x rest all) (All-nil (Apart y))) (get_or front i d) pair)

    -- the first item comes first
    first_moved : (xs : List X) → Same (all_of (front ++ rest ∷ back)) xs → Same (all_of (front ++ (x ∷ rest) ∷ back)) (x ∷ xs)
    first_moved xs more =
        let behind : List X = rest ++ all_of back in
        let single : All Good (x ∷ []) = All-cons Good x [] good_first (All-nil Good) in
        subst (λ (l : List X). Same l (x ∷ xs)) (append_assoc (all_of front) (x ∷ []) behind ∙ sym (flat_map-append (λ (l : List X). l) front ((x ∷ rest) ∷ back)))
        (same_trans ((all_of front ++ x ∷ []) ++ behind) (x ∷ (all_of front ++ behind)) (x ∷ xs)
        (same_append (all_of front ++ x ∷ []) (x ∷ all_of front) behind behind (all_moved (all_of front) (x ∷ []) good_front single front_apart) (same_refl behind good_behind))
        (same_append (x ∷ []) (x ∷ []) (all_of front ++ behind) xs (same_refl (x ∷ []) single)
        (subst (λ (l : List X). Same l xs) (flat_map-append (λ (l : List X). l) front (rest ∷ back)) more)))

  same_interleaved : (xs : List X) (lists : List (List X)) → IsInterleaved xs lists → All (All Good) lists → AllPairs AreApart lists → Same (all_of lists) xs
  same_interleaved [] lists none good apart = subst (λ (l : List X). Same l []) (sym (none_left lists none)) (same_refl [] (All-nil Good))
  same_interleaved (x ∷ xs) lists (front, (rest, (back, is, more))) good apart =
      let good_now : All (All Good) (front ++ (x ∷ rest) ∷ back) = subst (All (All Good)) is good in
      let apart_now : AllPairs AreApart (front ++ (x ∷ rest) ∷ back) = subst (AllPairs AreApart) is apart in
      subst (λ (l : List (List X)). Same (all_of l) (x ∷ xs)) (sym is)
      (first_moved front x rest back good_now apart_now xs
      (same_interleaved xs (front ++ rest ∷ back) more (good_left front x rest back good_now apart_now) (apart_left front x rest back good_now apart_now)))

  -- two orders, each of which keeps that of the lists
  pub same_orders : (xs ys : List X) (lists : List (List X)) → IsInterleaved xs lists → IsInterleaved ys lists → All (All Good) lists → AllPairs AreApart lists → Same xs ys
  same_orders xs ys lists one two good apart s t like =
      both_trans Like like_trans (run step s xs) (run step s (all_of lists)) (run step t ys)
      (both_sym Like like_sym (run step s (all_of lists)) (run step s xs) (same_interleaved xs lists one good apart s s (like_refl s)))
      (same_interleaved ys lists two good apart s t like)
