-- Which slots the parts of a sweep give.
use Rattle.std.specs.Prelude.{◌≡◌, ◌≢◌, ◌⊎◌, ◌==◌, ◌<◌, ◌≤◌, ◌++◌, ◌-◌, ℕ, zero, suc, Bool, true, false, All, Contains, List, [], ◌∷◌, filter, flat_map, if◌then◌else◌, length, refl}
use Rattle.std.proofs.Common.{ap, ◌∙◌, arith, get_or, inl, inr, subst, sym}
use Rattle.std.proofs.lemmas.Bool.{cases_eq, eq-eqb, ne_eqb}
use Rattle.std.proofs.lemmas.List.Elements.{All-cons, All-head, All-nil, All-tail}
use Rattle.dk_base.specs.declared.kinds.VarId.{VarId}
use Rattle.dk_base.specs.declared.kinds.VarInfo.{VarInfo}
use Rattle.dk_classes.specs.Leaders.{var}
use Rattle.dk_constants.specs.Known.{Entries}
use Rattle.dk_forms.proofs.Summaries.{IsIn-append_left, IsIn-append_right}
use Rattle.dk_forms.specs.Laws.{IsIn}
use Rattle.dk_forms.specs.declared.states.State.{State}
use Rattle.dk_instances.proofs.Members.{append_cases, in_filter, in_flat, in_map, is_in, of_filter, of_flat, of_map}
use Rattle.dk_instances.specs.Instances.{rows_of}
use Rattle.dk_template.specs.Templates.{arity_of}
use Rattle.dk_template.specs.declared.grammar.Grammar.{Grammar}
use Rattle.dk_template.specs.declared.grammar.RowId.{RowId}
use Rattle.dk_engine.specs.Feeding.{has_slot}
use Rattle.dk_engine.specs.Sweeps.{behind, considered, firsts, pairs, seconds, thirds, threes_with_one, threes_with_two, touched_slots, triples, twos_with_one, with_both, with_ends, with_one, with_two}
use Rattle.dk_engine.specs.declared.slots.slot.Slot.{Slot}

-- a leader of the first list at the role k, leaders of the second one before it and any behind it
abbrev pub IsAtRole : List VarId → List VarId → List VarId → ℕ → List VarId → Type 0
IsAtRole of before leaders k [] = ⊥
IsAtRole of before leaders zero (v ∷ vars) = IsIn v of × All (λ u. IsIn u leaders) vars
IsAtRole of before leaders (suc k) (v ∷ vars) = IsIn v before × IsAtRole of before leaders k vars

-- ---- one of two lists
either : {P : Type 0} (s : Slot) (b : Bool) (xs ys : List Slot) → (IsIn s xs → P) → (IsIn s ys → P) → IsIn s (if b then xs else ys) → P
either s true xs ys f g i = f i
either s false xs ys f g i = g i

both_of : {P : Type 0} (s : Slot) (xs ys : List Slot) → (IsIn s xs → P) → (IsIn s ys → P) → IsIn s (xs ++ ys) → P
both_of {P} s xs ys f g i = elim (append_cases s xs ys i) as (λ _. P) [ inl a ↦ f a | inr b ↦ g b ]

when : (s : Slot) (b : Bool) (xs ys : List Slot) → b ≡ true → IsIn s xs → IsIn s (if b then xs else ys)
when s b xs ys e i = subst (λ c. IsIn s (if c then xs else ys)) (sym e) i

unless : (s : Slot) (b : Bool) (xs ys : List Slot) → b ≡ false → IsIn s ys → IsIn s (if b then xs else ys)
unless s b xs ys e i = subst (λ c. IsIn s (if c then xs else ys)) (sym e) i

module _ (infos : List VarInfo) (known : Entries) (answered : RowId → List VarId → State) where
  -- a slot over some of these leaders, with the state that is answered
  pub record IsGiven (leaders : List VarId) (row : RowId) (slot : Slot) : Type 0 where
    pub of_row : slot.row ≡ row
    pub led : All (λ v. IsIn v leaders) slot.leaders
    pub there : has_slot infos known answered row slot.leaders ≡ true
    pub state : slot.state ≡ answered row slot.leaders

  module _ (row : RowId) where
    abbrev pub given : List VarId → Slot
    given vs = record { row = row; leaders = vs; state = answered row vs }

    -- ---- what is there is over leaders
    module _ (leaders : List VarId) where
      abbrev Given : Slot → Type 0
      Given = IsGiven leaders row

      abbrev Led : List VarId → Type 0
      Led vs = (v : VarId) → IsIn v vs → IsIn v leaders

      of_considered : (vars : List VarId) → All (λ v. IsIn v leaders) vars → (s : Slot) → IsIn s (considered infos known answered row vars) → Given s
      of_considered vars led s i =
          let m = of_map {X = List VarId} {Y = Slot} given s (filter (has_slot infos known answered row) (vars ∷ [])) i in
          let f = of_filter (has_slot infos known answered row) m.0 (vars ∷ []) m.1 in
          let same : m.0 ≡ vars = elim f.0 as (λ _. m.0 ≡ vars) [ inl e ↦ e | inr none ↦ absurd none ] in
          subst Given (sym m.2) (record { of_row = refl; led = subst (All (λ v. IsIn v leaders)) (sym same) led; there = f.1; state = refl })

      one : (v : VarId) → IsIn v leaders → All (λ u. IsIn u leaders) (v ∷ [])
      one v i = All-cons (λ u. IsIn u leaders) v [] i (All-nil (λ u. IsIn u leaders))

      two : (v w : VarId) → IsIn v leaders → IsIn w leaders → All (λ u. IsIn u leaders) (v ∷ w ∷ [])
      two v w i j = All-cons (λ u. IsIn u leaders) v (w ∷ []) i (one w j)

      three : (v w x : VarId) → IsIn v leaders → IsIn w leaders → IsIn x leaders → All (λ u. IsIn u leaders) (v ∷ w ∷ x ∷ [])
      three v w x i j k = All-cons (λ u. IsIn u leaders) v (w ∷ x ∷ []) i (two w x j k)

      of_firsts : (first : List VarId) → Led first → (s : Slot) → IsIn s (firsts infos known answered row first) → Given s
      of_firsts first led s i =
          let f = of_flat (λ v. considered infos known answered row (v ∷ [])) s first i in
          of_considered (f.0 ∷ []) (one f.0 (led f.0 f.1)) s f.2

      of_seconds : (v : VarId) → IsIn v leaders → (second : List VarId) → Led second → (s : Slot) → IsIn s (seconds infos known answered row v second) → Given s
      of_seconds v lv second led s i =
          let f = of_flat (λ w. considered infos known answered row (v ∷ w ∷ [])) s second i in
          of_considered (v ∷ f.0 ∷ []) (two v f.0 lv (led f.0 f.1)) s f.2

      of_thirds : (v w : VarId) → IsIn v leaders → IsIn w leaders → (third : List VarId) → Led third → (s : Slot) → IsIn s (thirds infos known answered row v w third) → Given s
      of_thirds v w lv lw third led s i =
          let f = of_flat (λ x. considered infos known answered row (v ∷ w ∷ x ∷ [])) s third i in
          of_considered (v ∷ w ∷ f.0 ∷ []) (three v w f.0 lv lw (led f.0 f.1)) s f.2

      of_pairs : (first second : List VarId) → Led first → Led second → (s : Slot) → IsIn s (pairs infos known answered row first second) → Given s
      of_pairs first second l m s i =
          let f = of_flat (λ v. seconds infos known answered row v second) s first i in
          of_seconds f.0 (l f.0 f.1) second m s f.2

      of_behind : (v : VarId) → IsIn v leaders → (second third : List VarId) → Led second → Led third → (s : Slot) → IsIn s (behind infos known answered row v second third) → Given s
      of_behind v lv second third l m s i =
          let f = of_flat (λ w. thirds infos known answered row v w third) s second i in
          of_thirds v f.0 lv (l f.0 f.1) third m s f.2

      of_triples : (first second third : List VarId) → Led first → Led second → Led third → (s : Slot) → IsIn s (triples infos known answered row first second third) → Given s
      of_triples first second third l m n s i =
          let f = of_flat (λ v. behind infos known answered row v second third) s first i in
          of_behind f.0 (l f.0 f.1) second third m n s f.2

      pub of_with_one : (of before : List VarId) → Led of → Led before → (s : Slot) → IsIn s (with_one infos known answered row of before leaders) → Given s
      of_with_one of before l m s i =
          let n : Led leaders = λ v j. j in
          let ones = firsts infos known answered row of in
          let p = pairs infos known answered row of leaders in
          let q = pairs infos known answered row before of in
          let t = triples infos known answered row of leaders leaders in
          let u = triples infos known answered row before of leaders in
          let w = triples infos known answered row before before of in
          either s (arity_of row == 1) ones (if arity_of row == 2 then p ++ q else t ++ u ++ w) (of_firsts of l s)
          (either s (arity_of row == 2) (p ++ q) (t ++ u ++ w) (both_of s p q (of_pairs of leaders l n s) (of_pairs before of m l s))
          (both_of s (t ++ u) w (both_of s t u (of_triples of leaders leaders l n n s) (of_triples before of leaders m l n s)) (of_triples before before of m m l s))) i

      just : (v : VarId) → IsIn v leaders → Led (v ∷ [])
      just v i w (inl e) = subst (λ u. IsIn u leaders) (sym e) i
      just v i w (inr none) = absurd none

      pub of_with_two : (v w : VarId) → IsIn v leaders → IsIn w leaders → (s : Slot) → IsIn s (with_two infos known answered row v w leaders) → Given s
      of_with_two v w lv lw s i =
          let n : Led leaders = λ u j. j in
          let p = pairs infos known answered row (v ∷ []) (w ∷ []) in
          let t = triples infos known answered row (v ∷ []) (w ∷ []) leaders in
          let u = triples infos known answered row (v ∷ []) leaders (w ∷ []) in
          let x = triples infos known answered row leaders (v ∷ []) (w ∷ []) in
          either s (arity_of row == 1) [] (if arity_of row == 2 then p else t ++ u ++ x) (λ none. absurd none)
          (either s (arity_of row == 2) p (t ++ u ++ x) (of_pairs (v ∷ []) (w ∷ []) (just v lv) (just w lw) s)
          (both_of s (t ++ u) x (both_of s t u (of_triples (v ∷ []) (w ∷ []) leaders (just v lv) (just w lw) n s) (of_triples (v ∷ []) leaders (w ∷ []) (just v lv) n (just w lw) s)) (of_triples leaders (v ∷ []) (w ∷ []) n (just v lv) (just w lw) s))) i

      pub of_with_ends : (v w : VarId) → IsIn v leaders → IsIn w leaders → (s : Slot) → IsIn s (with_ends infos known answered row v w leaders) → Given s
      of_with_ends v w lv lw s i =
          let n : Led leaders = λ u j. j in
          let vw = with_two infos known answered row v w leaders in
          let wv = with_two infos known answered row w v leaders in
          either s (v.0 == w.0) (with_one infos known answered row (v ∷ []) leaders leaders) (vw ++ wv) (of_with_one (v ∷ []) leaders (just v lv) n s)
          (both_of s vw wv (of_with_two v w lv lw s) (of_with_two w v lw lv s)) i

    -- ---- what has a slot is there
    one_in : (vars : List VarId) → has_slot infos known answered row vars ≡ true → IsIn (given vars) (considered infos known answered row vars)
    one_in vars has = in_map {X = List VarId} {Y = Slot} given vars (filter (has_slot infos known answered row) (vars ∷ [])) (in_filter (has_slot infos known answered row) vars (vars ∷ []) (inl refl) has)

    ones_in : (v : VarId) (first : List VarId) → IsIn v first → has_slot infos known answered row (v ∷ []) ≡ true → IsIn (given (v ∷ [])) (firsts infos known answered row first)
    ones_in v first i has = in_flat (λ u. considered infos known answered row (u ∷ [])) (given (v ∷ [])) v first (one_in (v ∷ []) has) i

    twos_in : (v w : VarId) (first second : List VarId) → IsIn v first → IsIn w second → has_slot infos known answered row (v ∷ w ∷ []) ≡ true → IsIn (given (v ∷ w ∷ [])) (pairs infos known answered row first second)
    twos_in v w first second i j has =
        let t = given (v ∷ w ∷ []) in
        in_flat (λ u. seconds infos known answered row u second) t v first (in_flat (λ u. considered infos known answered row (v ∷ u ∷ [])) t w second (one_in (v ∷ w ∷ []) has) j) i

    threes_in : (v w x : VarId) (first second third : List VarId) → IsIn v first → IsIn w second → IsIn x third → has_slot infos known answered row (v ∷ w ∷ x ∷ []) ≡ true
        → IsIn (given (v ∷ w ∷ x ∷ [])) (triples infos known answered row first second third)
    threes_in v w x first second third i j k has =
        let t = given (v ∷ w ∷ x ∷ []) in
        in_flat (λ u. behind infos known answered row u second third) t v first
        (in_flat (λ u. thirds infos known answered row v u third) t w second (in_flat (λ u. considered infos known answered row (v ∷ w ∷ u ∷ [])) t x third (one_in (v ∷ w ∷ x ∷ []) has) k) j) i

    -- the arity of the row, by the length of a tuple
    of_arity : (n m : ℕ) → n ≡ arity_of row → (b : Bool) → (n == m) ≡ b → (arity_of row == m) ≡ b
    of_arity n m e b f = ap (λ k. k == m) (sym e) ∙ f

    abbrev others_of : List VarId → List VarId → List VarId → List Slot
    others_of of before leaders =
        if arity_of row == 2 then pairs infos known answered row of leaders ++ pairs infos known answered row before of
        else triples infos known answered row of leaders leaders ++ triples infos known answered row before of leaders ++ triples infos known answered row before before of

    in_two : (s : Slot) (of before leaders : List VarId) → 2 ≡ arity_of row → IsIn s (pairs infos known answered row of leaders ++ pairs infos known answered row before of) → IsIn s (with_one infos known answered row of before leaders)
    in_two s of before leaders long i =
        let p = pairs infos known answered row of leaders ++ pairs infos known answered row before of in
        let q = triples infos known answered row of leaders leaders ++ triples infos known answered row before of leaders ++ triples infos known answered row before before of in
        unless s (arity_of row == 1) (firsts infos known answered row of) (others_of of before leaders) (of_arity 2 1 long false refl) (when s (arity_of row == 2) p q (of_arity 2 2 long true refl) i)

    in_three : (s : Slot) (of before leaders : List VarId) → 3 ≡ arity_of row → IsIn s (triples infos known answered row of leaders leaders ++ triples infos known answered row before of leaders ++ triples infos known answered row before before of)
        → IsIn s (with_one infos known answered row of before leaders)
    in_three s of before leaders long i =
        let p = pairs infos known answered row of leaders ++ pairs infos known answered row before of in
        let q = triples infos known answered row of leaders leaders ++ triples infos known answered row before of leaders ++ triples infos known answered row before before of in
        unless s (arity_of row == 1) (firsts infos known answered row of) (others_of of before leaders) (of_arity 3 1 long false refl) (unless s (arity_of row == 2) p q (of_arity 3 2 long false refl) i)

    abbrev threes_of_two : VarId → VarId → List VarId → List Slot
    threes_of_two v w leaders =
        triples infos known answered row (v ∷ []) (w ∷ []) leaders ++ triples infos known answered row (v ∷ []) leaders (w ∷ []) ++ triples infos known answered row leaders (v ∷ []) (w ∷ [])

    -- one leader stands at some role
    at_one : (v : VarId) (leaders vars : List VarId) → IsIn v vars → All (λ u. IsIn u leaders) vars → (k : ℕ) × IsAtRole (v ∷ []) leaders leaders k vars
    at_one v leaders [] i led = absurd i
    at_one v leaders (u ∷ vars) (inl e) led = (zero, (inl (sym e), All-tail (λ x. IsIn x leaders) u vars led))
    at_one v leaders (u ∷ vars) (inr i) led = let later = at_one v leaders vars i (All-tail (λ x. IsIn x leaders) u vars led) in (suc later.0, (All-head (λ x. IsIn x leaders) u vars led, later.1))

    -- two that differ stand at two of three places
    by_places : (v w a b c : VarId) (leaders : List VarId) → v ≢ w → IsIn v (a ∷ b ∷ c ∷ []) → IsIn w (a ∷ b ∷ c ∷ [])
        → IsIn (given (a ∷ b ∷ c ∷ [])) (with_two infos known answered row a b leaders) → IsIn (given (a ∷ b ∷ c ∷ [])) (with_two infos known answered row a c leaders) → IsIn (given (a ∷ b ∷ c ∷ [])) (with_two infos known answered row b c leaders)
        → IsIn (given (a ∷ b ∷ c ∷ [])) (with_two infos known answered row v w leaders) ⊎ IsIn (given (a ∷ b ∷ c ∷ [])) (with_two infos known answered row w v leaders)
    by_places v w a b c leaders apart i j ab ac bc = places i j
      where
        moved : (x y p q : VarId) → x ≡ p → y ≡ q → IsIn (given (a ∷ b ∷ c ∷ [])) (with_two infos known answered row p q leaders) → IsIn (given (a ∷ b ∷ c ∷ [])) (with_two infos known answered row x y leaders)
        moved x y p q e f h =
            subst (λ z. IsIn (given (a ∷ b ∷ c ∷ [])) (with_two infos known answered row z y leaders)) (sym e)
            (subst (λ z. IsIn (given (a ∷ b ∷ c ∷ [])) (with_two infos known answered row p z leaders)) (sym f) h)

        places : IsIn v (a ∷ b ∷ c ∷ []) → IsIn w (a ∷ b ∷ c ∷ [])
            → IsIn (given (a ∷ b ∷ c ∷ [])) (with_two infos known answered row v w leaders) ⊎ IsIn (given (a ∷ b ∷ c ∷ [])) (with_two infos known answered row w v leaders)
        places (inl e) (inl f) = absurd (apart (e ∙ sym f))
        places (inl e) (inr (inl f)) = inl (moved v w a b e f ab)
        places (inl e) (inr (inr (inl f))) = inl (moved v w a c e f ac)
        places (inr (inl e)) (inl f) = inr (moved w v a b f e ab)
        places (inr (inl e)) (inr (inl f)) = absurd (apart (e ∙ sym f))
        places (inr (inl e)) (inr (inr (inl f))) = inl (moved v w b c e f bc)
        places (inr (inr (inl e))) (inl f) = inr (moved w v a c f e ac)
        places (inr (inr (inl e))) (inr (inl f)) = inr (moved w v b c f e bc)
        places (inr (inr (inl e))) (inr (inr (inl f))) = absurd (apart (e ∙ sym f))
        places (inr (inr (inr n))) j = absurd n
        places i (inr (inr (inr n))) = absurd n

    pub in_with_one : (of before leaders : List VarId) (k : ℕ) (vars : List VarId) → length vars ≡ arity_of row → length vars ≤ 3 → IsAtRole of before leaders k vars → has_slot infos known answered row vars ≡ true
        → IsIn (given vars) (with_one infos known answered row of before leaders)
    in_with_one of before leaders k [] long few at has = absurd at
    in_with_one of before leaders zero (v ∷ []) long few at has =
        let s = given (v ∷ []) in
        when s (arity_of row == 1) (firsts infos known answered row of) (others_of of before leaders) (of_arity 1 1 long true refl) (ones_in v of at.0 has)
    in_with_one of before leaders (suc k) (v ∷ []) long few at has = absurd at.1
    in_with_one of before leaders zero (v ∷ w ∷ []) long few at has =
        let s = given (v ∷ w ∷ []) in
        let there = IsIn-append_left s (pairs infos known answered row of leaders) (pairs infos known answered row before of) (twos_in v w of leaders at.0 (All-head (λ u. IsIn u leaders) w [] at.1) has) in
        in_two s of before leaders long there
    in_with_one of before leaders (suc zero) (v ∷ w ∷ []) long few at has =
        let s = given (v ∷ w ∷ []) in
        let there = IsIn-append_right s (pairs infos known answered row of leaders) (pairs infos known answered row before of) (twos_in v w before of at.0 at.1.0 has) in
        in_two s of before leaders long there
    in_with_one of before leaders (suc (suc k)) (v ∷ w ∷ []) long few at has = absurd at.1.1
    in_with_one of before leaders zero (v ∷ w ∷ x ∷ []) long few at has =
        let s = given (v ∷ w ∷ x ∷ []) in
        let rest = All-tail (λ u. IsIn u leaders) w (x ∷ []) at.1 in
        let one = threes_in v w x of leaders leaders at.0 (All-head (λ u. IsIn u leaders) w (x ∷ []) at.1) (All-head (λ u. IsIn u leaders) x [] rest) has in
        let t = triples infos known answered row of leaders leaders in
        let u = triples infos known answered row before of leaders in
        in_three s of before leaders long (IsIn-append_left s (t ++ u) (triples infos known answered row before before of) (IsIn-append_left s t u one))
    in_with_one of before leaders (suc zero) (v ∷ w ∷ x ∷ []) long few at has =
        let s = given (v ∷ w ∷ x ∷ []) in
        let one = threes_in v w x before of leaders at.0 at.1.0 (All-head (λ u. IsIn u leaders) x [] at.1.1) has in
        let t = triples infos known answered row of leaders leaders in
        let u = triples infos known answered row before of leaders in
        in_three s of before leaders long (IsIn-append_left s (t ++ u) (triples infos known answered row before before of) (IsIn-append_right s t u one))
    in_with_one of before leaders (suc (suc zero)) (v ∷ w ∷ x ∷ []) long few at has =
        let s = given (v ∷ w ∷ x ∷ []) in
        let one = threes_in v w x before before of at.0 at.1.0 at.1.1.0 has in
        let t = triples infos known answered row of leaders leaders in
        let u = triples infos known answered row before of leaders in
        in_three s of before leaders long (IsIn-append_right s (t ++ u) (triples infos known answered row before before of) one)
    in_with_one of before leaders (suc (suc (suc k))) (v ∷ w ∷ x ∷ []) long few at has = absurd at.1.1.1
    in_with_one of before leaders k (v ∷ w ∷ x ∷ y ∷ vars) long few at has = absurd (omega (arith, few))

    -- ---- two leaders
    pairs_in_two : (s : Slot) (v w : VarId) (leaders : List VarId) → 2 ≡ arity_of row → IsIn s (pairs infos known answered row (v ∷ []) (w ∷ [])) → IsIn s (with_two infos known answered row v w leaders)
    pairs_in_two s v w leaders long i =
        let p = pairs infos known answered row (v ∷ []) (w ∷ []) in
        let q = threes_of_two v w leaders in
        unless s (arity_of row == 1) [] (if arity_of row == 2 then p else q) (of_arity 2 1 long false refl) (when s (arity_of row == 2) p q (of_arity 2 2 long true refl) i)

    triples_in_two : (s : Slot) (v w : VarId) (leaders : List VarId) → 3 ≡ arity_of row → IsIn s (threes_of_two v w leaders) → IsIn s (with_two infos known answered row v w leaders)
    triples_in_two s v w leaders long i =
        let p = pairs infos known answered row (v ∷ []) (w ∷ []) in
        let q = threes_of_two v w leaders in
        unless s (arity_of row == 1) [] (if arity_of row == 2 then p else q) (of_arity 3 1 long false refl) (unless s (arity_of row == 2) p q (of_arity 3 2 long false refl) i)

    first_two : (v w x : VarId) (leaders : List VarId) → 3 ≡ arity_of row → IsIn x leaders → has_slot infos known answered row (v ∷ w ∷ x ∷ []) ≡ true → IsIn (given (v ∷ w ∷ x ∷ [])) (with_two infos known answered row v w leaders)
    first_two v w x leaders long i has =
        let s = given (v ∷ w ∷ x ∷ []) in
        let t = triples infos known answered row (v ∷ []) (w ∷ []) leaders in
        let u = triples infos known answered row (v ∷ []) leaders (w ∷ []) in
        triples_in_two s v w leaders long (IsIn-append_left s (t ++ u) (triples infos known answered row leaders (v ∷ []) (w ∷ [])) (IsIn-append_left s t u (threes_in v w x (v ∷ []) (w ∷ []) leaders (inl refl) (inl refl) i has)))

    ends : (v x w : VarId) (leaders : List VarId) → 3 ≡ arity_of row → IsIn x leaders → has_slot infos known answered row (v ∷ x ∷ w ∷ []) ≡ true → IsIn (given (v ∷ x ∷ w ∷ [])) (with_two infos known answered row v w leaders)
    ends v x w leaders long i has =
        let s = given (v ∷ x ∷ w ∷ []) in
        let t = triples infos known answered row (v ∷ []) (w ∷ []) leaders in
        let u = triples infos known answered row (v ∷ []) leaders (w ∷ []) in
        triples_in_two s v w leaders long (IsIn-append_left s (t ++ u) (triples infos known answered row leaders (v ∷ []) (w ∷ [])) (IsIn-append_right s t u (threes_in v x w (v ∷ []) leaders (w ∷ []) (inl refl) i (inl refl) has)))

    last_two : (x v w : VarId) (leaders : List VarId) → 3 ≡ arity_of row → IsIn x leaders → has_slot infos known answered row (x ∷ v ∷ w ∷ []) ≡ true → IsIn (given (x ∷ v ∷ w ∷ [])) (with_two infos known answered row v w leaders)
    last_two x v w leaders long i has =
        let s = given (x ∷ v ∷ w ∷ []) in
        let t = triples infos known answered row (v ∷ []) (w ∷ []) leaders in
        let u = triples infos known answered row (v ∷ []) leaders (w ∷ []) in
        triples_in_two s v w leaders long (IsIn-append_right s (t ++ u) (triples infos known answered row leaders (v ∷ []) (w ∷ [])) (threes_in x v w leaders (v ∷ []) (w ∷ []) i (inl refl) (inl refl) has))

    -- the two stand in one order or the other
    abbrev InEither : VarId → VarId → List VarId → List VarId → Type 0
    InEither v w leaders vars = IsIn (given vars) (with_two infos known answered row v w leaders) ⊎ IsIn (given vars) (with_two infos known answered row w v leaders)

    in_either : (v w : VarId) (leaders vars : List VarId) → length vars ≡ arity_of row → length vars ≤ 3 → v ≢ w → IsIn v vars → IsIn w vars → All (λ u. IsIn u leaders) vars → has_slot infos known answered row vars ≡ true
        → InEither v w leaders vars
    in_either v w leaders [] long few apart i j led has = absurd i
    in_either v w leaders (a ∷ []) long few apart (inl e) (inl f) led has = absurd (apart (e ∙ sym f))
    in_either v w leaders (a ∷ []) long few apart (inr i) j led has = absurd i
    in_either v w leaders (a ∷ []) long few apart (inl e) (inr j) led has = absurd j
    in_either v w leaders (a ∷ b ∷ []) long few apart (inl e) (inl f) led has = absurd (apart (e ∙ sym f))
    in_either v w leaders (a ∷ b ∷ []) long few apart (inl e) (inr (inl f)) led has =
        inl (subst (λ x. IsIn (given (a ∷ b ∷ [])) (with_two infos known answered row x w leaders)) (sym e) (subst (λ x. IsIn (given (a ∷ b ∷ [])) (with_two infos known answered row a x leaders)) (sym f)
        (pairs_in_two (given (a ∷ b ∷ [])) a b leaders long (twos_in a b (a ∷ []) (b ∷ []) (inl refl) (inl refl) has))))
    in_either v w leaders (a ∷ b ∷ []) long few apart (inr (inl e)) (inl f) led has =
        inr (subst (λ x. IsIn (given (a ∷ b ∷ [])) (with_two infos known answered row x v leaders)) (sym f) (subst (λ x. IsIn (given (a ∷ b ∷ [])) (with_two infos known answered row a x leaders)) (sym e)
        (pairs_in_two (given (a ∷ b ∷ [])) a b leaders long (twos_in a b (a ∷ []) (b ∷ []) (inl refl) (inl refl) has))))
    in_either v w leaders (a ∷ b ∷ []) long few apart (inr (inl e)) (inr (inl f)) led has = absurd (apart (e ∙ sym f))
    in_either v w leaders (a ∷ b ∷ []) long few apart (inr (inr i)) j led has = absurd i
    in_either v w leaders (a ∷ b ∷ []) long few apart i (inr (inr j)) led has = absurd j
    in_either v w leaders (a ∷ b ∷ c ∷ []) long few apart i j led has =
        let la = All-head (λ u. IsIn u leaders) a (b ∷ c ∷ []) led in
        let t1 = All-tail (λ u. IsIn u leaders) a (b ∷ c ∷ []) led in
        let lb = All-head (λ u. IsIn u leaders) b (c ∷ []) t1 in
        let lc = All-head (λ u. IsIn u leaders) c [] (All-tail (λ u. IsIn u leaders) b (c ∷ []) t1) in
        by_places v w a b c leaders apart i j (first_two a b c leaders long lc has) (ends a b c leaders long lb has) (last_two a b c leaders long la has)
    in_either v w leaders (a ∷ b ∷ c ∷ d ∷ vars) long few apart i j led has = absurd (omega (arith, few))

    pub in_with_ends : (v w : VarId) (leaders vars : List VarId) → length vars ≡ arity_of row → length vars ≤ 3 → IsIn v vars → IsIn w vars → All (λ u. IsIn u leaders) vars → has_slot infos known answered row vars ≡ true
        → IsIn (given vars) (with_ends infos known answered row v w leaders)
    in_with_ends v w leaders vars long few i j led has =
        let s = given vars in
        let one = with_one infos known answered row (v ∷ []) leaders leaders in
        let vw = with_two infos known answered row v w leaders in
        let wv = with_two infos known answered row w v leaders in
        elim (cases_eq v.0 w.0) [
          | inl e ↦
              let at = at_one v leaders vars i led in
              when s (v.0 == w.0) one (vw ++ wv) (eq-eqb v.0 w.0 e) (in_with_one (v ∷ []) leaders leaders at.0 vars long few at.1 has)
          | inr ne ↦ unless s (v.0 == w.0) one (vw ++ wv) (ne_eqb v.0 w.0 ne) (elim (in_either v w leaders vars long few (λ e. ne (ap (λ (u : VarId). u.0) e)) i j led has) as (λ _. IsIn s (vw ++ wv)) [
            | inl a ↦ IsIn-append_left s vw wv a
            | inr b ↦ IsIn-append_right s vw wv b
          ])
        ]

    pub in_with_both : (lost leaders vars : List VarId) → 0 < length lost → All (Contains vars) lost → length vars ≡ arity_of row → length vars ≤ 3 → All (λ u. IsIn u leaders) vars → has_slot infos known answered row vars ≡ true
        → IsIn (given vars) (with_both infos known answered row lost leaders)
    in_with_both lost leaders vars some among long few led has =
        let c = among 0 (var 0) some in
        let d = among (length lost - 1) (var 0) (omega (arith, some)) in
        in_with_ends (get_or lost 0 (var 0)) (get_or lost (length lost - 1) (var 0)) leaders vars long few (is_in (get_or lost 0 (var 0)) vars c.0 c.1 c.2) (is_in (get_or lost (length lost - 1) (var 0)) vars d.0 d.1 d.2) led has

    pub of_with_both : (lost leaders : List VarId) → 0 < length lost → All (λ v. IsIn v leaders) lost → (s : Slot) → IsIn s (with_both infos known answered row lost leaders) → IsGiven leaders row s
    of_with_both lost leaders some led s i = of_with_ends leaders (get_or lost 0 (var 0)) (get_or lost (length lost - 1) (var 0)) (led 0 (var 0) some) (led (length lost - 1) (var 0) (omega (arith, some))) s i

    -- ---- by the row's arity
    if_true : {X : Type 0} (b : Bool) (x y : X) → b ≡ true → (if b then x else y) ≡ x
    if_true b x y e = ap (λ c. if c then x else y) e

    if_false : {X : Type 0} (b : Bool) (x y : X) → b ≡ false → (if b then x else y) ≡ y
    if_false b x y e = ap (λ c. if c then x else y) e

    module _ (of before leaders : List VarId) where
      abbrev ones_of : List Slot
      ones_of = firsts infos known answered row of

      abbrev twos_of : List Slot
      twos_of = twos_with_one infos known answered row of before leaders

      abbrev threes_of : List Slot
      threes_of = threes_with_one infos known answered row of before leaders

      pub with_one_role : arity_of row ≡ 1 → ones_of ≡ with_one infos known answered row of before leaders
      with_one_role e = sym (if_true (arity_of row == 1) ones_of (if arity_of row == 2 then twos_of else threes_of) (eq-eqb (arity_of row) 1 e))

      pub with_two_roles : arity_of row ≡ 2 → twos_of ≡ with_one infos known answered row of before leaders
      with_two_roles e =
          sym (if_false (arity_of row == 1) ones_of (if arity_of row == 2 then twos_of else threes_of) (ap (λ n. n == 1) e) ∙ if_true (arity_of row == 2) twos_of threes_of (eq-eqb (arity_of row) 2 e))

      pub with_three_roles : (arity_of row ≡ 1 → ⊥) → (arity_of row ≡ 2 → ⊥) → threes_of ≡ with_one infos known answered row of before leaders
      with_three_roles a b =
          sym (if_false (arity_of row == 1) ones_of (if arity_of row == 2 then twos_of else threes_of) (ne_eqb (arity_of row) 1 a) ∙ if_false (arity_of row == 2) twos_of threes_of (ne_eqb (arity_of row) 2 b))

    module _ (v w : VarId) (leaders : List VarId) where
      abbrev two_of : List Slot
      two_of = pairs infos known answered row (v ∷ []) (w ∷ [])

      abbrev three_of : List Slot
      three_of = threes_with_two infos known answered row v w leaders

      pub both_one_role : arity_of row ≡ 1 → [] ≡ with_two infos known answered row v w leaders
      both_one_role e = sym (if_true {X = List Slot} (arity_of row == 1) [] (if arity_of row == 2 then two_of else three_of) (eq-eqb (arity_of row) 1 e))

      pub both_two_roles : arity_of row ≡ 2 → two_of ≡ with_two infos known answered row v w leaders
      both_two_roles e =
          sym (if_false {X = List Slot} (arity_of row == 1) [] (if arity_of row == 2 then two_of else three_of) (ap (λ n. n == 1) e) ∙ if_true (arity_of row == 2) two_of three_of (eq-eqb (arity_of row) 2 e))

      pub both_three_roles : (arity_of row ≡ 1 → ⊥) → (arity_of row ≡ 2 → ⊥) → three_of ≡ with_two infos known answered row v w leaders
      both_three_roles a b =
          sym (if_false {X = List Slot} (arity_of row == 1) [] (if arity_of row == 2 then two_of else three_of) (ne_eqb (arity_of row) 1 a) ∙ if_false (arity_of row == 2) two_of three_of (ne_eqb (arity_of row) 2 b))

-- ---- no leader touches
none_each : {X Y : Type 0} (f : X → List Y) → ((x : X) → f x ≡ []) → (xs : List X) → flat_map f xs ≡ []
none_each f none [] = refl
none_each f none (x ∷ xs) = ap (λ ys. ys ++ flat_map f xs) (none x) ∙ none_each f none xs

none_with_one : (infos : List VarInfo) (known : Entries) (answered : RowId → List VarId → State) (row : RowId) (others leaders : List VarId) → with_one infos known answered row [] others leaders ≡ []
none_with_one infos known answered row others leaders =
    let second : pairs infos known answered row others [] ≡ [] = none_each (λ v. seconds infos known answered row v []) (λ v. refl) others in
    let middle : triples infos known answered row others [] leaders ≡ [] = none_each (λ v. behind infos known answered row v [] leaders) (λ v. refl) others in
    let last : triples infos known answered row others others [] ≡ [] =
    none_each (λ v. behind infos known answered row v others []) (λ v. none_each (λ w. thirds infos known answered row v w []) (λ w. refl) others) others in
    let twos : twos_with_one infos known answered row [] others leaders ≡ [] = second in
    let threes : threes_with_one infos known answered row [] others leaders ≡ [] = ap (λ ss. ss ++ triples infos known answered row others others []) middle ∙ last in
    elim (arity_of row == 1) as (λ b. (if b then [] else if arity_of row == 2 then twos_with_one infos known answered row [] others leaders else threes_with_one infos known answered row [] others leaders) ≡ []) [
      | true ↦ refl
      | false ↦ elim (arity_of row == 2) as (λ b. (if b then twos_with_one infos known answered row [] others leaders else threes_with_one infos known answered row [] others leaders) ≡ []) [ true ↦ twos | false ↦ threes ]
    ]

pub none_touched : (g : Grammar) (infos : List VarInfo) (known : Entries) (answered : RowId → List VarId → State) (others leaders : List VarId) → touched_slots g infos known answered [] others leaders ≡ []
unfolding touched_slots
none_touched g infos known answered others leaders = none_each (λ row. with_one infos known answered row [] others leaders) (λ row. none_with_one infos known answered row others leaders) (rows_of g)
