-- What bitmaps say of patterns.
use Rattle.std.proofs.Common.{◌≡◌, ◌≢◌, ◌<◌, ◌≤◌, ◌+◌, ◌-◌, ◌*◌, ◌/◌, ◌%◌, ◌^◌, ◌↔◌, ◌&&◌, ◌||◌, ◌∙◌, ℕ, zero, suc, min, Bool, true, false, cond, All, List, [], ◌∷◌, arith, ap, sym, refl, subst, inl, inr, length, get_or, take, drop, fold, sum_by, bit_and}
use Rattle.std.specs.List.{list_any}
use Rattle.std.specs.Int.Bits.{and_step}
use Rattle.std.proofs.lemmas.Bool.{cases_Bool, false≢true, true≢false}
use Rattle.std.proofs.lemmas.List.{get_or-drop, get_or-take, length-drop, length-take, take-append-drop, take_more}
use Rattle.std.proofs.lemmas.List.Elements.{All-cons, All-drop, All-head, All-tail, All-take}
use Rattle.std.proofs.lemmas.List.Folds.{list_any-append, list_any_at, list_any_none}
use Rattle.std.proofs.lemmas.List.Sums.{fold-append, sum_by-cons}
use Rattle.dk_base.specs.declared.kinds.VarId.{VarId}
use Rattle.dk_presence.specs.Patterns.{AreHeld, counted_by, has, has_all}
use Rattle.dk_presence.specs.declared.held.Held.{Held}
use Rattle.dk_forms.specs.declared.states.State.{State}
use Rattle.dk_forms.specs.declared.states.State.TheVariants.{Empty, Holds}
use Rattle.dk_suppress.specs.Soundness.{holds_of}
use Rattle.dk_template.specs.declared.templates.StateForm.{StateForm}
use Rattle.dk_engine.specs.Saved.Bitmaps.{IsBitmap, are_together, block_at, digits}
use Rattle.dk_engine.specs.Saved.Restored.{IsStateOf}

-- ---- digits
-- the digits after those of a number
after : (Held → Bool) → ℕ → List Held → ℕ
after test m block = fold (λ n h. n * 2 + cond (test h) 1 0) m block

digit_and : (m n x y : ℕ) → x < 2 → y < 2 → bit_and (m * 2 + x) (n * 2 + y) ≡ bit_and m n * 2 + min x y
digit_and m n x y lx ly =
    let l : (m * 2 + x) / 2 ≡ m = omega arith in
    let r : (n * 2 + y) / 2 ≡ n = omega arith in
    let h : bit_and ((m * 2 + x) / 2) ((n * 2 + y) / 2) ≡ bit_and m n = ap (λ k. bit_and k ((n * 2 + y) / 2)) l ∙ ap (bit_and m) r in
    omega (arith, and_step (m * 2 + x) (n * 2 + y), h)

both : (m n : ℕ) (b c : Bool) → bit_and (m * 2 + cond b 1 0) (n * 2 + cond c 1 0) ≡ bit_and m n * 2 + cond (b && c) 1 0
both m n true true = digit_and m n 1 1 (omega arith) (omega arith)
both m n true false = digit_and m n 1 0 (omega arith) (omega arith)
both m n false true = digit_and m n 0 1 (omega arith) (omega arith)
both m n false false = digit_and m n 0 0 (omega arith) (omega arith)

after_and : (p q : Held → Bool) (m n : ℕ) (block : List Held) → bit_and (after p m block) (after q n block) ≡ after (λ h. p h && q h) (bit_and m n) block
unfolding after
after_and p q m n [] = refl
after_and p q m n (h ∷ block) =
    after_and p q (m * 2 + cond (p h) 1 0) (n * 2 + cond (q h) 1 0) block ∙ ap (λ k. after (λ x. p x && q x) k block) (both m n (p h) (q h))

digits_and : (p q : Held → Bool) (block : List Held) → bit_and (digits p block) (digits q block) ≡ digits (λ h. p h && q h) block
unfolding after
digits_and p q block = after_and p q 0 0 block

above : (p : Held → Bool) (m : ℕ) (block : List Held) → 0 < m → 0 < after p m block
unfolding after
above p m [] l = l
above p m (h ∷ block) l = above p (m * 2 + cond (p h) 1 0) block (omega (arith, l))

digits_some : (p : Held → Bool) (block : List Held) → list_any p block ≡ true → 0 < digits p block
unfolding after
digits_some p [] h = absurd (false≢true h)
digits_some p (k ∷ block) h = elim (cases_Bool (p k)) [
  | inl e ↦ subst (λ b. 0 < after p (0 * 2 + cond b 1 0) block) (sym e) (above p 1 block (omega arith))
  | inr n ↦ subst (λ b. 0 < after p (0 * 2 + cond b 1 0) block) (sym n) (digits_some p block (ap (λ b. b || list_any p block) (sym n) ∙ h))
]

digits_none : (p : Held → Bool) (block : List Held) → list_any p block ≡ false → digits p block ≡ 0
unfolding after
digits_none p [] h = refl
digits_none p (k ∷ block) h = elim (cases_Bool (p k)) [
  | inl e ↦ absurd (true≢false (ap (λ b. b || list_any p block) (sym e) ∙ h))
  | inr n ↦ ap (λ b. after p (0 * 2 + cond b 1 0) block) n ∙ digits_none p block (ap (λ b. b || list_any p block) (sym n) ∙ h)
]

same_digit : (m n : ℕ) (b c : Bool) → m * 2 + cond b 1 0 ≡ n * 2 + cond c 1 0 → (m ≡ n) × (b ≡ c)
same_digit m n true true e = (omega (arith, e), refl)
same_digit m n true false e = absurd (omega (arith, e))
same_digit m n false true e = absurd (omega (arith, e))
same_digit m n false false e = (omega (arith, e), refl)

-- numbers of as many digits are the same only where each digit is
after_same : (p q : Held → Bool) (m n : ℕ) (block : List Held) → after p m block ≡ after q n block → (m ≡ n) × All (λ h. p h ≡ q h) block
unfolding after
after_same p q m n [] e = (e, λ k d l. absurd (omega (arith, l)))
after_same p q m n (h ∷ block) e =
    let rest = after_same p q (m * 2 + cond (p h) 1 0) (n * 2 + cond (q h) 1 0) block e in
    let here = same_digit m n (p h) (q h) rest.0 in
    (here.0, All-cons (λ h. p h ≡ q h) h block here.1 rest.1)

digits_same : (p q : Held → Bool) (block : List Held) → digits p block ≡ digits q block → All (λ h. p h ≡ q h) block
unfolding after
digits_same p q block e = (after_same p q 0 0 block e).1

after_alike : (p q : Held → Bool) (m : ℕ) (block : List Held) → All (λ h. p h ≡ q h) block → after p m block ≡ after q m block
unfolding after
after_alike p q m [] all = refl
after_alike p q m (h ∷ block) all =
    ap (λ b. after p (m * 2 + cond b 1 0) block) (All-head (λ h. p h ≡ q h) h block all)
    ∙ after_alike p q (m * 2 + cond (q h) 1 0) block (All-tail (λ h. p h ≡ q h) h block all)

digits_alike : (p q : Held → Bool) (block : List Held) → All (λ h. p h ≡ q h) block → digits p block ≡ digits q block
unfolding after
digits_alike p q block all = after_alike p q 0 block all

-- one pattern more
pub digits_more : (test : Held → Bool) (block : List Held) (i : ℕ) (d : Held) → i < length block
    → digits test (take (i + 1) block) ≡ digits test (take i block) * 2 + cond (test (get_or block i d)) 1 0
digits_more test block i d l = ap (digits test) (take_more block i d l) ∙ fold-append (λ n h. n * 2 + cond (test h) 1 0) 0 (take i block) (get_or block i d ∷ [])

pub digits_below : (test : Held → Bool) (block : List Held) (d : Held) (i : ℕ) → i ≤ length block → digits test (take i block) < 2 ^ i
digits_below test block d zero l = omega arith
digits_below test block d (suc i) l =
    let below = digits_below test block d i (omega (arith, l)) in
    let next : i + 1 ≡ suc i = omega arith in
    let more : digits test (take (suc i) block) ≡ digits test (take i block) * 2 + cond (test (get_or block i d)) 1 0 =
    ap (λ n. digits test (take n block)) (sym next) ∙ digits_more test block i d (omega (arith, l))
    in
    let bit : cond (test (get_or block i d)) 1 0 < 2 = small (test (get_or block i d)) in
    let twice : 2 ^ suc i ≡ 2 ^ i * 2 = omega arith in
    omega (arith, below, more, bit, twice)
  where
    small : (b : Bool) → cond b 1 0 < 2
    small true = omega arith
    small false = omega arith

-- ---- blocks
length_block : (held : List Held) (j : ℕ) → length (block_at held j) ≡ min 64 (length held - j * 64)
length_block held j = length-take 64 (drop (j * 64) held) ∙ ap (min 64) (length-drop (j * 64) held)

-- one that a block has is one of all
in_block : (p : Held → Bool) (held : List Held) (s : ℕ) → list_any p (take 64 (drop s held)) ≡ true → list_any p held ≡ true
in_block p held s h =
    let rest = drop s held in
    let later : list_any p rest ≡ true =
    ap (list_any p) (sym (take-append-drop 64 rest)) ∙ (list_any-append p (take 64 rest) (drop 64 rest) ∙ ap (λ b. b || list_any p (drop 64 rest)) h)
    in
    ap (list_any p) (sym (take-append-drop s held)) ∙ (list_any-append p (take s held) rest ∙ (ap (λ b. list_any p (take s held) || b) later ∙ or_true (list_any p (take s held))))
  where
    or_true : (b : Bool) → (b || true) ≡ true
    or_true true = refl
    or_true false = refl

-- none of all is in a block
no_block : (p : Held → Bool) (held : List Held) → ((j : ℕ) → j < length held / 64 + 1 → list_any p (block_at held j) ≡ false) → list_any p held ≡ false
no_block p held none = list_any_none p held (λ i d l.
    let j = i / 64 in
    let r = i % 64 in
    let sum : j * 64 + r ≡ i = omega arith in
    let small : r < 64 = omega arith in
    let within : j < length held / 64 + 1 = omega (arith, l) in
    let at : get_or (block_at held j) r d ≡ get_or held i d =
    get_or-take 64 (drop (j * 64) held) r d small ∙ (get_or-drop (j * 64) held r d ∙ ap (λ k. get_or held k d) sum)
    in
    let long : r < length (block_at held j) = grind (arith, length_block held j, l, sum, small) in
    elim (cases_Bool (p (get_or held i d))) [
      | inl e ↦ absurd (true≢false (sym (list_any_at p (block_at held j) r d long (ap p at ∙ e)) ∙ none j within))
      | inr n ↦ n
    ])

list_any_ext : (p q : Held → Bool) (held : List Held) → ((h : Held) → p h ≡ q h) → list_any p held ≡ list_any q held
list_any_ext p q [] e = refl
list_any_ext p q (h ∷ held) e = ap (λ b. b || list_any p held) (e h) ∙ ap (λ b. q h || b) (list_any_ext p q held e)

-- ---- three bitmaps
all_three : Held → VarId → VarId → VarId → Bool
all_three h x y z = (has h.leaders x && has h.leaders y) && has h.leaders z

three_are : (held : List Held) (x y z : VarId) → are_together held (x ∷ y ∷ z ∷ []) ≡ list_any (λ h. all_three h x y z) held
unfolding all_three
three_are held x y z = list_any_ext (λ h. has_all h.leaders (x ∷ y ∷ z ∷ [])) (λ h. all_three h x y z) held (λ h. order (has h.leaders x) (has h.leaders y) (has h.leaders z))
  where
    order : (a b c : Bool) → (a && (b && (c && true))) ≡ ((a && b) && c)
    order true true true = refl
    order true true false = refl
    order true false c = refl
    order false b c = refl

word_and : (held : List Held) (x y z : VarId) (a b c : List ℕ) → IsBitmap held x a → IsBitmap held y b → IsBitmap held z c
    → (j : ℕ) → j < length a → bit_and (bit_and (get_or a j 0) (get_or b j 0)) (get_or c j 0) ≡ digits (λ h. all_three h x y z) (block_at held j)
unfolding all_three
word_and held x y z a b c ia ib ic j l =
    let block = block_at held j in
    let within : j < length held / 64 + 1 = omega (arith, l, ia.long) in
    let ea = ia.each j within in
    let eb = ib.each j within in
    let ec = ic.each j within in
    ap (λ n. bit_and (bit_and n (get_or b j 0)) (get_or c j 0)) ea
    ∙ (ap (λ n. bit_and (bit_and (digits (λ h. has h.leaders x) block) n) (get_or c j 0)) eb
    ∙ (ap (λ n. bit_and n (get_or c j 0)) (digits_and (λ h. has h.leaders x) (λ h. has h.leaders y) block)
    ∙ (ap (bit_and (digits (λ h. has h.leaders x && has h.leaders y) block)) ec
    ∙ digits_and (λ h. has h.leaders x && has h.leaders y) (λ h. has h.leaders z) block)))

pub common_some : (held : List Held) (x y z : VarId) (a b c : List ℕ) → IsBitmap held x a → IsBitmap held y b → IsBitmap held z c
    → (j : ℕ) → j < length a → bit_and (bit_and (get_or a j 0) (get_or b j 0)) (get_or c j 0) ≢ 0 → are_together held (x ∷ y ∷ z ∷ []) ≡ true
common_some held x y z a b c ia ib ic j l some =
    let p : Held → Bool = λ h. all_three h x y z in
    elim (cases_Bool (list_any p (block_at held j))) [
      | inl e ↦ three_are held x y z ∙ in_block p held (j * 64) e
      | inr n ↦ absurd (some (word_and held x y z a b c ia ib ic j l ∙ digits_none p (block_at held j) n))
    ]

pub common_none : (held : List Held) (x y z : VarId) (a b c : List ℕ) → IsBitmap held x a → IsBitmap held y b → IsBitmap held z c
    → ((j : ℕ) → j < length a → bit_and (bit_and (get_or a j 0) (get_or b j 0)) (get_or c j 0) ≡ 0) → are_together held (x ∷ y ∷ z ∷ []) ≡ false
common_none held x y z a b c ia ib ic none =
    let p : Held → Bool = λ h. all_three h x y z in
    three_are held x y z ∙ no_block p held (λ j l.
    let within : j < length a = omega (arith, l, ia.long) in
    elim (cases_Bool (list_any p (block_at held j))) [
      | inl e ↦
          let some = digits_some p (block_at held j) e in
          let word = word_and held x y z a b c ia ib ic j within in
          let nil = none j within in
          absurd (omega (arith, some, word, nil))
      | inr n ↦ n
    ])

-- ---- one bitmap
-- words in which all patterns have the same bit
pub all_same : (held : List Held) (v : VarId) (words : List ℕ) (present : Bool) → IsBitmap held v words
    → ((j : ℕ) → j < length words → get_or words j 0 ≡ digits (λ _. present) (block_at held j)) → All (λ h. has h.leaders v ≡ present) held
all_same held v words present is same = λ i d l.
    let j = i / 64 in
    let r = i % 64 in
    let sum : j * 64 + r ≡ i = omega arith in
    let small : r < 64 = omega arith in
    let within : j < length held / 64 + 1 = omega (arith, l) in
    let at : get_or (block_at held j) r d ≡ get_or held i d =
    get_or-take 64 (drop (j * 64) held) r d small ∙ (get_or-drop (j * 64) held r d ∙ ap (λ k. get_or held k d) sum)
    in
    let long : r < length (block_at held j) = grind (arith, length_block held j, l, sum, small) in
    let digit : digits (λ h. has h.leaders v) (block_at held j) ≡ digits (λ _. present) (block_at held j) = sym (is.each j within) ∙ same j (omega (arith, within, is.long)) in
    ap (λ (h : Held). has h.leaders v) (sym at) ∙ digits_same (λ h. has h.leaders v) (λ _. present) (block_at held j) digit r d long

pub not_same : (held : List Held) (v : VarId) (words : List ℕ) (present : Bool) (j : ℕ) → IsBitmap held v words → j < length words
    → get_or words j 0 ≢ digits (λ _. present) (block_at held j) → All (λ h. has h.leaders v ≡ present) held → ⊥
not_same held v words present j is l other all =
    let P : Held → Type 0 = λ h. has h.leaders v ≡ present in
    other (is.each j (omega (arith, l, is.long)) ∙ digits_alike (λ h. has h.leaders v) (λ _. present) (block_at held j) (All-take P 64 (drop (j * 64) held) (All-drop P (j * 64) held all)))

-- ---- counts
count_none : (held : List Held) (vars : List VarId) → are_together held vars ≡ false → sum_by (λ h. cond (has_all h.leaders vars) h.count 0) held ≡ 0
count_none [] vars h = refl
count_none (k ∷ held) vars h = elim (cases_Bool (has_all k.leaders vars)) [
  | inl e ↦ absurd (true≢false (ap (λ b. b || are_together held vars) (sym e) ∙ h))
  | inr n ↦
      let whole = sum_by-cons (λ (x : Held). cond (has_all x.leaders vars) x.count 0) k held in
      let here : cond (has_all k.leaders vars) k.count 0 ≡ 0 = ap (λ b. cond b k.count 0) n in
      let rest = count_none held vars (ap (λ b. b || are_together held vars) (sym n) ∙ h) in
      omega (arith, whole, here, rest)
]

count_some : (held : List Held) (vars : List VarId) → All (λ h. 0 < h.count) held → are_together held vars ≡ true → 0 < sum_by (λ h. cond (has_all h.leaders vars) h.count 0) held
count_some [] vars all h = absurd (false≢true h)
count_some (k ∷ held) vars all h =
    let whole = sum_by-cons (λ (x : Held). cond (has_all x.leaders vars) x.count 0) k held in
    elim (cases_Bool (has_all k.leaders vars)) [
      | inl e ↦
          let here : cond (has_all k.leaders vars) k.count 0 ≡ k.count = ap (λ b. cond b k.count 0) e in
          let some : 0 < k.count = All-head (λ (x : Held). 0 < x.count) k held all in
          omega (arith, whole, here, some)
      | inr n ↦
          let rest = count_some held vars (All-tail (λ (x : Held). 0 < x.count) k held all) (ap (λ b. b || are_together held vars) (sym n) ∙ h) in
          omega (arith, whole, rest)
    ]

-- there are samples in which all are present exactly where some pattern has all
some_counted : (held : List Held) → AreHeld held → (vars : List VarId) → are_together held vars ≡ true → 0 < counted_by held vars
some_counted held are vars h = let some = count_some held vars are.some h in omega (arith, some)

none_counted : (held : List Held) (vars : List VarId) → are_together held vars ≡ false → counted_by held vars ≡ 0
none_counted held vars h = let none = count_none held vars h in omega (arith, none)

pub counted_if : (held : List Held) → AreHeld held → (vars : List VarId) (b : Bool) → b ≡ are_together held vars → (b ≡ true) ↔ (0 < counted_by held vars)
counted_if held are vars true e = (λ t. some_counted held are vars (sym e), λ l. refl)
counted_if held are vars false e = (λ f. absurd (false≢true f), λ l. let none = none_counted held vars (sym e) in absurd (omega (arith, l, none)))

-- ---- repeats
-- some variables are together where others are
alike : (held : List Held) → AreHeld held → (vs ws : List VarId) → are_together held vs ≡ are_together held ws → (b : Bool) → (b ≡ true) ↔ (0 < counted_by held vs) → (b ≡ true) ↔ (0 < counted_by held ws)
alike held are vs ws e b h = elim (cases_Bool (are_together held vs)) [
  | inl t ↦
      let l = some_counted held are ws (sym e ∙ t) in
      let is = h.1 (some_counted held are vs t) in
      (λ _. l, λ _. is)
  | inr f ↦
      let none = none_counted held ws (sym e ∙ f) in
      let not = none_counted held vs f in
      (λ t. let l = h.0 t in absurd (omega (arith, l, not)), λ l. absurd (omega (arith, l, none)))
]

pub one_of_three : (held : List Held) → AreHeld held → (x : VarId) (b : Bool) → (b ≡ true) ↔ (0 < counted_by held (x ∷ x ∷ x ∷ [])) → (b ≡ true) ↔ (0 < counted_by held (x ∷ []))
one_of_three held are x = alike held are (x ∷ x ∷ x ∷ []) (x ∷ [])
    (list_any_ext (λ h. has_all h.leaders (x ∷ x ∷ x ∷ [])) (λ h. has_all h.leaders (x ∷ [])) held (λ h. same (has h.leaders x)))
  where
    same : (b : Bool) → (b && (b && (b && true))) ≡ (b && true)
    same true = refl
    same false = refl

pub two_of_three : (held : List Held) → AreHeld held → (x y : VarId) (b : Bool) → (b ≡ true) ↔ (0 < counted_by held (x ∷ y ∷ y ∷ [])) → (b ≡ true) ↔ (0 < counted_by held (x ∷ y ∷ []))
two_of_three held are x y = alike held are (x ∷ y ∷ y ∷ []) (x ∷ y ∷ [])
    (list_any_ext (λ h. has_all h.leaders (x ∷ y ∷ y ∷ [])) (λ h. has_all h.leaders (x ∷ y ∷ [])) held (λ h. same (has h.leaders x) (has h.leaders y)))
  where
    same : (b c : Bool) → (b && (c && (c && true))) ≡ (b && (c && true))
    same true true = refl
    same true false = refl
    same false c = refl

-- the same of one or two variables, and of three
pub one_alike : (held : List Held) → AreHeld held → (vars : List VarId) (x : VarId) (b : Bool) → vars ≡ x ∷ [] → (b ≡ true) ↔ (0 < counted_by held (x ∷ x ∷ x ∷ [])) → (b ≡ true) ↔ (0 < counted_by held vars)
one_alike held are vars x b is h = subst (λ vs. (b ≡ true) ↔ (0 < counted_by held vs)) (sym is) (one_of_three held are x b h)

pub two_alike : (held : List Held) → AreHeld held → (vars : List VarId) (x y : VarId) (b : Bool) → vars ≡ x ∷ y ∷ [] → (b ≡ true) ↔ (0 < counted_by held (x ∷ y ∷ y ∷ [])) → (b ≡ true) ↔ (0 < counted_by held vars)
two_alike held are vars x y b is h = subst (λ vs. (b ≡ true) ↔ (0 < counted_by held vs)) (sym is) (two_of_three held are x y b h)

pub three_alike : (held : List Held) (vars : List VarId) (x y z : VarId) (b : Bool) → vars ≡ x ∷ y ∷ z ∷ [] → (b ≡ true) ↔ (0 < counted_by held (x ∷ y ∷ z ∷ [])) → (b ≡ true) ↔ (0 < counted_by held vars)
three_alike held vars x y z b is h = subst (λ vs. (b ≡ true) ↔ (0 < counted_by held vs)) (sym is) h

pub one_long : (vars : List VarId) (d : VarId) → 1 ≤ length vars → length vars < 2 → vars ≡ get_or vars 0 d ∷ []
one_long [] d least most = absurd (omega (arith, least))
one_long (x ∷ []) d least most = refl
one_long (x ∷ y ∷ vars) d least most = absurd (omega (arith, most))

pub two_long : (vars : List VarId) (d e : VarId) → 2 ≤ length vars → length vars < 3 → vars ≡ get_or vars 0 d ∷ get_or vars 1 e ∷ []
two_long [] d e least most = absurd (omega (arith, least))
two_long (x ∷ []) d e least most = absurd (omega (arith, least))
two_long (x ∷ y ∷ []) d e least most = refl
two_long (x ∷ y ∷ z ∷ vars) d e least most = absurd (omega (arith, most))

pub three_long : (vars : List VarId) (d e f : VarId) → 3 ≤ length vars → length vars < 4 → vars ≡ get_or vars 0 d ∷ get_or vars 1 e ∷ get_or vars 2 f ∷ []
three_long [] d e f least most = absurd (omega (arith, least))
three_long (x ∷ []) d e f least most = absurd (omega (arith, least))
three_long (x ∷ y ∷ []) d e f least most = absurd (omega (arith, least))
three_long (x ∷ y ∷ z ∷ []) d e f least most = refl
three_long (x ∷ y ∷ z ∷ w ∷ vars) d e f least most = absurd (omega (arith, most))

-- ---- states
-- a state that a row can have depends only on whether there are samples
pub state_alike : (form : StateForm) (n : ℕ) (b : Bool) (s : State) → (b ≡ true) ↔ (0 < n) → IsStateOf form (cond b 1 0) s ↔ IsStateOf form n s
state_alike form n true s h =
    let some = h.0 refl in (
      λ is. record { proper = is.proper; unbroken = is.unbroken; absent = λ z. absurd (omega (arith, some, z)); present = λ p e. let z = is.present p e in absurd (omega (arith, z)) },
      λ is. record { proper = is.proper; unbroken = is.unbroken; absent = λ z. absurd (omega (arith, z)); present = λ p e. let z = is.present p e in absurd (omega (arith, some, z)) },
    )
state_alike form n false s h =
    let none : n ≡ 0 = zero_or n (λ l. false≢true (h.1 l)) in (
      λ is. record { proper = is.proper; unbroken = is.unbroken; absent = λ _. is.absent refl; present = λ _ _. none },
      λ is. record { proper = is.proper; unbroken = is.unbroken; absent = λ _. is.absent none; present = λ _ _. refl },
    )
  where
    zero_or : (n : ℕ) → (0 < n → ⊥) → n ≡ 0
    zero_or zero h = refl
    zero_or (suc n) h = absurd (h (omega arith))

pub holds_some : (n : ℕ) → 0 < n → holds_of n ≡ Holds
holds_some zero l = absurd (omega (arith, l))
holds_some (suc n) l = refl

pub holds_none : (n : ℕ) → (0 < n → ⊥) → holds_of n ≡ Empty
holds_none zero l = refl
holds_none (suc n) l = absurd (l (omega arith))
