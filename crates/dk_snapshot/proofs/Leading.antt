-- Leaders are read back from the members of their classes.
use Rattle.std.specs.Prelude.{◌≡◌, ◌<◌, ◌+◌, ◌||◌, ℕ, zero, suc, true, false, ◌↔◌, All, Contains, List, [], ◌∷◌, None, Option, Some, filter, length, map, refl, replicate}
use Rattle.std.specs.List.{enumerate_from, list_any}
use Rattle.std.proofs.Common.{◌∙◌, ◌⊎◌, ap, arith, cond, eqb, get_or, inl, inr, set, subst, sym}
use Rattle.std.proofs.lemmas.Bool.{cases_Bool, eq-eqb, eqb-true, false_from_ne_true, true≢false}
use Rattle.std.proofs.lemmas.List.{get_or-map, get_or-set_other, get_or-set_same, get_or_default, length-map, length-replicate, length-set, same_lists}
use Rattle.std.proofs.lemmas.List.Elements.{All-head, All-tail, Contains-get_or}
use Rattle.std.proofs.lemmas.Option.{none-some, same_Some}
use Rattle.dk_base.specs.declared.kinds.VarId.{VarId}
use Rattle.dk_classes.proofs.OwnLeaders.{leads_from_own, own_from_leads}
use Rattle.dk_classes.specs.Leaders.{AreClasses, leader_at, own_leaders, var}
use Rattle.dk_presence.proofs.Refining.{any_at}
use Rattle.dk_presence.specs.Patterns.{has}
use Rattle.dk_snapshot.specs.Classes.{classes_of, members_of}
use Rattle.dk_snapshot.specs.Restored.{HaveMembers, heads_of, led, led_by}

-- ---- members get a leader
length_led_by : (leader : VarId) (members heads : List VarId) → length (led_by leader members heads) ≡ length heads
length_led_by leader [] heads = refl
length_led_by leader (m ∷ members) heads = length_led_by leader members (set heads m.0 leader) ∙ length-set heads m.0 leader

length_led : (members heads : List VarId) → length (led members heads) ≡ length heads
length_led [] heads = refl
length_led (m ∷ members) heads = length_led_by m (m ∷ members) heads

length_heads : (classes : List (List VarId)) (heads : List VarId) → length (heads_of classes heads) ≡ length heads
length_heads [] heads = refl
length_heads (class ∷ classes) heads = length_heads classes (led class heads) ∙ length_led class heads

module _ (k : ℕ) (d : VarId) where
  led_in : (leader : VarId) (members heads : List VarId) → k < length heads → (has members (var k) ≡ true) ⊎ (get_or heads k d ≡ leader) → get_or (led_by leader members heads) k d ≡ leader
  led_in leader [] heads l (inl h) = absurd (true≢false (sym h))
  led_in leader [] heads l (inr e) = e
  led_in leader (m ∷ members) heads l h =
      let more = set heads m.0 leader in
      let long = length-set heads m.0 leader in
      let within : k < length more = omega (arith, l, long) in
      elim (cases_Bool (eqb m.0 k)) [
        | inl here ↦
            let at = eqb-true m.0 k here in
            led_in leader members more within (inr (subst (λ n. get_or (set heads n leader) k d ≡ leader) (sym at) (get_or-set_same heads k leader d l)))
        | inr other ↦ elim h [
          | inl in_rest ↦ led_in leader members more within (inl (ap (λ b. b || (has members (var k))) (sym other) ∙ in_rest))
          | inr e ↦ led_in leader members more within (inr (get_or-set_other heads m.0 k leader d (λ same. true≢false (sym (eq-eqb m.0 k (sym same)) ∙ other)) ∙ e))
        ]
      ]

  led_out : (leader : VarId) (members heads : List VarId) → has members (var k) ≡ false → get_or (led_by leader members heads) k d ≡ get_or heads k d
  led_out leader [] heads none = refl
  led_out leader (m ∷ members) heads none = elim (cases_Bool (eqb m.0 k)) [
    | inl here ↦ absurd (true≢false (sym (ap (λ b. b || (has members (var k))) here) ∙ none))
    | inr other ↦
        led_out leader members (set heads m.0 leader) (ap (λ b. b || (has members (var k))) (sym other) ∙ none)
        ∙ get_or-set_other heads m.0 k leader d (λ same. true≢false (sym (eq-eqb m.0 k (sym same)) ∙ other))
  ]

  not_led : (members heads : List VarId) → has members (var k) ≡ false → get_or (led members heads) k d ≡ get_or heads k d
  not_led [] heads none = refl
  not_led (m ∷ members) heads none = led_out m (m ∷ members) heads none

  -- the class begins with this leader if it has the variable
  abbrev BeginsWith : VarId → List VarId → Type 0
  BeginsWith w class = has class (var k) ≡ true → (rest : List VarId) × (class ≡ w ∷ rest)

  heads_right : (w : VarId) (classes : List (List VarId)) (heads : List VarId) → k < length heads → All (BeginsWith w) classes
      → (list_any (λ class. has class (var k)) classes ≡ true) ⊎ (get_or heads k d ≡ w) → get_or (heads_of classes heads) k d ≡ w
  heads_right w [] heads l all (inl h) = absurd (true≢false (sym h))
  heads_right w [] heads l all (inr e) = e
  heads_right w (class ∷ classes) heads l all h =
      let more = led class heads in
      let long = length_led class heads in
      let within : k < length more = omega (arith, l, long) in
      let later = All-tail (BeginsWith w) class classes all in
      elim (cases_Bool (has class (var k))) [
        | inl here ↦
            let begins = All-head (BeginsWith w) class classes all here in
            let shape = begins.1 in
            let led_here : get_or (led_by w (w ∷ begins.0) heads) k d ≡ w = led_in w (w ∷ begins.0) heads l (inl (ap (λ c. has c (var k)) (sym shape) ∙ here)) in
            heads_right w classes more within later (inr (ap (λ c. get_or (led c heads) k d) shape ∙ led_here))
        | inr none ↦ elim h [
          | inl in_later ↦ heads_right w classes more within later (inl (ap (λ b. b || (list_any (λ c. has c (var k)) classes)) (sym none) ∙ in_later))
          | inr e ↦ heads_right w classes more within later (inr (not_led class heads none ∙ e))
        ]
      ]

-- ---- members of a class
abbrev members_in : ℕ → List (ℕ × VarId) → List VarId
members_in leader es = map (λ p. var p.0) (filter (λ p. eqb p.1.0 leader) es)

-- the members behind one more variable
abbrev with_one : ℕ → ℕ → VarId → List VarId → List VarId
with_one leader n x xs = map (λ (p : ℕ × VarId). var p.0) (cond (eqb x.0 leader) ((n, x) ∷ filter (λ p. eqb p.1.0 leader) (enumerate_from (n + 1) xs)) (filter (λ p. eqb p.1.0 leader) (enumerate_from (n + 1) xs)))

-- the first variable of the class is its first member
first_member : (leader n : ℕ) (xs : List VarId) (k : ℕ) → k < length xs → leader_at xs k ≡ leader → ((j : ℕ) → j < k → leader_at xs j ≡ leader → ⊥)
    → (rest : List VarId) × (members_in leader (enumerate_from n xs) ≡ var (n + k) ∷ rest)
first_member leader n [] k l is first = absurd (omega (arith, l))
first_member leader n (x ∷ xs) zero l is first = (
  members_in leader (enumerate_from (n + 1) xs),
  ap (λ b. map (λ (p : ℕ × VarId). var p.0) (cond b ((n, x) ∷ filter (λ p. eqb p.1.0 leader) (enumerate_from (n + 1) xs)) (filter (λ p. eqb p.1.0 leader) (enumerate_from (n + 1) xs)))) (eq-eqb x.0 leader is)
      ∙ ap (λ m. var m ∷ members_in leader (enumerate_from (n + 1) xs)) (omega arith),
)
first_member leader n (x ∷ xs) (suc k) l is first =
    let found = first_member leader (n + 1) xs k (omega (arith, l)) is (λ j m e. first (suc j) (omega (arith, m)) e) in
    let other : eqb x.0 leader ≡ false = false_from_ne_true (eqb x.0 leader) (λ e. first 0 (omega arith) (eqb-true x.0 leader e)) in (
      found.0,
      ap (λ b. map (λ (p : ℕ × VarId). var p.0) (cond b ((n, x) ∷ filter (λ p. eqb p.1.0 leader) (enumerate_from (n + 1) xs)) (filter (λ p. eqb p.1.0 leader) (enumerate_from (n + 1) xs)))) other
          ∙ (found.1 ∙ ap (λ m. var m ∷ found.0) (omega arith)),
    )

-- a member's leader
member_led : (leader n : ℕ) (xs : List VarId) (m : ℕ) → has (members_in leader (enumerate_from n xs)) (var m) ≡ true → (j : ℕ) × (j < length xs) × (m ≡ n + j) × (leader_at xs j ≡ leader)
member_led leader n [] m h = absurd (true≢false (sym h))
member_led leader n (x ∷ xs) m h = elim (cases_Bool (eqb x.0 leader)) [
  | inl is ↦
      let there : eqb n m || (has (members_in leader (enumerate_from (n + 1) xs)) (var m)) ≡ true =
      subst (λ b. has (map (λ (p : ℕ × VarId). var p.0) (cond b ((n, x) ∷ filter (λ p. eqb p.1.0 leader) (enumerate_from (n + 1) xs)) (filter (λ p. eqb p.1.0 leader) (enumerate_from (n + 1) xs)))) (var m) ≡ true) is h
      in
      elim (cases_Bool (eqb n m)) [
        | inl at ↦ let same = eqb-true n m at in (0, omega arith, omega (arith, same), eqb-true x.0 leader is)
        | inr off ↦
            let found = member_led leader (n + 1) xs m (ap (λ b. b || (has (members_in leader (enumerate_from (n + 1) xs)) (var m))) (sym off) ∙ there) in
            let l = found.1 in let e = found.2 in (suc found.0, omega (arith, l), omega (arith, e), found.3)
      ]
  | inr not ↦
      let found = member_led leader (n + 1) xs m
      (subst (λ b. has (map (λ (p : ℕ × VarId). var p.0) (cond b ((n, x) ∷ filter (λ p. eqb p.1.0 leader) (enumerate_from (n + 1) xs)) (filter (λ p. eqb p.1.0 leader) (enumerate_from (n + 1) xs)))) (var m) ≡ true) not h)
      in
      let l = found.1 in let e = found.2 in (suc found.0, omega (arith, l), omega (arith, e), found.3)
]

led_member : (leader n : ℕ) (xs : List VarId) (j : ℕ) → j < length xs → leader_at xs j ≡ leader → has (members_in leader (enumerate_from n xs)) (var (n + j)) ≡ true
led_member leader n [] j l is = absurd (omega (arith, l))
led_member leader n (x ∷ xs) zero l is =
    ap (λ b. has (map (λ (p : ℕ × VarId). var p.0) (cond b ((n, x) ∷ filter (λ p. eqb p.1.0 leader) (enumerate_from (n + 1) xs)) (filter (λ p. eqb p.1.0 leader) (enumerate_from (n + 1) xs)))) (var (n + 0))) (eq-eqb x.0 leader is)
    ∙ ap (λ b. b || (has (members_in leader (enumerate_from (n + 1) xs)) (var (n + 0)))) (eq-eqb n (n + 0) (omega arith))
led_member leader n (x ∷ xs) (suc j) l is =
    let rest : has (members_in leader (enumerate_from (n + 1) xs)) (var (n + suc j)) ≡ true =
    ap (λ m. has (members_in leader (enumerate_from (n + 1) xs)) (var m)) (omega arith) ∙ led_member leader (n + 1) xs j (omega (arith, l)) is
    in
    elim (eqb x.0 leader) as (λ b. has (map (λ (p : ℕ × VarId). var p.0) (cond b ((n, x) ∷ filter (λ p. eqb p.1.0 leader) (enumerate_from (n + 1) xs)) (filter (λ p. eqb p.1.0 leader) (enumerate_from (n + 1) xs)))) (var (n + suc j)) ≡ true) [
      | true ↦ elim (eqb n (n + suc j)) as (λ b. b || (has (members_in leader (enumerate_from (n + 1) xs)) (var (n + suc j))) ≡ true) [ true ↦ refl | false ↦ rest ]
      | false ↦ rest
    ]

-- ---- all classes
module _ (leaders : List VarId) (lawful : AreClasses leaders) where
  class_begins : (k : ℕ) (d v : VarId) → Contains (own_leaders leaders) v → BeginsWith k d (var (leader_at leaders k)) (members_of leaders v.0)
  class_begins k d v own h =
      let leads = leads_from_own leaders v own in
      let found = member_led v.0 0 leaders k h in
      let at : k ≡ found.0 = (let e = found.2 in omega (arith, e)) in
      let is : v.0 ≡ leader_at leaders k = sym found.3 ∙ ap (leader_at leaders) (sym at) in
      let first = first_member v.0 0 leaders v.0 leads.0 leads.1 (λ j l e. let before = lawful.before j (let m = leads.0 in omega (arith, l, m)) in omega (arith, l, e, before)) in
      let start : 0 + v.0 ≡ v.0 = omega arith in
      (first.0, first.1 ∙ ap (λ n. var n ∷ first.0) (start ∙ is))

  class_has : (k : ℕ) → k < length leaders → list_any (λ class. has class (var k)) (classes_of leaders) ≡ true
  class_has k l =
      let v : VarId = var (leader_at leaders k) in
      let before = lawful.before k l in
      let own = own_from_leads leaders v (omega (arith, before, l)) (lawful.own k l) in
      let long = length-map (own_leaders leaders) (λ (w : VarId). members_of leaders w.0) in
      let at : get_or (classes_of leaders) own.0 [] ≡ members_of leaders v.0 =
      get_or-map (λ (w : VarId). members_of leaders w.0) (own_leaders leaders) own.0 v [] own.1 ∙ ap (λ (w : VarId). members_of leaders w.0) own.2
      in
      let start : 0 + k ≡ k = omega arith in
      let member : has (members_of leaders v.0) (var k) ≡ true = ap (λ m. has (members_of leaders v.0) (var m)) (sym start) ∙ led_member v.0 0 leaders k l refl in
      any_at (λ class. has class (var k)) (classes_of leaders) own.0 [] (let m = own.1 in omega (arith, m, long)) (ap (λ class. has class (var k)) at ∙ member)

  pub heads_back : (count : ℕ) → length leaders ≡ count → heads_of (classes_of leaders) (replicate count (var 0)) ≡ leaders
  heads_back count long =
      let start = replicate count (var 0) in
      let started : length start ≡ count = length-replicate count (var 0) in
      let all : length (heads_of (classes_of leaders) start) ≡ length leaders = length_heads (classes_of leaders) start ∙ (started ∙ sym long) in
      same_lists (heads_of (classes_of leaders) start) leaders all (λ k d l.
      let within : k < length leaders = omega (arith, l, all) in
      heads_right k d (var (leader_at leaders k)) (classes_of leaders) start (omega (arith, within, started, long))
      (λ j e m.
      let many = length-map (own_leaders leaders) (λ (w : VarId). members_of leaders w.0) in
      let inside : j < length (own_leaders leaders) = omega (arith, m, many) in
      subst (BeginsWith k d (var (leader_at leaders k))) (sym (get_or-map (λ (w : VarId). members_of leaders w.0) (own_leaders leaders) j (var 0) e inside))
      (class_begins k d (get_or (own_leaders leaders) j (var 0)) (Contains-get_or (own_leaders leaders) j (var 0) inside)))
      (inl (class_has k within))
      ∙ get_or_default leaders k (var 0) d within)

-- any leaders with these members are those that are read back
pub members_back : (count : ℕ) (classes : List (List VarId)) (leaders : List VarId) → HaveMembers count classes leaders → heads_of classes (replicate count (var 0)) ≡ leaders
members_back count classes leaders have = ap (λ cs. heads_of cs (replicate count (var 0))) (sym have.saved) ∙ heads_back leaders have.lawful count have.long

pub long_heads : (count : ℕ) (classes : List (List VarId)) → length (heads_of classes (replicate count (var 0))) ≡ count
long_heads count classes = length_heads classes (replicate count (var 0)) ∙ length-replicate count (var 0)

-- ---- what is found
module _ (count : ℕ) (classes : List (List VarId)) (found : List VarId) (is : found ≡ heads_of classes (replicate count (var 0))) where
  these : (leaders : List VarId) → HaveMembers count classes leaders → found ≡ leaders
  these leaders have = is ∙ members_back count classes leaders have

  pub some_members : AreClasses found → classes_of found ≡ classes → (r : Option (List VarId)) → r ≡ Some found → (leaders : List VarId) → (r ≡ Some leaders) ↔ HaveMembers count classes leaders
  some_members lawful saved r e leaders = (
    λ f. subst (HaveMembers count classes) (same_Some found leaders (sym e ∙ f)) (record { lawful = lawful; long = ap length is ∙ long_heads count classes; saved = saved }),
    λ have. e ∙ ap (λ ls. Some ls) (these leaders have),
  )

  pub no_members : (AreClasses found → classes_of found ≡ classes → ⊥) → (r : Option (List VarId)) → r ≡ None → (leaders : List VarId) → (r ≡ Some leaders) ↔ HaveMembers count classes leaders
  no_members not r e leaders = (
    λ f. absurd (none-some leaders (sym e ∙ f)),
    λ have. let same = sym (these leaders have) in absurd (not (subst AreClasses same have.lawful) (subst (λ ls. classes_of ls ≡ classes) same have.saved)),
  )
