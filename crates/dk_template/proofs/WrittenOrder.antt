-- Tuples in written order.
use Rattle.std.specs.Prelude.{◌≡◌, ◌≤◌, ◌<◌, ◌&&◌, ◌⊎◌, ◌==◌, ◌-◌, ℕ, zero, suc, Bool, true, false, nat_le, nat_lt, if◌then◌else◌, List, [], ◌∷◌, length, zip, slice_get, refl}
use Rattle.std.specs.Bool.{Decides}
use Rattle.std.specs.List.{list_all}
use Rattle.std.proofs.Common.{sym, ap, ◌∙◌, subst, arith, get_or, inl, inr}
use Rattle.std.proofs.lemmas.Bool.{and_parts, false≢true}
use Rattle.std.proofs.lemmas.Bool.Decides.{Decides-eqb}
use Rattle.dk_arith.proofs.Choice.{choice}
use Rattle.dk_base.specs.declared.kinds.Kind.{Kind}
use Rattle.dk_base.specs.declared.kinds.Kind.TheVariants as kind
use Rattle.dk_base.specs.declared.kinds.VarId.{VarId}
use Rattle.dk_base.specs.declared.kinds.VarInfo.{VarInfo}
use Rattle.dk_template.proofs.Table.{length-rows}
use Rattle.dk_template.specs.Admitted.{ascend, exchangeable, same_kind, suit, suits}
use Rattle.dk_template.specs.Exchange.{arrange_tuple, descends, order_tuple}
use Rattle.dk_template.specs.Laws.{ExchangeableRolesTakeTheSame, TakeTheSame, WrittenTuplesAreAdmitted}
use Rattle.dk_template.specs.Templates.{roles_of, rows, template_of}
use Rattle.dk_template.specs.declared.exchange.Exchange.{Exchange}
use Rattle.dk_template.specs.declared.exchange.Exchange.TheVariants.{First, Last}
use Rattle.dk_template.specs.declared.templates.Role.{Role}
use Rattle.dk_template.specs.declared.templates.Role.TheVariants.{Any, Base}
use Rattle.dk_template.specs.declared.templates.Symmetry.{Symmetry}
use Rattle.dk_template.specs.declared.templates.Symmetry.TheVariants as symmetry
use Rattle.dk_template.specs.declared.templates.Takes.{Takes}
use Rattle.dk_template.specs.declared.templates.Takes.TheVariants.{One, Two, Three}
use Rattle.dk_template.specs.declared.templates.Template.{Template}

-- ---- two variables in order
tells_lt : (a b : ℕ) → Decides (nat_lt a b) (a < b)
tells_lt a b = ((λ h. grind arith), (λ h. grind arith))

le_true : (a b : ℕ) → a ≤ b → nat_le a b ≡ true
le_true a b h = grind arith

first_cases : (v w : VarId) (rest : List VarId) → ((w.0 < v.0) × (order_tuple First (v ∷ w ∷ rest) ≡ w ∷ v ∷ rest)) ⊎ ((w.0 < v.0 → ⊥) × (order_tuple First (v ∷ w ∷ rest) ≡ v ∷ w ∷ rest))
first_cases v w rest = choice (nat_lt w.0 v.0) (tells_lt w.0 v.0) (w ∷ v ∷ rest) (v ∷ w ∷ rest)

last_cases : (u v w : VarId) (rest : List VarId) → ((w.0 < v.0) × (order_tuple Last (u ∷ v ∷ w ∷ rest) ≡ u ∷ w ∷ v ∷ rest)) ⊎ ((w.0 < v.0 → ⊥) × (order_tuple Last (u ∷ v ∷ w ∷ rest) ≡ u ∷ v ∷ w ∷ rest))
last_cases u v w rest = choice (nat_lt w.0 v.0) (tells_lt w.0 v.0) (u ∷ w ∷ v ∷ rest) (u ∷ v ∷ w ∷ rest)

not_less : (a b : ℕ) → (a < b → ⊥) → b ≤ a
not_less a b h = elim (order a b) as (λ _. b ≤ a) [ inl l ↦ absurd (h l) | inr l ↦ l ]
  where
    order : (a b : ℕ) → (a < b) ⊎ (b ≤ a)
    order a b = elim (choice (nat_lt a b) (tells_lt a b) true false) as (λ _. (a < b) ⊎ (b ≤ a)) [ inl k ↦ inl k.0 | inr k ↦ inr (let n = k.0 in grind arith) ]

-- ---- what holds in each order that may come out
module _ (P : List VarId → Type 0) where
  two_arranged : (v w : VarId) → (v.0 ≤ w.0 → P (v ∷ w ∷ [])) → (w.0 ≤ v.0 → P (w ∷ v ∷ [])) → P (arrange_tuple symmetry.All (v ∷ w ∷ []))
  two_arranged v w keep turn =
      elim (first_cases v w []) as (λ _. P (order_tuple Last (order_tuple First (v ∷ w ∷ [])))) [
        | inl h ↦ let h0 = h.0 in subst (λ t. P (order_tuple Last t)) (sym h.1) (turn (omega arith))
        | inr h ↦ subst (λ t. P (order_tuple Last t)) (sym h.1) (keep (not_less w.0 v.0 h.0))
      ]

  last_arranged : (u v w : VarId) → (v.0 ≤ w.0 → P (u ∷ v ∷ w ∷ [])) → (w.0 ≤ v.0 → P (u ∷ w ∷ v ∷ [])) → P (order_tuple Last (u ∷ v ∷ w ∷ []))
  last_arranged u v w keep turn =
      elim (last_cases u v w []) as (λ _. P (order_tuple Last (u ∷ v ∷ w ∷ []))) [
        | inl h ↦ let h0 = h.0 in subst P (sym h.1) (turn (omega arith))
        | inr h ↦ subst P (sym h.1) (keep (not_less w.0 v.0 h.0))
      ]

  -- the first two, of which the later doesn't descend to the third, and then the last two
  middle_arranged : (a b c : VarId) → b.0 ≤ c.0 → (a.0 ≤ b.0 → b.0 ≤ c.0 → P (a ∷ b ∷ c ∷ [])) → (b.0 ≤ a.0 → a.0 ≤ c.0 → P (b ∷ a ∷ c ∷ [])) → (b.0 ≤ c.0 → c.0 ≤ a.0 → P (b ∷ c ∷ a ∷ []))
      → P (order_tuple Last (order_tuple First (a ∷ b ∷ c ∷ [])))
  middle_arranged a b c bc keep one two =
      elim (first_cases a b (c ∷ [])) as (λ _. P (order_tuple Last (order_tuple First (a ∷ b ∷ c ∷ [])))) [
        | inl h ↦ let h0 = h.0 in subst (λ t. P (order_tuple Last t)) (sym h.1) (last_arranged b a c (λ l. one (omega arith) l) (λ l. two bc l))
        | inr h ↦ let ab = not_less b.0 a.0 h.0 in subst (λ t. P (order_tuple Last t)) (sym h.1) (elim (last_cases a b c []) as (λ _. P (order_tuple Last (a ∷ b ∷ c ∷ []))) [
          | inl k ↦ let k0 = k.0 in absurd (omega arith)
          | inr k ↦ subst P (sym k.1) (keep ab bc)
        ])
      ]

-- ---- a tuple in written order is written
ascends_two : (v w : VarId) → v.0 ≤ w.0 → ascend (v ∷ w ∷ []) ≡ true
ascends_two v w h = ap (λ b. b && true) (le_true v.0 w.0 h)

ascends_three : (u v w : VarId) → u.0 ≤ v.0 → v.0 ≤ w.0 → ascend (u ∷ v ∷ w ∷ []) ≡ true
ascends_three u v w h k = ap (λ b. b && (nat_le v.0 w.0 && true)) (le_true u.0 v.0 h) ∙ ap (λ b. b && true) (le_true v.0 w.0 k)

pub arranged_ascends : (s : Symmetry) (tuple : List VarId) → length tuple ≤ 3 → ascend (exchangeable s (arrange_tuple s tuple)) ≡ true
arranged_ascends symmetry.Fixed tuple h = refl
arranged_ascends symmetry.All [] h = refl
arranged_ascends symmetry.All (a ∷ []) h = refl
arranged_ascends symmetry.All (a ∷ b ∷ []) h = two_arranged (λ t. ascend t ≡ true) a b (λ l. ascends_two a b l) (λ l. ascends_two b a l)
arranged_ascends symmetry.All (a ∷ b ∷ c ∷ []) h =
    let P : List VarId → Type 0 = λ t. ascend t ≡ true in
    elim (last_cases a b c []) as (λ _. P (order_tuple Last (order_tuple First (order_tuple Last (a ∷ b ∷ c ∷ []))))) [
      | inl k ↦ let k0 = k.0 in subst (λ t. P (order_tuple Last (order_tuple First t))) (sym k.1) (middle_arranged P a c b (omega arith) (ascends_three a c b) (ascends_three c a b) (ascends_three c b a))
      | inr k ↦ subst (λ t. P (order_tuple Last (order_tuple First t))) (sym k.1) (middle_arranged P a b c (not_less c.0 b.0 k.0) (ascends_three a b c) (ascends_three b a c) (ascends_three b c a))
    ]
arranged_ascends symmetry.All (a ∷ b ∷ c ∷ d ∷ rest) h = absurd (omega (arith, h))
arranged_ascends symmetry.Arguments [] h = refl
arranged_ascends symmetry.Arguments (z ∷ []) h = refl
arranged_ascends symmetry.Arguments (z ∷ x ∷ []) h = refl
arranged_ascends symmetry.Arguments (z ∷ x ∷ y ∷ []) h = last_arranged (λ t. ascend (exchangeable symmetry.Arguments t) ≡ true) z x y (λ l. ascends_two x y l) (λ l. ascends_two y x l)
arranged_ascends symmetry.Arguments (a ∷ b ∷ c ∷ d ∷ rest) h = absurd (omega (arith, h))

-- ---- roles that may be exchanged take the same
kind_alike : (k l : Kind) → same_kind k l ≡ true → k ≡ l
kind_alike kind.Bool kind.Bool e = refl
kind_alike kind.Int kind.Int e = refl
kind_alike kind.Hash kind.Hash e = refl
kind_alike kind.Str kind.Str e = refl
kind_alike kind.BoolSeq kind.BoolSeq e = refl
kind_alike kind.IntSeq kind.IntSeq e = refl
kind_alike kind.HashSeq kind.HashSeq e = refl
kind_alike kind.StrSeq kind.StrSeq e = refl
kind_alike _ _ e = absurd (false≢true e)

abbrev same_role : Role → Role → Bool
same_role (Any k) (Any l) = same_kind k l
same_role (Base k) (Base l) = same_kind k l
same_role _ _ = false

role_alike : (a b : Role) → same_role a b ≡ true → a ≡ b
role_alike (Any k) (Any l) e = ap Any (kind_alike k l e)
role_alike (Base k) (Base l) e = ap Base (kind_alike k l e)
role_alike _ _ e = absurd (false≢true e)

abbrev take_alike : Symmetry → Takes → Bool
take_alike symmetry.Fixed takes = true
take_alike symmetry.All (One a) = true
take_alike symmetry.All (Two a b) = same_role a b
take_alike symmetry.All (Three a b c) = same_role a b && same_role b c
take_alike symmetry.Arguments (Three a b c) = same_role b c
take_alike symmetry.Arguments _ = false

take_the_same : (s : Symmetry) (takes : Takes) → take_alike s takes ≡ true → TakeTheSame s takes
take_the_same symmetry.Fixed takes e = tt
take_the_same symmetry.All (One a) e = tt
take_the_same symmetry.All (Two a b) e = role_alike a b e
take_the_same symmetry.All (Three a b c) e = let p = and_parts (same_role a b) (same_role b c) e in (role_alike a b p.0, role_alike b c p.1)
take_the_same symmetry.Arguments (Three a b c) e = role_alike b c e
take_the_same symmetry.Arguments (One a) e = absurd (false≢true e)
take_the_same symmetry.Arguments (Two a b) e = absurd (false≢true e)

all_alike : list_all (λ (t : Template). take_alike t.symmetry t.takes) rows ≡ true
unfolding rows
all_alike = refl

pub exchangeable_roles_take_the_same : ExchangeableRolesTakeTheSame
exchangeable_roles_take_the_same row is =
    let low = is.0 in
    let high = is.1 in
    let all = length-rows in
    take_the_same (template_of row).symmetry (template_of row).takes
    (each (λ (t : Template). take_alike t.symmetry t.takes) rows all_alike (row.0 - 1) _ (omega arith))
  where
    each : (p : Template → Bool) (ts : List Template) → list_all p ts ≡ true → (i : ℕ) (d : Template) → i < length ts → p (get_or ts i d) ≡ true
    each p [] e i d h = absurd (omega (arith, h))
    each p (t ∷ ts) e zero d h = (and_parts (p t) (list_all p ts) e).0
    each p (t ∷ ts) e (suc i) d h = each p ts (and_parts (p t) (list_all p ts) e).1 i d (omega (arith, h))

-- ---- and so a tuple is admitted in written order
swap_and : (x y z : Bool) → (x && (y && z)) ≡ true → (y && (x && z)) ≡ true
swap_and true true z h = h
swap_and true false z h = h
swap_and false true z h = h
swap_and false false z h = h

module _ (vars : List VarInfo) where
  two_suit : (a : Role) (v w : VarId) → suit (a ∷ a ∷ []) vars (v ∷ w ∷ []) ≡ true → suit (a ∷ a ∷ []) vars (w ∷ v ∷ []) ≡ true
  two_suit a v w h = swap_and (suits a (slice_get vars v.0)) (suits a (slice_get vars w.0)) true h

  first_suit : (a c : Role) (u v w : VarId) → suit (a ∷ a ∷ c ∷ []) vars (u ∷ v ∷ w ∷ []) ≡ true → suit (a ∷ a ∷ c ∷ []) vars (v ∷ u ∷ w ∷ []) ≡ true
  first_suit a c u v w h = swap_and (suits a (slice_get vars u.0)) (suits a (slice_get vars v.0)) (suits c (slice_get vars w.0) && true) h

  last_suit : (z a : Role) (u v w : VarId) → suit (z ∷ a ∷ a ∷ []) vars (u ∷ v ∷ w ∷ []) ≡ true → suit (z ∷ a ∷ a ∷ []) vars (u ∷ w ∷ v ∷ []) ≡ true
  last_suit z a u v w h =
      let p = and_parts (suits z (slice_get vars u.0)) (suits a (slice_get vars v.0) && (suits a (slice_get vars w.0) && true)) h in
      ap (λ b. b && (suits a (slice_get vars w.0) && (suits a (slice_get vars v.0) && true))) p.0 ∙ swap_and (suits a (slice_get vars v.0)) (suits a (slice_get vars w.0)) true p.1

  size : (roles : List Role) (tuple : List VarId) → suit roles vars tuple ≡ true → length tuple ≡ length roles
  size roles tuple h =
      let p = and_parts (length tuple == length roles) (list_all (λ (q : Role × VarId). suits q.0 (slice_get vars q.1.0)) (zip roles tuple)) h in
      (Decides-eqb (length tuple) (length roles)).0 p.0

  -- three roles that take the same
  keeps : (a : Role) (e : Exchange) (tuple : List VarId) → length tuple ≡ 3 → suit (a ∷ a ∷ a ∷ []) vars tuple ≡ true
      → (length (order_tuple e tuple) ≡ 3) × (suit (a ∷ a ∷ a ∷ []) vars (order_tuple e tuple) ≡ true)
  keeps a e [] l h = absurd (omega (arith, l))
  keeps a e (u ∷ []) l h = absurd (omega (arith, l))
  keeps a e (u ∷ v ∷ []) l h = absurd (omega (arith, l))
  keeps a e (u ∷ v ∷ w ∷ x ∷ rest) l h = absurd (omega (arith, l))
  keeps a First (u ∷ v ∷ w ∷ []) l h =
      elim (descends First (u ∷ v ∷ w ∷ [])) as (λ b. (length (if b then v ∷ u ∷ w ∷ [] else u ∷ v ∷ w ∷ []) ≡ 3) × (suit (a ∷ a ∷ a ∷ []) vars (if b then v ∷ u ∷ w ∷ [] else u ∷ v ∷ w ∷ []) ≡ true)) [
        | true ↦ (refl, first_suit a a u v w h)
        | false ↦ (refl, h)
      ]
  keeps a Last (u ∷ v ∷ w ∷ []) l h =
      elim (descends Last (u ∷ v ∷ w ∷ [])) as (λ b. (length (if b then u ∷ w ∷ v ∷ [] else u ∷ v ∷ w ∷ []) ≡ 3) × (suit (a ∷ a ∷ a ∷ []) vars (if b then u ∷ w ∷ v ∷ [] else u ∷ v ∷ w ∷ []) ≡ true)) [
        | true ↦ (refl, last_suit a a u v w h)
        | false ↦ (refl, h)
      ]

  one_arranged : (a : Role) (tuple : List VarId) → suit (a ∷ []) vars tuple ≡ true → suit (a ∷ []) vars (arrange_tuple symmetry.All tuple) ≡ true
  one_arranged a [] h = let l = size (a ∷ []) [] h in absurd (omega (arith, l))
  one_arranged a (v ∷ []) h = h
  one_arranged a (v ∷ w ∷ rest) h = let l = size (a ∷ []) (v ∷ w ∷ rest) h in absurd (omega (arith, l))

  pair_arranged : (a : Role) (tuple : List VarId) → suit (a ∷ a ∷ []) vars tuple ≡ true → suit (a ∷ a ∷ []) vars (arrange_tuple symmetry.All tuple) ≡ true
  pair_arranged a [] h = let l = size (a ∷ a ∷ []) [] h in absurd (omega (arith, l))
  pair_arranged a (v ∷ []) h = let l = size (a ∷ a ∷ []) (v ∷ []) h in absurd (omega (arith, l))
  pair_arranged a (v ∷ w ∷ []) h = two_arranged (λ t. suit (a ∷ a ∷ []) vars t ≡ true) v w (λ l. h) (λ l. two_suit a v w h)
  pair_arranged a (u ∷ v ∷ w ∷ rest) h = let l = size (a ∷ a ∷ []) (u ∷ v ∷ w ∷ rest) h in absurd (omega (arith, l))

  three_arranged : (a : Role) (tuple : List VarId) → suit (a ∷ a ∷ a ∷ []) vars tuple ≡ true → suit (a ∷ a ∷ a ∷ []) vars (arrange_tuple symmetry.All tuple) ≡ true
  three_arranged a tuple h =
      let one = keeps a Last tuple (size (a ∷ a ∷ a ∷ []) tuple h) h in
      let two = keeps a First (order_tuple Last tuple) one.0 one.1 in
      (keeps a Last (order_tuple First (order_tuple Last tuple)) two.0 two.1).1

  arguments_arranged : (z a : Role) (tuple : List VarId) → suit (z ∷ a ∷ a ∷ []) vars tuple ≡ true → suit (z ∷ a ∷ a ∷ []) vars (arrange_tuple symmetry.Arguments tuple) ≡ true
  arguments_arranged z a [] h = let l = size (z ∷ a ∷ a ∷ []) [] h in absurd (omega (arith, l))
  arguments_arranged z a (u ∷ []) h = let l = size (z ∷ a ∷ a ∷ []) (u ∷ []) h in absurd (omega (arith, l))
  arguments_arranged z a (u ∷ v ∷ []) h = let l = size (z ∷ a ∷ a ∷ []) (u ∷ v ∷ []) h in absurd (omega (arith, l))
  arguments_arranged z a (u ∷ v ∷ w ∷ []) h = last_arranged (λ t. suit (z ∷ a ∷ a ∷ []) vars t ≡ true) u v w (λ l. h) (λ l. last_suit z a u v w h)
  arguments_arranged z a (u ∷ v ∷ w ∷ x ∷ rest) h = let l = size (z ∷ a ∷ a ∷ []) (u ∷ v ∷ w ∷ x ∷ rest) h in absurd (omega (arith, l))

  arranged_suits : (s : Symmetry) (takes : Takes) (tuple : List VarId) → TakeTheSame s takes → suit (roles_of takes) vars tuple ≡ true → suit (roles_of takes) vars (arrange_tuple s tuple) ≡ true
  arranged_suits symmetry.Fixed takes tuple same h = h
  arranged_suits symmetry.All (One a) tuple same h = one_arranged a tuple h
  arranged_suits symmetry.All (Two a b) tuple same h =
      subst (λ r. suit (a ∷ r ∷ []) vars (arrange_tuple symmetry.All tuple) ≡ true) same (pair_arranged a tuple (subst (λ r. suit (a ∷ r ∷ []) vars tuple ≡ true) (sym same) h))
  arranged_suits symmetry.All (Three a b c) tuple same h =
      let e = same.0 ∙ same.1 in
      subst (λ r. suit (a ∷ r ∷ c ∷ []) vars (arrange_tuple symmetry.All tuple) ≡ true) same.0 (subst (λ r. suit (a ∷ a ∷ r ∷ []) vars (arrange_tuple symmetry.All tuple) ≡ true) e
      (three_arranged a tuple (subst (λ r. suit (a ∷ a ∷ r ∷ []) vars tuple ≡ true) (sym e) (subst (λ r. suit (a ∷ r ∷ c ∷ []) vars tuple ≡ true) (sym same.0) h))))
  arranged_suits symmetry.Arguments (Three z a b) tuple same h =
      subst (λ r. suit (z ∷ a ∷ r ∷ []) vars (arrange_tuple symmetry.Arguments tuple) ≡ true) same (arguments_arranged z a tuple (subst (λ r. suit (z ∷ a ∷ r ∷ []) vars tuple ≡ true) (sym same) h))
  arranged_suits symmetry.Arguments (One a) tuple same h = absurd same
  arranged_suits symmetry.Arguments (Two a b) tuple same h = absurd same

pub written_tuples_are_admitted : WrittenTuplesAreAdmitted
written_tuples_are_admitted row is vars tuple h = arranged_suits vars (template_of row).symmetry (template_of row).takes tuple (exchangeable_roles_take_the_same row is) h
