-- What a sample makes of constants, and of what list of samples they then are the constants.
use Rattle.std.proofs.Common.{◌≡◌, ◌≢◌, ℕ, zero, suc, ◌<◌, eqb, inl, inr, List, [], ◌∷◌, ◌++◌, length, get_or, false, cond, map, Option, Some, None, IsSome, refl, ap, sym, ◌∙◌, subst, arith}
use Rattle.std.specs.List.{All, AllPairs, Contains, cons_option}
use Rattle.std.specs.Option.{option_map, option_or}
use Rattle.std.proofs.lemmas.Bool.{cases_Bool, false≢true}
use Rattle.std.proofs.lemmas.Bool.Decides.{nat_tests}
use Rattle.std.proofs.lemmas.List.{length-map, length_push, get_or-map}
use Rattle.std.proofs.lemmas.List.Elements.{All-head, All-tail, All-cons, All-nil, All-push}
use Rattle.dk_base.specs.declared.kinds.VarId.{VarId}
use Rattle.dk_base.specs.declared.values.Value.{Value}
use Rattle.dk_samples.specs.Leaders.{LeadNow, old_of}
use Rattle.dk_samples.specs.Samples.{Agree, value_in}
use Rattle.dk_constants.specs.Known.{EntriesAscend, IsParted, born_of, entry_var_at, known_at, none_known}
use Rattle.dk_constants.specs.Constants.{AreConstants, AreFed, HasAlways, HaveEnded}
use Rattle.dk_constants.proofs.Parting.{ascend_parted, each_parted, known_parted, parted_flip, same_var}

pub some_in : (o : Option Value) → IsSome o → (x : Value) × (o ≡ Some x)
some_in None h = absurd (false≢true h)
some_in (Some x) h = (x, refl)

-- the value that an entry has is known, where each entry passes a test
pub passes : (P : VarId × Value → Type 0) (known : List (VarId × Value)) → All P known → (v : VarId) (x : Value) → known_at known v ≡ Some x → P (v, x)
passes P [] all v x e = absurd (cc)
passes P (k ∷ known) all v x e = elim (cases_Bool (eqb k.0.0 v.0)) [
  | inl here ↦
      let value : k.1 ≡ x = let f : Some k.1 ≡ Some x = sym (ap (λ b. cond b (Some k.1) (known_at known v)) here) ∙ e in cc in
      subst P (ap (λ w. (w, k.1)) (same_var k.0 v here) ∙ ap (λ z. (v, z)) value) (All-head P k known all)
  | inr there ↦ passes P known (All-tail P k known all) v x (sym (ap (λ b. cond b (Some k.1) (known_at known v)) there) ∙ e)
]

-- ---- new leaders

differ_first : (n : VarId × VarId) (new : List (VarId × VarId)) → AllPairs (λ (m n : VarId × VarId). m.0.0 ≢ n.0.0) (n ∷ new) → (j : ℕ) (d : VarId × VarId) → j < length new → n.0.0 ≢ (get_or new j d).0.0
differ_first n new differ j d l = differ 0 (suc j) d (omega arith) (omega arith)

differ_rest : (n : VarId × VarId) (new : List (VarId × VarId)) → AllPairs (λ (m n : VarId × VarId). m.0.0 ≢ n.0.0) (n ∷ new) → AllPairs (λ (m n : VarId × VarId). m.0.0 ≢ n.0.0) new
differ_rest n new differ i j d l m = differ (suc i) (suc j) d (omega arith) (omega arith)

-- a variable that isn't new is born with no value
unborn : (known : List (VarId × Value)) (new : List (VarId × VarId)) (v : ℕ) → ((j : ℕ) (d : VarId × VarId) → j < length new → v ≢ (get_or new j d).0.0) → known_at (born_of known new) (record { 0 = v }) ≡ None
unborn known [] v other = refl
unborn known (n ∷ new) v other =
    let rest = unborn known new v (λ j d l. other (suc j) d (omega arith)) in
    let apart : eqb n.0.0 v ≡ false = grind (arith, nat_tests, other 0 n (omega arith)) in
    elim (known_at known n.1) as (λ o. known_at (cons_option (option_map (λ x. (n.0, x)) o) (born_of known new)) (record { 0 = v }) ≡ None) [
      | None ↦ rest
      | Some x ↦ ap (λ b. cond b (Some x) (known_at (born_of known new) (record { 0 = v }))) apart ∙ rest
    ]

-- with those that are born, what is known of a variable is what was known of its old leader
pub born_known : (known : List (VarId × Value)) (new : List (VarId × VarId)) → AllPairs (λ m n. m.0.0 ≢ n.0.0) new → All (λ n. known_at known n.0 ≡ None) new → (v : VarId) → option_or (known_at known v) (known_at (born_of known new) v) ≡ known_at known (old_of new v)
born_known known [] differ unknown v = or_none (known_at known v)
  where
    or_none : (o : Option Value) → option_or o None ≡ o
    or_none None = refl
    or_none (Some x) = refl
born_known known (n ∷ new) differ unknown v =
    let rest = born_known known new (differ_rest n new differ) (All-tail (λ n. known_at known n.0 ≡ None) n new unknown) v in
    elim (cases_Bool (eqb n.0.0 v.0)) [
      | inl here ↦
          let is : n.0 ≡ v = same_var n.0 v here in
          let none : known_at known v ≡ None = ap (known_at known) (sym is) ∙ All-head (λ n. known_at known n.0 ≡ None) n new unknown in
          let unborn_v : known_at (born_of known new) v ≡ None = unborn known new v.0 (λ j d l e. differ_first n new differ j d l (ap (λ (w : VarId). w.0) is ∙ e)) in
          ap (λ o. option_or o (known_at (born_of known (n ∷ new)) v)) none
          ∙ (elim (known_at known n.1) as (λ o. known_at (cons_option (option_map (λ x. (n.0, x)) o) (born_of known new)) v ≡ o) [
            | None ↦ unborn_v
            | Some x ↦ ap (λ b. cond b (Some x) (known_at (born_of known new) v)) here
          ] ∙ sym (ap (λ b. known_at known (cond b n.1 (old_of new v))) here))
      | inr there ↦
          ap (option_or (known_at known v)) (elim (known_at known n.1) as (λ o. known_at (cons_option (option_map (λ x. (n.0, x)) o) (born_of known new)) v ≡ known_at (born_of known new) v) [
            | None ↦ refl
            | Some x ↦ ap (λ b. cond b (Some x) (known_at (born_of known new) v)) there
          ]) ∙ (rest ∙ sym (ap (λ b. known_at known (cond b n.1 (old_of new v))) there))
    ]

module _ (known : List (VarId × Value)) (new : List (VarId × VarId)) (sample : List Value)
    (differ : AllPairs (λ m n. m.0.0 ≢ n.0.0) new) (unknown : All (λ n. known_at known n.0 ≡ None) new) where
  -- nothing is born, and the sample has each known value
  pub fed_quiet : EntriesAscend known → born_of known new ≡ [] → All (λ k. value_in sample k.0 ≡ k.1) known → AreFed known new sample known []
  fed_quiet up none still =
      let was : (v : VarId) → known_at known v ≡ known_at known (old_of new v) = λ v. sym (or_none (known_at known v)) ∙ (ap (λ b. option_or (known_at known v) (known_at b v)) (sym none) ∙ born_known known new differ unknown v) in
      record {
        still_ascend = up;
        over_ascend = λ i j l m. absurd (omega arith);
        stays = λ v x e. (sym (was v) ∙ e, passes (λ k. value_in sample k.0 ≡ k.1) known still v x e);
        ended = λ v x e. absurd (cc);
        each = λ v s. inl (subst IsSome (sym (was v)) s);
      }
    where
      or_none : (o : Option Value) → option_or o None ≡ o
      or_none None = refl
      or_none (Some x) = refl

  -- all that is known, with those that are born, is parted by the sample
  pub fed_parted : (all still over : List (VarId × Value)) → EntriesAscend all → ((v : VarId) → known_at all v ≡ option_or (known_at known v) (known_at (born_of known new) v))
      → IsParted (λ k. value_in sample k.0 ≡ k.1) (λ k. value_in sample k.0 ≢ k.1) all still over → AreFed known new sample still over
  fed_parted all still over up is parted =
      let P : VarId × Value → Type 0 = λ k. value_in sample k.0 ≡ k.1 in
      let Q : VarId × Value → Type 0 = λ k. value_in sample k.0 ≢ k.1 in
      let was : (v : VarId) → known_at all v ≡ known_at known (old_of new v) = λ v. is v ∙ born_known known new differ unknown v in
      let flipped = parted_flip P Q all still over parted in
      record {
        still_ascend = ascend_parted P Q all still over parted up;
        over_ascend = ascend_parted Q P all over still flipped up;
        stays = λ v x e. let known_there = known_parted P Q all still over parted up v x e in (sym (was v) ∙ known_there.0, known_there.1);
        ended = λ v x e. let known_there = known_parted Q P all over still flipped up v x e in (sym (was v) ∙ known_there.0, known_there.1);
        each = λ v s. each_parted P Q all still over parted v (subst IsSome (sym (was v)) s);
      }

-- ---- lists of samples
all_front : (samples : List (List Value)) (sample : List Value) (v : VarId) (x : Value) → All (λ s. value_in s v ≡ x) (samples ++ sample ∷ []) → All (λ s. value_in s v ≡ x) samples × (value_in sample v ≡ x)
all_front [] sample v x h = (All-nil (λ s. value_in s v ≡ x), All-head (λ s. value_in s v ≡ x) sample [] h)
all_front (s ∷ samples) sample v x h =
    let rest = all_front samples sample v x (All-tail (λ s. value_in s v ≡ x) s (samples ++ sample ∷ []) h) in
    (All-cons (λ s. value_in s v ≡ x) s samples (All-head (λ s. value_in s v ≡ x) s (samples ++ sample ∷ []) h) rest.0, rest.1)

-- one sample more
pub has_push : (samples : List (List Value)) (sample : List Value) (v : VarId) (x : Value) → HasAlways samples v x → value_in sample v ≡ x → HasAlways (samples ++ sample ∷ []) v x
has_push samples sample v x has e = record { some = (let long = length_push samples sample in omega arith); each = All-push (λ s. value_in s v ≡ x) samples sample has.each e }

-- one sample less, where others are left
pub has_front : (samples : List (List Value)) (sample : List Value) (v : VarId) (x : Value) → 0 < length samples → HasAlways (samples ++ sample ∷ []) v x → HasAlways samples v x × (value_in sample v ≡ x)
has_front samples sample v x some has = let front = all_front samples sample v x has.each in (record { some = some; each = front.0 }, front.1)

-- variables that agree have the same constant value
has_same : (samples : List (List Value)) (v w : VarId) (x : Value) → Agree samples v w → HasAlways samples w x → HasAlways samples v x
has_same samples v w x agree h = record { some = h.some; each = λ k d l. agree k d l ∙ h.each k d l }

has_same_back : (samples : List (List Value)) (v w : VarId) (x : Value) → Agree samples v w → HasAlways samples v x → HasAlways samples w x
has_same_back samples v w x agree h = record { some = h.some; each = λ k d l. sym (agree k d l) ∙ h.each k d l }

module _ (leaders : List VarId) (new : List (VarId × VarId)) (samples : List (List Value)) (sample : List Value) (now : List VarId) (known still over : List (VarId × Value))
    (are : AreConstants leaders samples known) (lead : LeadNow leaders new samples now) (fed : AreFed known new sample still over) where
  -- what was known of the old leader is what the variable has had in all samples
  had : (v : VarId) (x : Value) → known_at known (old_of new v) ≡ Some x → Contains now v × HasAlways samples v x
  had v x e =
      let was = (are.each (old_of new v) x).0 e in
      let leads : Contains now v = (lead.led v).1 was.0 in
      (leads, has_same samples v (old_of new v) x (lead.agree v leads) was.1)

  was_known : (v : VarId) (x : Value) → Contains now v → HasAlways samples v x → known_at known (old_of new v) ≡ Some x
  was_known v x leads has = (are.each (old_of new v) x).1 ((lead.led v).0 leads, has_same_back samples v (old_of new v) x (lead.agree v leads) has)

  one : (v : VarId) (x y : Value) → known_at known (old_of new v) ≡ Some x → known_at known (old_of new v) ≡ Some y → x ≡ y
  one v x y e f = cc

  pub constants_fed : 0 < length samples → AreConstants now (samples ++ sample ∷ []) still
  constants_fed some = record {
    ascend = fed.still_ascend;
    each = λ v x. (
      λ e.
          let told = fed.stays v x e in
          let has = had v x told.0 in
          (has.0, has_push samples sample v x has.1 told.1),
      λ h.
          let both = has_front samples sample v x some h.1 in
          let was = was_known v x h.0 both.0 in
          elim (fed.each v (subst IsSome (sym was) refl)) [
            | inl s ↦ let found = some_in (known_at still v) s in found.1 ∙ ap Some (one v found.0 x (fed.stays v found.0 found.1).0 was)
            | inr s ↦ let found = some_in (known_at over v) s in
                let told = fed.ended v found.0 found.1 in
                absurd (told.1 (both.1 ∙ one v x found.0 was told.0))
          ],
    );
  }

  pub ended_fed : HaveEnded now samples sample over
  ended_fed = record {
    ascend = fed.over_ascend;
    each = λ v x. (
      λ e.
          let told = fed.ended v x e in
          let has = had v x told.0 in
          (has.0, has.1, told.1),
      λ h.
          let was = was_known v x h.0 h.1 in
          elim (fed.each v (subst IsSome (sym was) refl)) [
            | inl s ↦ let found = some_in (known_at still v) s in
                let told = fed.stays v found.0 found.1 in
                absurd (h.2 (told.1 ∙ one v found.0 x told.0 was))
            | inr s ↦ let found = some_in (known_at over v) s in found.1 ∙ ap Some (one v found.0 x (fed.ended v found.0 found.1).0 was)
          ],
    );
  }

-- a list contains a variable that isn't its first one behind that
contains_rest : (w : VarId) (leaders : List VarId) (v : VarId) → Contains (w ∷ leaders) v → eqb w.0 v.0 ≡ false → Contains leaders v
contains_rest w leaders v (zero, l, e) apart = absurd (grind (arith, nat_tests, ap (λ (u : VarId). u.0) e))
contains_rest w leaders v (suc k, l, e) apart = (k, omega arith, e)

-- each leader with its value in the only sample
known_first : (leaders : List VarId) (sample : List Value) (v : VarId) (x : Value) → known_at (map (λ w. (w, value_in sample w)) leaders) v ≡ Some x → Contains leaders v × (value_in sample v ≡ x)
known_first [] sample v x e = absurd (cc)
known_first (w ∷ leaders) sample v x e = elim (cases_Bool (eqb w.0 v.0)) [
  | inl here ↦
      let is : w ≡ v = same_var w v here in
      let value : value_in sample w ≡ x = let f : Some (value_in sample w) ≡ Some x = sym (ap (λ b. cond b (Some (value_in sample w)) (known_at (map (λ u. (u, value_in sample u)) leaders) v)) here) ∙ e in cc in
      ((0, omega arith, is), ap (value_in sample) (sym is) ∙ value)
  | inr there ↦
      let rest = known_first leaders sample v x (sym (ap (λ b. cond b (Some (value_in sample w)) (known_at (map (λ u. (u, value_in sample u)) leaders) v)) there) ∙ e) in
      ((suc rest.0.0, omega (arith, rest.0.1), rest.0.2), rest.1)
]

first_known : (leaders : List VarId) (sample : List Value) (v : VarId) (x : Value) → Contains leaders v → value_in sample v ≡ x → known_at (map (λ w. (w, value_in sample w)) leaders) v ≡ Some x
first_known [] sample v x h e = absurd (omega (arith, h.1))
first_known (w ∷ leaders) sample v x h e = elim (cases_Bool (eqb w.0 v.0)) [
  | inl here ↦ ap (λ b. cond b (Some (value_in sample w)) (known_at (map (λ u. (u, value_in sample u)) leaders) v)) here ∙ ap Some (ap (value_in sample) (same_var w v here) ∙ e)
  | inr there ↦ ap (λ b. cond b (Some (value_in sample w)) (known_at (map (λ u. (u, value_in sample u)) leaders) v)) there ∙ first_known leaders sample v x (contains_rest w leaders v h there) e
]

pub ascend_first : (leaders : List VarId) (sample : List Value) → AllPairs (λ v w. v.0 < w.0) leaders → EntriesAscend (map (λ v. (v, value_in sample v)) leaders)
ascend_first leaders sample up i j l m =
    let first : VarId → VarId × Value = λ v. (v, value_in sample v) in
    let long = length-map leaders first in
    let none : VarId = record { 0 = 0 } in
    let at : (k : ℕ) → k < length leaders → entry_var_at (map first leaders) k ≡ (get_or leaders k none).0 = λ k h. ap (λ (e : VarId × Value). e.0.0) (get_or-map first leaders k none none_known h) in
    let a = at i (omega arith) in
    let b = at j (omega arith) in
    omega (arith, up i j none l (omega arith))

pub constants_first : (leaders : List VarId) (sample : List Value) → AllPairs (λ v w. v.0 < w.0) leaders → AreConstants leaders (sample ∷ []) (map (λ v. (v, value_in sample v)) leaders)
constants_first leaders sample up = record {
  ascend = ascend_first leaders sample up;
  each = λ v x. (
    λ e. let found = known_first leaders sample v x e in (found.0, record { some = omega arith; each = All-cons (λ s. value_in s v ≡ x) sample [] found.1 (All-nil (λ s. value_in s v ≡ x)) }),
    λ h. first_known leaders sample v x h.0 (All-head (λ s. value_in s v ≡ x) sample [] h.1.each),
  );
}
