-- What is known in both is what is constant in both lists.
use Rattle.std.specs.Prelude.{◌≡◌, ◌<◌, ◌^◌, ◌==◌, ◌||◌, ◌++◌, ℕ, zero, suc, Bool, true, false, All, Contains, List, [], ◌∷◌, Option, None, Some, if◌then◌else◌, length, refl}
use Rattle.std.specs.List.{cons_option}
use Rattle.std.specs.Option.{option_map, option_or}
use Rattle.std.proofs.Common.{ap, ◌∙◌, arith, inl, inr, sym}
use Rattle.std.proofs.lemmas.Bool.{cases_Bool}
use Rattle.std.proofs.lemmas.List.{length-append}
use Rattle.std.proofs.lemmas.List.Elements.{All-append, All-head, All-tail}
use Rattle.dk_base.proofs.ValueTests.{same_value-decides}
use Rattle.dk_base.specs.Values.SameValues.{same_value}
use Rattle.dk_base.specs.declared.kinds.Kind.{Kind}
use Rattle.dk_base.specs.declared.kinds.VarId.{VarId}
use Rattle.dk_base.specs.declared.values.Value.{Value}
use Rattle.dk_classes.proofs.OwnLeaders.{own_ascend}
use Rattle.dk_classes.specs.Classes.{AreLeaders}
use Rattle.dk_classes.specs.Leaders.{own_leaders}
use Rattle.dk_constants.specs.Constants.{AreConstants, HasAlways}
use Rattle.dk_constants.specs.Known.{Entries, EntriesAscend, entry_var_at, known_at}
use Rattle.dk_engine.specs.Reading.Parts.{leader_of}
use Rattle.dk_engine.specs.declared.kept.Kept.{Kept}
use Rattle.dk_presence.proofs.Refining.{contains-has, has-contains}
use Rattle.dk_presence.proofs.Sameness.{ascend_rest, same_id}
use Rattle.dk_presence.specs.Patterns.{has}
use Rattle.dk_samples.specs.Leaders.{VarsAscend}
use Rattle.dk_samples.specs.Samples.{Agree, value_in}
use Rattle.dk_join.proofs.Leading.{agrees_with_leader, leader_leads, within_first}
use Rattle.dk_join.proofs.Lists.{all_parts}
use Rattle.dk_join.specs.Joined.{AreJoinedLeaders, common_value, joined_known, known_in_both}

-- ---- values
common_some : (o p : Option Value) (x : Value) → common_value o p ≡ Some x → (o ≡ Some x) × (p ≡ Some x)
common_some None p x e = absurd (cc)
common_some (Some y) None x e = absurd (cc)
common_some (Some y) (Some z) x e = elim (cases_Bool (same_value y z)) [
  | inl t ↦
      let same : y ≡ z = (same_value-decides y z).0 t in
      let told : Some y ≡ Some x = sym (ap (λ b. if b then Some y else None) t) ∙ e in
      let is : y ≡ x = cc in
      (ap Some is, ap Some (sym same ∙ is))
  | inr n ↦ absurd (let told : None ≡ Some x = sym (ap (λ b. if b then Some y else None) n) ∙ e in cc)
]

common_one : (x : Value) → common_value (Some x) (Some x) ≡ Some x
common_one x = ap (λ b. if b then Some x else None) ((same_value-decides x x).1 refl)

-- ---- look-ups
pushed : (o : Option Value) (w v : VarId) (rest : Entries) → known_at (cons_option (option_map (λ x. (w, x)) o) rest) v ≡ (if w.0 == v.0 then option_or o (known_at rest v) else known_at rest v)
pushed None w v rest = elim (w.0 == v.0) as (λ b. known_at rest v ≡ (if b then known_at rest v else known_at rest v)) [ true ↦ refl | false ↦ refl ]
pushed (Some x) w v rest = refl

or_same : (o : Option Value) (b : Bool) → option_or o (if b then o else None) ≡ o
or_same None true = refl
or_same None false = refl
or_same (Some x) b = refl

-- each entry is behind n
abbrev Behind : ℕ → Entries → Type 0
Behind n known = (j : ℕ) → j < length known → n < entry_var_at known j

behind_cons : (n : ℕ) (k : VarId × Value) (known : Entries) → n < k.0.0 → Behind n known → Behind n (k ∷ known)
behind_cons n k known l behind zero m = l
behind_cons n k known l behind (suc j) m = behind j (omega (arith, m))

up_cons : (k : VarId × Value) (known : Entries) → Behind k.0.0 known → EntriesAscend known → EntriesAscend (k ∷ known)
up_cons k known behind up zero zero l m = absurd (omega (arith, l))
up_cons k known behind up zero (suc j) l m = behind j (omega (arith, m))
up_cons k known behind up (suc i) zero l m = absurd (omega (arith, l))
up_cons k known behind up (suc i) (suc j) l m = up i j (omega (arith, l)) (omega (arith, m))

module _ (first second : Kept) where
  abbrev entry : VarId → Option Value → Option (VarId × Value)
  entry w o = option_map (λ x. (w, x)) o

  pub known_joined : (leaders : List VarId) (v : VarId) → known_at (joined_known first second leaders) v ≡ (if has leaders v then known_in_both first second v else None)
  known_joined [] v = refl
  known_joined (w ∷ ws) v =
      let rest = joined_known first second ws in
      pushed (known_in_both first second w) w v rest
      ∙ (ap (λ o. if w.0 == v.0 then option_or (known_in_both first second w) o else o) (known_joined ws v)
      ∙ elim (cases_Bool (w.0 == v.0)) [
        | inl e ↦
            ap (λ b. if b then option_or (known_in_both first second w) (if has ws v then known_in_both first second v else None) else (if has ws v then known_in_both first second v else None)) e
            ∙ (ap (λ u. option_or (known_in_both first second u) (if has ws v then known_in_both first second v else None)) (same_id w v e)
            ∙ (or_same (known_in_both first second v) (has ws v) ∙ sym (ap (λ b. if b || has ws v then known_in_both first second v else None) e)))
        | inr n ↦
            ap (λ b. if b then option_or (known_in_both first second w) (if has ws v then known_in_both first second v else None) else (if has ws v then known_in_both first second v else None)) n
            ∙ sym (ap (λ b. if b || has ws v then known_in_both first second v else None) n)
      ])

  behind_joined : (n : ℕ) (leaders : List VarId) → All (λ (w : VarId). n < w.0) leaders → Behind n (joined_known first second leaders)
  behind_joined n [] all = λ j l. absurd (omega (arith, l))
  behind_joined n (w ∷ ws) all = elim (known_in_both first second w) as (λ o. Behind n (cons_option (entry w o) (joined_known first second ws))) [
    | None ↦ behind_joined n ws (All-tail (λ (u : VarId). n < u.0) w ws all)
    | Some x ↦ behind_cons n (w, x) (joined_known first second ws) (All-head (λ (u : VarId). n < u.0) w ws all) (behind_joined n ws (All-tail (λ (u : VarId). n < u.0) w ws all))
  ]

  pub known_ascend : (leaders : List VarId) → VarsAscend leaders → EntriesAscend (joined_known first second leaders)
  known_ascend [] up = λ i j l m. absurd (omega (arith, m))
  known_ascend (w ∷ ws) up = elim (known_in_both first second w) as (λ o. EntriesAscend (cons_option (entry w o) (joined_known first second ws))) [
    | None ↦ known_ascend ws (ascend_rest w ws up)
    | Some x ↦ up_cons (w, x) (joined_known first second ws) (behind_joined w.0 ws (λ k d l. up 0 (suc k) d (omega arith) (omega (arith, l)))) (known_ascend ws (ascend_rest w ws up))
  ]

-- ---- samples
module _ (v w : VarId) (x : Value) (samples : List (List Value)) (agree : Agree samples w v) where
  always_to : HasAlways samples w x → HasAlways samples v x
  always_to h = record { some = h.some; each = λ k d l. sym (agree k d l) ∙ h.each k d l }

  always_from : HasAlways samples v x → HasAlways samples w x
  always_from h = record { some = h.some; each = λ k d l. agree k d l ∙ h.each k d l }

module _ (kinds : List Kind) (samples others : List (List Value)) (some : 0 < length samples) (also_some : 0 < length others) (first second : Kept)
    (are : AreLeaders kinds samples first.leaders) (also : AreLeaders kinds others second.leaders) (few : length first.leaders < 2 ^ 32) (also_few : length second.leaders < 2 ^ 32)
    (known : AreConstants (own_leaders first.leaders) samples first.known) (also_known : AreConstants (own_leaders second.leaders) others second.known)
    (leaders : List VarId) (joined : AreJoinedLeaders first.leaders second.leaders leaders) where
  abbrev led : List VarId
  led = own_leaders leaders

  module _ (v : VarId) (x : Value) (has_v : Contains led v) where
    in_first : v.0 < length first.leaders
    in_first = within_first first.leaders second.leaders leaders joined v has_v

    in_second : v.0 < length second.leaders
    in_second = let l = in_first in let one = are.long in let two = also.long in omega (arith, l, one, two)

    known_to : known_in_both first second v ≡ Some x → HasAlways (samples ++ others) v x
    known_to e =
        let both = common_some (known_at first.known (leader_of first.leaders v)) (known_at second.known (leader_of second.leaders v)) x e in
        let a = always_to v (leader_of first.leaders v) x samples (agrees_with_leader kinds samples first.leaders are few v in_first) ((known.each (leader_of first.leaders v) x).0 both.0).1 in
        let b = always_to v (leader_of second.leaders v) x others (agrees_with_leader kinds others second.leaders also also_few v in_second) ((also_known.each (leader_of second.leaders v) x).0 both.1).1 in
        record { some = (let long = length-append samples others in omega (arith, long, some)); each = All-append (λ (s : List Value). value_in s v ≡ x) samples others a.each b.each }

    known_from : HasAlways (samples ++ others) v x → known_in_both first second v ≡ Some x
    known_from h =
        let parts = all_parts (λ (s : List Value). value_in s v ≡ x) samples others h.each in
        let a : HasAlways samples v x = record { some = some; each = parts.0 } in
        let b : HasAlways others v x = record { some = also_some; each = parts.1 } in
        let one : known_at first.known (leader_of first.leaders v) ≡ Some x =
        (known.each (leader_of first.leaders v) x).1 (leader_leads kinds samples first.leaders are few v in_first, always_from v (leader_of first.leaders v) x samples (agrees_with_leader kinds samples first.leaders are few v in_first) a) in
        let other : known_at second.known (leader_of second.leaders v) ≡ Some x =
        (also_known.each (leader_of second.leaders v) x).1 (leader_leads kinds others second.leaders also also_few v in_second, always_from v (leader_of second.leaders v) x others (agrees_with_leader kinds others second.leaders also also_few v in_second) b) in
        ap (λ o. common_value o (known_at second.known (leader_of second.leaders v))) one ∙ (ap (common_value (Some x)) other ∙ common_one x)

  pub constants_of_both : AreConstants led (samples ++ others) (joined_known first second led)
  constants_of_both = record {
    ascend = known_ascend first second led (own_ascend leaders);
    each = λ v x. (
      λ e. elim (cases_Bool (has led v)) [
        | inl h ↦
            let c = contains-has led v h in
            (c, known_to v x c (sym (ap (λ b. if b then known_in_both first second v else None) h) ∙ (sym (known_joined first second led v) ∙ e)))
        | inr n ↦ absurd (let told : None ≡ Some x = sym (ap (λ b. if b then known_in_both first second v else None) n) ∙ (sym (known_joined first second led v) ∙ e) in cc)
      ],
      λ h. known_joined first second led v ∙ (ap (λ b. if b then known_in_both first second v else None) (has-contains led v h.0) ∙ known_from v x h.0 h.1),
    );
  }
