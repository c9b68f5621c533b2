-- Leaders of classes stand for the samples, and go on to do so where a sample splits them.
use Rattle.std.specs.Prelude.{IfOk, Result, Ok, Err}
use Rattle.std.proofs.Common.{◌≡◌, ℕ, zero, suc, ◌^◌, ◌<◌, eqb, ◌⊎◌, inl, inr, List, [], ◌∷◌, ◌++◌, length, cond, refl, ap, sym, ◌∙◌, subst, arith}
use Rattle.std.specs.List.{Contains}
use Rattle.std.proofs.lemmas.Bool.{cases_Bool, cases_eq, eqb-true}
use Rattle.std.proofs.lemmas.Bool.Decides.{nat_tests}
use Rattle.std.proofs.lemmas.List.Elements.{All-head, All-tail, All-cons, All-nil, All-push}
use Rattle.dk_base.specs.declared.kinds.Kind.{Kind}
use Rattle.dk_base.specs.declared.kinds.VarId.{VarId}
use Rattle.dk_base.specs.declared.values.Value.{Value}
use Rattle.dk_samples.specs.Leaders.{LeadNow, old_of}
use Rattle.dk_samples.specs.Samples.{Agree, value_in}
use Rattle.dk_classes.specs.Leaders.{AreClasses, leader_at, own_leaders, var}
use Rattle.dk_classes.specs.Classes.{AreLeaders, AreNew, InClass, IsLike, IsSplit}
use Rattle.dk_classes.proofs.Firsts.{first_on, first_same, one_first}
use Rattle.dk_classes.proofs.OwnLeaders.{leads_from_own, own_from_leads}

-- two facts of one result
pub ok_both : {T E : Type 0} (r : Result T E) (P Q : T → Type 0) → IfOk r P → IfOk r Q → IfOk r (λ v. P v × Q v)
ok_both (Ok v) P Q p q = (p, q)
ok_both (Err e) P Q p q = tt

agree_front : (samples : List (List Value)) (sample : List Value) (v w : VarId) → Agree (samples ++ sample ∷ []) v w → Agree samples v w × (value_in sample v ≡ value_in sample w)
agree_front [] sample v w h = (All-nil (λ s. value_in s v ≡ value_in s w), All-head (λ s. value_in s v ≡ value_in s w) sample [] h)
agree_front (s ∷ samples) sample v w h =
    let rest = agree_front samples sample v w (All-tail (λ s. value_in s v ≡ value_in s w) s (samples ++ sample ∷ []) h) in
    (All-cons (λ s. value_in s v ≡ value_in s w) s samples (All-head (λ s. value_in s v ≡ value_in s w) s (samples ++ sample ∷ []) h) rest.0, rest.1)

module _ (kinds : List Kind) (samples : List (List Value)) where
  pub class_back : (v w : ℕ) → v < length kinds → InClass kinds samples v w → InClass kinds samples w v
  class_back v w l c = record { within = l; kind = sym c.kind; agree = λ k d m. sym (c.agree k d m) }

  class_on : (u v w : ℕ) → InClass kinds samples u v → InClass kinds samples v w → InClass kinds samples u w
  class_on u v w a b = record { within = b.within; kind = b.kind ∙ a.kind; agree = λ k d m. b.agree k d m ∙ a.agree k d m }

  module _ (leaders : List VarId) (are : AreLeaders kinds samples leaders) where
    -- variables of one class have one leader
    pub one_leader : (v w : ℕ) → v < length leaders → w < length leaders → InClass kinds samples v w → leader_at leaders w ≡ leader_at leaders v
    one_leader v w lv lw c = one_first (InClass kinds samples v) (leader_at leaders w) (leader_at leaders v)
        (first_same (InClass kinds samples w) (InClass kinds samples v) (leader_at leaders w) (λ m h. class_on v w m c h)
        (λ m h. class_on w v m (class_back v w (omega (arith, are.long)) c) h) (are.each w lw))
        (are.each v lv)

    -- and only they
    pub class_from_leader : (v w : ℕ) → v < length leaders → w < length leaders → leader_at leaders w ≡ leader_at leaders v → InClass kinds samples v w
    class_from_leader v w lv lw e =
        let to = (are.each v lv).holds in
        let from = subst (InClass kinds samples w) e (are.each w lw).holds in
        class_on v (leader_at leaders v) w to (class_back w (leader_at leaders v) (omega (arith, are.long)) from)

    -- classes that are split by a sample are those of the samples with it
    pub leaders_split : (sample : List Value) (split : List VarId) → IsSplit leaders sample split → AreLeaders kinds (samples ++ sample ∷ []) split
    leaders_split sample split is = record {
      long = is.long ∙ are.long;
      each = λ v l.
          let lv : v < length leaders = omega (arith, is.long) in
          first_same (IsLike leaders sample v) (InClass kinds (samples ++ sample ∷ []) v) (leader_at split v)
          (λ w like.
          let class = class_from_leader v w lv like.within like.class in
          record { within = class.within; kind = class.kind; agree = All-push (λ s. value_in s (var w) ≡ value_in s (var v)) samples sample class.agree like.value })
          (λ w class.
          let front = agree_front samples sample (var w) (var v) class.agree in
          let lw : w < length leaders = omega (arith, class.within, are.long) in
          record { within = lw; class = one_leader v w lv lw (record { within = class.within; kind = class.kind; agree = front.0 }); value = front.1 })
          (is.each v lv);
    }

    -- leaders of classes
    pub classes_of_leaders : length leaders < 2 ^ 32 → AreClasses leaders
    classes_of_leaders few = record {
      few = few;
      before = λ v l. (are.each v l).first v (record { within = omega (arith, are.long); kind = refl; agree = λ k d m. refl });
      own = λ v l.
          let led = (are.each v l).holds in
          one_leader v (leader_at leaders v) l (omega (arith, led.within, are.long)) led;
    }

-- leaders after a split are leaders of classes
pub classes_of_split : (leaders : List VarId) (sample : List Value) (split : List VarId) → AreClasses leaders → IsSplit leaders sample split → AreClasses split
classes_of_split leaders sample split classes is = record {
  few = omega (arith, is.long, classes.few);
  before = λ v l.
      let lv : v < length leaders = omega (arith, is.long) in
      (is.each v lv).first v (record { within = lv; class = refl; value = refl });
  own = λ v l.
      let lv : v < length leaders = omega (arith, is.long) in
      let led = (is.each v lv).holds in
      one_first (IsLike leaders sample v) (leader_at split (leader_at split v)) (leader_at split v)
      (first_on leaders sample v (leader_at split v) (leader_at split (leader_at split v)) lv led (is.each (leader_at split v) led.within)) (is.each v lv);
}

-- the old leader of a variable is told beside it, or it isn't new
old_cases : (new : List (VarId × VarId)) (v : VarId) → ((w : VarId) × Contains new (v, w) × (old_of new v ≡ w)) ⊎ (((w : VarId) → Contains new (v, w) → ⊥) × (old_of new v ≡ v))
old_cases [] v = inr (λ w h. omega (arith, h.1), refl)
old_cases (n ∷ new) v = elim (cases_Bool (eqb n.0.0 v.0)) [
  | inl here ↦
      let is : n.0 ≡ v = ap (λ m. record { 0 = m }) (eqb-true n.0.0 v.0 here) in
      inl (n.1, (0, omega arith, ap (λ (u : VarId). (u, n.1)) is), ap (λ b. cond b n.1 (old_of new v)) here)
  | inr there ↦ elim (old_cases new v) [
    | inl found ↦ inl (found.0, (suc found.1.0, omega (arith, found.1.1), found.1.2), ap (λ b. cond b n.1 (old_of new v)) there ∙ found.2)
    | inr none ↦ inr (
      λ w h. elim (pair_cases n new v w h) [
        | inl e ↦ grind (arith, nat_tests, ap (λ (p : VarId × VarId). p.0.0) e, there)
        | inr later ↦ none.0 w later
      ],
      ap (λ b. cond b n.1 (old_of new v)) there ∙ none.1,
    )
  ]
]
  where
    pair_cases : (n : VarId × VarId) (new : List (VarId × VarId)) (v w : VarId) → Contains (n ∷ new) (v, w) → ◌≡◌ {A = VarId × VarId} n (v, w) ⊎ Contains new (v, w)
    pair_cases n new v w (zero, l, e) = inl e
    pair_cases n new v w (suc k, l, e) = inr (k, omega arith, e)

module _ (leaders : List VarId) (sample : List Value) (split : List VarId) (new : List (VarId × VarId)) (classes : AreClasses leaders) (is : IsSplit leaders sample split) (are_new : AreNew leaders split new) where
  -- a variable that led and isn't new leads
  pub still_leads : (v : ℕ) → v < length leaders → leader_at leaders v ≡ v → leader_at split v ≡ v
  still_leads v l e =
      let first = is.each v l in
      let low = first.first v (record { within = l; class = refl; value = refl }) in
      let high = classes.before (leader_at split v) first.holds.within in
      let same = first.holds.class in
      omega (arith, low, high, same, e)

  -- a variable leads now where its old leader led
  pub led_now : (v : VarId) → Contains (own_leaders split) v → Contains (own_leaders leaders) (old_of new v)
  led_now v has =
      let leads = leads_from_own split v has in
      let l : v.0 < length leaders = omega (arith, leads.0, is.long) in
      elim (old_cases new v) [
        | inl found ↦
            let told = (are_new.each v found.0).0 found.1 in
            let there : found.0.0 ≡ leader_at leaders v.0 = told.3 in
            subst (Contains (own_leaders leaders)) (sym found.2)
            (own_from_leads leaders found.0 (omega (arith, classes.before v.0 l, there)) (ap (leader_at leaders) there ∙ (classes.own v.0 l ∙ sym there)))
        | inr none ↦ subst (Contains (own_leaders leaders)) (sym none.1) (elim (cases_eq (leader_at leaders v.0) v.0) [
          | inl led ↦ own_from_leads leaders v l led
          | inr apart ↦ absurd (none.0 (var (leader_at leaders v.0)) ((are_new.each v (var (leader_at leaders v.0))).1 (leads.0, leads.1, apart, refl)))
        ])
      ]

  pub leads_now : (v : VarId) → Contains (own_leaders leaders) (old_of new v) → Contains (own_leaders split) v
  leads_now v has = elim (old_cases new v) [
    | inl found ↦ let told = (are_new.each v found.0).0 found.1 in own_from_leads split v told.0 told.1
    | inr none ↦
        let leads = leads_from_own leaders v (subst (Contains (own_leaders leaders)) none.1 has) in
        own_from_leads split v (omega (arith, leads.0, is.long)) (still_leads v.0 leads.0 leads.1)
  ]

  pub lead_now : (kinds : List Kind) (samples : List (List Value)) → AreLeaders kinds samples leaders → LeadNow (own_leaders leaders) new samples (own_leaders split)
  lead_now kinds samples are = record {
    led = λ v. (led_now v, leads_now v);
    agree = λ v has.
        let leads = leads_from_own split v has in
        let l : v.0 < length leaders = omega (arith, leads.0, is.long) in
        elim (old_cases new v) [
          | inl found ↦
              let told = (are_new.each v found.0).0 found.1 in
              let there : old_of new v ≡ var (leader_at leaders v.0) = found.2 ∙ ap (λ m. record { 0 = m }) told.3 in
              subst (Agree samples v) (sym there) (λ k d m. sym ((are.each v.0 l).holds.agree k d m))
          | inr none ↦ subst (Agree samples v) (sym none.1) (λ k d m. refl)
        ];
  }
