-- How many leaders and constants there are.
use Rattle.std.specs.Prelude.{◌≡◌, ◌==◌, ◌<◌, ◌≤◌, ◌+◌, ℕ, List, [], ◌∷◌, Some, if◌then◌else◌, length, refl}
use Rattle.std.specs.List.{AllPairs}
use Rattle.std.proofs.Common.{ap, ◌∙◌, arith, get_or, inl, inr, subst, sym}
use Rattle.std.proofs.lemmas.Bool.{cases_Bool, eq-eqb, true≢false}
use Rattle.std.proofs.lemmas.List.{get_or_default}
use Rattle.dk_base.specs.declared.kinds.VarId.{VarId}
use Rattle.dk_base.specs.declared.kinds.VarInfo.{VarInfo}
use Rattle.dk_base.specs.declared.values.Value.{Value}
use Rattle.dk_classes.proofs.OwnLeaders.{leads_from_own, own_ascend}
use Rattle.dk_classes.specs.Leaders.{own_leaders}
use Rattle.dk_constants.specs.Known.{Entries, EntriesAscend as KnownAscend, known_at, none_known}
use Rattle.dk_forms.specs.Laws.{IsIn}
use Rattle.dk_instances.proofs.Ascending.{Ascend, ascend_from_pairs}
use Rattle.dk_instances.proofs.Members.{contained}
use Rattle.dk_template.specs.declared.grammar.Grammar.{Grammar}
use Rattle.dk_engine.specs.Saved.Conditions.{CanBeFed}
use Rattle.dk_engine.specs.declared.kept.Kept.{Kept}

-- items in rising order of numbers from m on and below n
module _ {X : Type 0} (key : X → ℕ) (n : ℕ) where
  rising : (m : ℕ) (xs : List X) → Ascend (λ x y. key x < key y) xs → ((y : X) → IsIn y xs → (m ≤ key y) × (key y < n)) → m ≤ n → m + length xs ≤ n
  rising m [] up each l = omega (arith, l)
  rising m (x ∷ xs) up each l =
      let here = each x (inl refl) in
      let low = here.0 in
      let high = here.1 in
      let rest = rising (key x + 1) xs up.1 (λ y i. (let lt = up.0 y i in omega (arith, lt), (each y (inr i)).1)) (omega (arith, high)) in
      omega (arith, rest, low)

module _ (g : Grammar) (infos : List VarInfo) (kept : Kept) (can : CanBeFed g infos kept) where
  led_below : (v : VarId) → IsIn v (own_leaders kept.leaders) → (0 ≤ v.0) × (v.0 < length infos)
  led_below v i =
      let leads = leads_from_own kept.leaders v (contained v (own_leaders kept.leaders) i) in
      let l = leads.0 in
      let long = can.readable.leaders.long in
      (omega arith, omega (arith, l, long))

  pub few_leaders : length (own_leaders kept.leaders) ≤ length infos
  few_leaders = let few = rising (λ (v : VarId). v.0) (length infos) 0 (own_leaders kept.leaders) (ascend_from_pairs (λ (v w : VarId). v.0 < w.0) (own_leaders kept.leaders) (own_ascend kept.leaders)) led_below (omega arith) in omega (arith, few)

  has_value : (e : VarId × Value) (known : Entries) → IsIn e known → (x : Value) × (known_at known e.0 ≡ Some x)
  has_value e [] i = absurd i
  has_value e (k ∷ known) i = elim (cases_Bool (k.0.0 == e.0.0)) as (λ _. (x : Value) × (known_at (k ∷ known) e.0 ≡ Some x)) [
    | inl here ↦ (k.1, ap (λ b. if b then Some k.1 else known_at known e.0) here)
    | inr later ↦ elim i as (λ _. (x : Value) × (known_at (k ∷ known) e.0 ≡ Some x)) [
      | inl same ↦ absurd (true≢false (sym (eq-eqb k.0.0 e.0.0 (ap (λ (d : VarId × Value). d.0.0) (sym same))) ∙ later))
      | inr rest ↦ let found = has_value e known rest in (found.0, ap (λ b. if b then Some k.1 else known_at known e.0) later ∙ found.1)
    ]
  ]

  known_below : (e : VarId × Value) → IsIn e kept.known → (0 ≤ e.0.0) × (e.0.0 < length infos)
  known_below e i =
      let found = has_value e kept.known i in
      let leads = leads_from_own kept.leaders e.0 (can.constants_lead e.0 found.0 found.1) in
      let l = leads.0 in
      let long = can.readable.leaders.long in
      (omega arith, omega (arith, l, long))

  pub few_constants : KnownAscend kept.known → length kept.known ≤ length infos
  few_constants up =
      let known = kept.known in
      let each : AllPairs (λ (a b : VarId × Value). a.0.0 < b.0.0) known = λ i j d l m.
      let a = get_or_default known i d none_known (omega (arith, l, m)) in
      let b = get_or_default known j d none_known m in
      subst (λ e. e.0.0 < (get_or known j d).0.0) (sym a) (subst (λ e. (get_or known i none_known).0.0 < e.0.0) (sym b) (up i j l m))
      in
      let few = rising (λ (e : VarId × Value). e.0.0) (length infos) 0 known (ascend_from_pairs (λ (a b : VarId × Value). a.0.0 < b.0.0) known each) known_below (omega arith) in
      omega (arith, few)
