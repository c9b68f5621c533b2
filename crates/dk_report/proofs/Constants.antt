-- The kept constants are the leaders that are constant in the samples.
use Rattle.std.specs.Prelude.{◌≡◌, ◌<◌, ◌==◌, ℕ, Bool, true, false, All, Contains, List, [], ◌∷◌, filter, if◌then◌else◌, length, map, refl, Option, Some, None, is_some}
use Rattle.std.specs.List.{AllPairs, list_all}
use Rattle.std.proofs.Common.{◌∙◌, ap, arith, get_or, inl, inr, sym}
use Rattle.std.proofs.lemmas.Bool.{and_from, and_parts, cases_Bool, eq-eqb, eqb-true, false≢true, true≢false}
use Rattle.std.proofs.lemmas.List.{get_or-map, length-map}
use Rattle.std.proofs.lemmas.List.Elements.{All-cons, All-head, All-tail}
use Rattle.dk_base.proofs.ValueTests.{same_value-decides}
use Rattle.dk_base.specs.Values.SameValues.{same_value}
use Rattle.dk_base.specs.declared.kinds.VarId.{VarId}
use Rattle.dk_base.specs.declared.values.Value.{Value}
use Rattle.dk_constants.specs.Constants.{AreConstants, HasAlways}
use Rattle.dk_constants.specs.Known.{Entries, EntriesAscend, entry_var_at, known_at, none_known}
use Rattle.dk_forms.specs.Laws.{IsIn}
use Rattle.dk_instances.proofs.Ascending.{ascend_from_pairs, kept, pairs}
use Rattle.dk_instances.proofs.Members.{contained, in_filter, is_in, of_filter}
use Rattle.dk_samples.proofs.Members.{same_members}
use Rattle.dk_samples.specs.Samples.{value_in}
use Rattle.dk_report.proofs.Leaders.{Before, one_way}
use Rattle.dk_report.specs.Sizes.{is_constant_in}

abbrev var_of : VarId × Value → VarId
var_of k = k.0

-- ---- entries
known-of : (known : Entries) (v : VarId) (x : Value) → known_at known v ≡ Some x → IsIn v (map var_of known)
known-of [] v x h = absurd (cc)
known-of (k ∷ known) v x h = elim (cases_Bool (k.0.0 == v.0)) as (λ _. IsIn v (map var_of (k ∷ known))) [
  | inl here ↦ inl (ap (λ n. record { 0 = n }) (sym (eqb-true k.0.0 v.0 here)))
  | inr later ↦ inr (known-of known v x (sym (ap (λ b. if b then Some k.1 else known_at known v) later) ∙ h))
]

of-known : (known : Entries) (v : VarId) → IsIn v (map var_of known) → (x : Value) × (known_at known v ≡ Some x)
of-known [] v i = absurd i
of-known (k ∷ known) v i = elim (cases_Bool (k.0.0 == v.0)) as (λ _. (x : Value) × (known_at (k ∷ known) v ≡ Some x)) [
  | inl here ↦ (k.1, ap (λ b. if b then Some k.1 else known_at known v) here)
  | inr later ↦ elim i as (λ _. (x : Value) × (known_at (k ∷ known) v ≡ Some x)) [
    | inl e ↦ absurd (true≢false (sym (eq-eqb k.0.0 v.0 (ap (λ (w : VarId). w.0) (sym e))) ∙ later))
    | inr r ↦ (let rest = of-known known v r in (rest.0, ap (λ b. if b then Some k.1 else known_at known v) later ∙ rest.1))
  ]
]

vars-ascend : (known : Entries) → EntriesAscend known → AllPairs Before (map var_of known)
vars-ascend known up i j d lt l =
    let n = length-map known var_of in
    let lj : j < length known = omega (arith, l, n) in
    let li : i < length known = omega (arith, lj, lt) in
    let at : (k : ℕ) → k < length known → (get_or (map var_of known) k d).0 ≡ entry_var_at known k = λ k lk.
    ap (λ (v : VarId). v.0) (get_or-map var_of known k none_known d lk) in
    let a = at i li in
    let b = at j lj in
    let rises = up i j lt lj in
    omega (arith, a, b, rises)

-- ---- one value in all samples
always : (samples : List (List Value)) (v : VarId) (x : Value) → All (λ s. value_in s v ≡ x) samples → list_all (λ t. same_value (value_in t v) x) samples ≡ true
always [] v x all = refl
always (s ∷ samples) v x all =
    let Has : List Value → Type 0 = λ t. value_in t v ≡ x in
    and_from (same_value (value_in s v) x) (list_all (λ t. same_value (value_in t v) x) samples) ((same_value-decides (value_in s v) x).1 (All-head Has s samples all)) (always samples v x (All-tail Has s samples all))

each-has : (samples : List (List Value)) (v : VarId) (x : Value) → list_all (λ t. same_value (value_in t v) x) samples ≡ true → All (λ s. value_in s v ≡ x) samples
each-has [] v x h = λ k d l. absurd (omega (arith, l))
each-has (s ∷ samples) v x h =
    let hs = and_parts (same_value (value_in s v) x) (list_all (λ t. same_value (value_in t v) x) samples) h in
    All-cons (λ t. value_in t v ≡ x) s samples ((same_value-decides (value_in s v) x).0 hs.0) (each-has samples v x hs.1)

constant-from : (samples : List (List Value)) (v : VarId) (x : Value) → HasAlways samples v x → is_constant_in samples v ≡ true
constant-from [] v x h = (let some = h.some in absurd (omega (arith, some)))
constant-from (s ∷ samples) v x h =
    let Has : List Value → Type 0 = λ t. value_in t v ≡ x in
    let first : value_in s v ≡ x = All-head Has s samples h.each in
    ap (λ y. list_all (λ t. same_value (value_in t v) y) samples) first ∙ always samples v x (All-tail Has s samples h.each)

has-from : (samples : List (List Value)) (v : VarId) → is_constant_in samples v ≡ true → (x : Value) × HasAlways samples v x
has-from [] v h = absurd (false≢true h)
has-from (s ∷ samples) v h = (
  value_in s v,
  record {
    some = omega arith;
    each = All-cons (λ t. value_in t v ≡ value_in s v) s samples refl (each-has samples v (value_in s v) h);
  },
)

some-is : (o : Option Value) (x : Value) → o ≡ Some x → is_some o ≡ true
some-is o x e = ap is_some e

value-of : (o : Option Value) → is_some o ≡ true → (x : Value) × (o ≡ Some x)
value-of None h = absurd (false≢true h)
value-of (Some x) h = (x, refl)

same-tests : (b c : Bool) → (b ≡ true → c ≡ true) → (c ≡ true → b ≡ true) → b ≡ c
same-tests true c to from = sym (to refl)
same-tests false true to from = from refl
same-tests false false to from = refl

module _ (leaders : List VarId) (up : AllPairs Before leaders) (samples : List (List Value)) (known : Entries) (are : AreConstants leaders samples known) where
  -- a leader is known where it is constant
  pub known_is : (v : VarId) → Contains leaders v → is_some (known_at known v) ≡ is_constant_in samples v
  known_is v leads =
      same-tests (is_some (known_at known v)) (is_constant_in samples v)
      (λ h. let x = value-of (known_at known v) h in constant-from samples v x.0 ((are.each v x.0).0 x.1).1)
      (λ h. let x = has-from samples v h in some-is (known_at known v) x.0 ((are.each v x.0).1 (leads, x.1)))

  pub constants_are : map var_of known ≡ filter (is_constant_in samples) leaders
  constants_are =
      same_members Before one_way (map var_of known) (filter (is_constant_in samples) leaders) (vars-ascend known are.ascend)
      (pairs Before (filter (is_constant_in samples) leaders) (kept Before (is_constant_in samples) leaders (ascend_from_pairs Before leaders up)))
      (λ v c.
      let x = of-known known v (is_in v (map var_of known) c.0 c.1 c.2) in
      let is = (are.each v x.0).0 x.1 in
      contained v (filter (is_constant_in samples) leaders)
      (in_filter (is_constant_in samples) v leaders (is_in v leaders is.0.0 is.0.1 is.0.2) (constant-from samples v x.0 is.1)))
      (λ v c.
      let i = of_filter (is_constant_in samples) v leaders (is_in v (filter (is_constant_in samples) leaders) c.0 c.1 c.2) in
      let x = has-from samples v i.1 in
      contained v (map var_of known) (known-of known v x.0 ((are.each v x.0).1 (contained v leaders i.0, x.1))))

  pub constants_count : length known ≡ length (filter (is_constant_in samples) leaders)
  constants_count = sym (length-map known var_of) ∙ ap (λ (vs : List VarId). length vs) constants_are
