-- What is kept of samples meets the conditions of kept parts.
use Rattle.std.specs.Prelude.{◌≡◌, ◌<◌, ◌&&◌, ℕ, zero, suc, true, Contains, List, [], ◌∷◌, length}
use Rattle.std.specs.List.{AllZip, list_any}
use Rattle.std.proofs.Common.{ap, ◌∙◌, arith, get_or, sym, inl, inr}
use Rattle.std.proofs.lemmas.Bool.{and_parts, cases_Bool, false≢true, or_cases}
use Rattle.dk_base.specs.Values.{IsOfKind}
use Rattle.dk_base.specs.Values.Tuples.{value_at}
use Rattle.dk_base.specs.declared.kinds.VarId.{VarId}
use Rattle.dk_base.specs.declared.kinds.VarInfo.{VarInfo}
use Rattle.dk_base.specs.declared.values.Value.{Value}
use Rattle.dk_classes.specs.Classes.{kind_at, var_kinds}
use Rattle.dk_presence.proofs.Refining.{contains-has, has-contains}
use Rattle.dk_presence.proofs.Sameness.{same_vars-true}
use Rattle.dk_presence.proofs.Sums.{count_at, has-filter, occurs_not}
use Rattle.dk_presence.specs.Patterns.{AreCounted, AreHeld, capped, has, patterns_of, present_in, same_vars, times}
use Rattle.dk_presence.specs.declared.held.Held.{Held}
use Rattle.dk_samples.specs.Samples.{is_present, value_in}

-- ---- values of samples
-- the value of a variable in a sample is of the variable's kind
pub kind_of_value : (infos : List VarInfo) (sample : List Value) → AllZip (λ (info : VarInfo) x. IsOfKind info.kind x) infos sample → (v : ℕ) → v < length infos → IsOfKind (kind_at (var_kinds infos) v) (value_at sample v)
kind_of_value [] sample h v l = absurd (omega (arith, l))
kind_of_value (info ∷ infos) [] h v l = absurd h
kind_of_value (info ∷ infos) (x ∷ sample) h zero l = h.0
kind_of_value (info ∷ infos) (x ∷ sample) h (suc v) l = kind_of_value infos sample h.1 v (omega (arith, l))

-- ---- patterns that are held
-- a pattern that occurs is that of one of the samples
of_sample : (leaders : List VarId) (samples : List (List Value)) (p : List VarId) → list_any (same_vars p) (patterns_of leaders samples) ≡ true
    → (k : ℕ) × (k < length samples) × (p ≡ present_in leaders (get_or samples k []))
of_sample leaders [] p h = absurd (false≢true h)
of_sample leaders (s ∷ samples) p h = elim (or_cases (same_vars p (present_in leaders s)) (list_any (same_vars p) (patterns_of leaders samples)) h) [
  | inl here ↦ (0, omega arith, same_vars-true p (present_in leaders s) here)
  | inr later ↦ let rest = of_sample leaders samples p later in let l = rest.1 in (suc rest.0, omega (arith, l), rest.2)
]

-- each pattern that is held is that of one of the samples
pub held_of_sample : (leaders : List VarId) (samples : List (List Value)) (held : List Held) → AreHeld held → AreCounted (patterns_of leaders samples) held → (i : ℕ) (d : Held) → i < length held
    → (k : ℕ) × (k < length samples) × ((get_or held i d).leaders ≡ present_in leaders (get_or samples k []))
held_of_sample leaders samples held are counted i d l =
    let h = get_or held i d in
    elim (cases_Bool (list_any (same_vars h.leaders) (patterns_of leaders samples))) [
      | inl occurs ↦ of_sample leaders samples h.leaders occurs
      | inr never ↦
          let count : h.count ≡ capped (times h.leaders (patterns_of leaders samples)) = sym (count_at held are.once i d l) ∙ counted h.leaders in
          let none = occurs_not h.leaders (patterns_of leaders samples) never in
          let some = are.some i d l in
          absurd (omega (arith, count, none, some))
    ]

-- the leaders of a sample's pattern
pub in_pattern : (leaders : List VarId) (sample : List Value) (v : VarId) → Contains (present_in leaders sample) v → Contains leaders v
in_pattern leaders sample v h =
    let both = has-filter (λ w. is_present (value_in sample w)) leaders v in
    contains-has leaders v (and_parts (has leaders v) (is_present (value_in sample v)) (sym both ∙ has-contains (present_in leaders sample) v h)).0

pub has_present : (leaders : List VarId) (sample : List Value) (v : VarId) → Contains leaders v → has (present_in leaders sample) v ≡ is_present (value_in sample v)
has_present leaders sample v h = has-filter (λ w. is_present (value_in sample w)) leaders v ∙ ap (λ b. b && is_present (value_in sample v)) (has-contains leaders v h)
