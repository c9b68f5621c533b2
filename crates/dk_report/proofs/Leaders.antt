-- The variables that lead the kept classes are the leaders of the samples.
use Rattle.std.specs.Prelude.{◌≡◌, ◌<◌, ◌≤◌, ◌+◌, ℕ, zero, suc, Bool, true, false, not, List, [], ◌∷◌, length, map, refl, take}
use Rattle.std.specs.List.{list_any, range_with_len}
use Rattle.std.proofs.Common.{◌∙◌, ap, arith, inl, inr, sym}
use Rattle.std.proofs.lemmas.Bool.{cases_Bool, cases_lt, false≢true, not-true, or_from, or_left, or_right}
use Rattle.std.proofs.lemmas.List.{length-map}
use Rattle.dk_base.specs.declared.kinds.VarId.{VarId}
use Rattle.dk_base.specs.declared.kinds.VarInfo.{VarInfo}
use Rattle.dk_base.specs.declared.values.Value.{Value}
use Rattle.dk_classes.proofs.OfKind.{kind_read}
use Rattle.dk_classes.proofs.OwnLeaders.{leads_from_own, own_ascend, own_from_leads}
use Rattle.dk_classes.specs.Classes.{AreLeaders, InClass, var_kinds}
use Rattle.dk_classes.specs.Leaders.{leader_at, own_leaders}
use Rattle.dk_filters.proofs.Agreeing.{agrees_is_agreement}
use Rattle.dk_filters.specs.Facts.{no_info}
use Rattle.dk_filters.specs.OfSamples.{agrees}
use Rattle.dk_forms.specs.Laws.{IsIn}
use Rattle.dk_instances.proofs.Ascending.{along, kept, numbers, pairs}
use Rattle.dk_instances.proofs.Members.{contained, in_filter, in_map, in_range, is_in, of_filter, of_map, of_range}
use Rattle.dk_instances.specs.Instances.{all_vars}
use Rattle.dk_samples.proofs.Members.{same_members}
use Rattle.dk_report.specs.Sizes.{leads, own_leaders_in}

abbrev pub Before : VarId → VarId → Type 0
Before v w = v.0 < w.0

pub one_way : (v w : VarId) → Before v w → Before w v → ⊥
one_way v w l m = omega (arith, l, m)

-- ---- the first of all variables
in-take : (w : VarId) (k a n : ℕ) → IsIn w (take k (map (λ m. record { 0 = m }) (range_with_len a n))) → w.0 < a + k
in-take w zero a n i = absurd i
in-take w (suc k) a zero i = absurd i
in-take w (suc k) a (suc n) (inl e) = let same : w.0 ≡ a = ap (λ (u : VarId). u.0) e in omega (arith, same)
in-take w (suc k) a (suc n) (inr i) = let rest = in-take w k (a + 1) n i in omega (arith, rest)

taken-in : (w : VarId) (k a n : ℕ) → w.0 < a + k → a ≤ w.0 → w.0 < a + n → IsIn w (take k (map (λ m. record { 0 = m }) (range_with_len a n)))
taken-in w zero a n l low high = absurd (omega (arith, l, low))
taken-in w (suc k) a zero l low high = absurd (omega (arith, low, high))
taken-in w (suc k) a (suc n) l low high = elim (cases_lt a w.0) as (λ _. IsIn w (take (suc k) (map (λ m. record { 0 = m }) (range_with_len a (suc n))))) [
  | inl above ↦ inr (taken-in w k (a + 1) n (omega (arith, l)) (omega (arith, above)) (omega (arith, high)))
  | inr below ↦ (let same : w.0 ≡ a = omega (arith, low, below) in inl (ap (λ m. record { 0 = m }) same))
]

none-of : (q : VarId → Bool) (vars : List VarId) → ((w : VarId) → IsIn w vars → q w ≡ false) → list_any q vars ≡ false
none-of q [] none = refl
none-of q (v ∷ vars) none = or_from (q v) (list_any q vars) (none v (inl refl)) (none-of q vars (λ w i. none w (inr i)))

some-of : (q : VarId → Bool) (w : VarId) (vars : List VarId) → IsIn w vars → q w ≡ true → list_any q vars ≡ true
some-of q w [] i h = absurd i
some-of q w (v ∷ vars) (inl e) h = or_left (q v) (list_any q vars) (ap q (sym e) ∙ h)
some-of q w (v ∷ vars) (inr i) h = or_right (q v) (list_any q vars) (some-of q w vars i h)

pub all-in : (infos : List VarInfo) (v : VarId) → v.0 < length infos → IsIn v (all_vars infos)
all-in infos v l = in_map {X = ℕ} {Y = VarId} (λ n. record { 0 = n }) v.0 (range_with_len 0 (length infos)) (in_range v.0 0 (length infos) (omega arith) (omega (arith, l)))

pub in-all : (infos : List VarInfo) (v : VarId) → IsIn v (all_vars infos) → v.0 < length infos
in-all infos v i =
    let m = of_map {X = ℕ} {Y = VarId} (λ n. record { 0 = n }) v (range_with_len 0 (length infos)) i in
    let r = of_range m.0 0 (length infos) m.1 in
    let high = r.1 in
    let same : v.0 ≡ m.0 = ap (λ (u : VarId). u.0) m.2 in
    omega (arith, high, same)

module _ (infos : List VarInfo) (samples : List (List Value)) (leaders : List VarId) (are : AreLeaders (var_kinds infos) samples leaders) where
  long : length leaders ≡ length infos
  long = are.long ∙ length-map infos (λ (i : VarInfo). i.kind)

  -- two that agree are of one class
  in-class : (v w : VarId) → v.0 < length infos → w.0 < length infos → agrees infos samples w v ≡ true → InClass (var_kinds infos) samples v.0 w.0
  in-class v w lv lw h =
      let told = (agrees_is_agreement infos samples w v).0 h in
      record {
        within = (let l = length-map infos (λ (i : VarInfo). i.kind) in omega (arith, l, lw));
        kind = kind_read infos w.0 no_info lw ∙ (told.0 ∙ sym (kind_read infos v.0 no_info lv));
        agree = told.1;
      }

  agree-in : (v w : VarId) → v.0 < length infos → w.0 < length infos → InClass (var_kinds infos) samples v.0 w.0 → agrees infos samples w v ≡ true
  agree-in v w lv lw h = (agrees_is_agreement infos samples w v).1 (sym (kind_read infos w.0 no_info lw) ∙ (h.kind ∙ kind_read infos v.0 no_info lv), h.agree)

  leads-from : (v : VarId) → v.0 < length infos → leader_at leaders v.0 ≡ v.0 → leads infos samples v ≡ true
  leads-from v l own =
      let first = are.each v.0 (let g = long in omega (arith, l, g)) in
      ap not (none-of (λ w. agrees infos samples w v) (take v.0 (all_vars infos))
      (λ w i.
      let before : w.0 < 0 + v.0 = in-take w v.0 0 (length infos) i in
      elim (cases_Bool (agrees infos samples w v)) as (λ _. agrees infos samples w v ≡ false) [
        | inl agree ↦
            (let lw : w.0 < length infos = omega (arith, before, l) in
            let least = first.first w.0 (in-class v w l lw agree) in
            absurd (omega (arith, least, own, before)))
        | inr differ ↦ differ
      ]))

  own-from : (v : VarId) → v.0 < length infos → leads infos samples v ≡ true → leader_at leaders v.0 ≡ v.0
  own-from v l h =
      let g = long in
      let here : v.0 < length leaders = omega (arith, l, g) in
      let first = are.each v.0 here in
      let m : VarId = record { 0 = leader_at leaders v.0 } in
      let lm : m.0 < length infos = (let w = first.holds.within in let k = length-map infos (λ (i : VarInfo). i.kind) in omega (arith, w, k)) in
      let self : InClass (var_kinds infos) samples v.0 v.0 = record { within = (let k = length-map infos (λ (i : VarInfo). i.kind) in omega (arith, k, l)); kind = refl; agree = λ k d lt. refl } in
      let le = first.first v.0 self in
      elim (cases_lt m.0 v.0) as (λ _. leader_at leaders v.0 ≡ v.0) [
        | inl below ↦
            (let i = taken-in m v.0 0 (length infos) (omega (arith, below)) (omega arith) (omega (arith, lm)) in
            let some = some-of (λ w. agrees infos samples w v) m (take v.0 (all_vars infos)) i (agree-in v m l lm first.holds) in
            absurd (false≢true (sym (not-true (list_any (λ w. agrees infos samples w v) (take v.0 (all_vars infos))) h) ∙ some)))
        | inr above ↦ omega (arith, le, above)
      ]

  pub leaders_are : own_leaders leaders ≡ own_leaders_in infos samples
  leaders_are =
      same_members Before one_way (own_leaders leaders) (own_leaders_in infos samples) (own_ascend leaders)
      (pairs Before (own_leaders_in infos samples) (kept Before (leads infos samples) (all_vars infos) (along Before (λ n. record { 0 = n }) (range_with_len 0 (length infos)) (numbers 0 (length infos)))))
      (λ v c.
      let own = leads_from_own leaders v c in
      let within = own.0 in
      let l : v.0 < length infos = (let g = long in omega (arith, within, g)) in
      contained v (own_leaders_in infos samples) (in_filter (leads infos samples) v (all_vars infos) (all-in infos v l) (leads-from v l own.1)))
      (λ v c.
      let i = of_filter (leads infos samples) v (all_vars infos) (is_in v (own_leaders_in infos samples) c.0 c.1 c.2) in
      let l = in-all infos v i.0 in
      own_from_leads leaders v (let g = long in omega (arith, l, g)) (own-from v l i.1))
