-- The patterns of both lists, over the joined leaders.
use Rattle.std.specs.Prelude.{◌≡◌, ◌+◌, ◌&&◌, ℕ, suc, All, Contains, List, [], ◌∷◌, ◌++◌, count_by, refl}
use Rattle.std.proofs.Common.{ap, ◌∙◌, arith, cond, get_or, sym}
use Rattle.std.proofs.lemmas.List.{map-append}
use Rattle.std.proofs.lemmas.List.Sums.{sum_by-append, sum_by-cons}
use Rattle.dk_base.specs.declared.kinds.VarId.{VarId}
use Rattle.dk_base.specs.declared.values.Value.{Value}
use Rattle.dk_classes.specs.Leaders.{own_leaders}
use Rattle.dk_engine.specs.Exact.{ArePatterns}
use Rattle.dk_engine.specs.Reading.Parts.{leader_of}
use Rattle.dk_engine.specs.declared.kept.Kept.{Kept}
use Rattle.dk_presence.proofs.Refining.{has-contains}
use Rattle.dk_presence.proofs.Sameness.{same_vars-sym}
use Rattle.dk_presence.proofs.Sums.{counted_all, has-filter}
use Rattle.dk_presence.specs.Patterns.{capped, has, patterns_of, present_in, same_vars, times}
use Rattle.dk_presence.specs.declared.held.Held.{Held}
use Rattle.dk_samples.specs.Samples.{Agree, is_present, value_in}
use Rattle.dk_join.proofs.Lists.{filter_alike}
use Rattle.dk_join.specs.Joined.{AreJoinedPatterns, present_with, times_present}

-- ---- one list
module _ (own led : List VarId) (old : List VarId) (leads : All (λ v. Contains own (leader_of old v)) led) where
  -- leaders are present in a sample where their old leaders are
  present_now : (s : List Value) → All (λ v. value_in s (leader_of old v) ≡ value_in s v) led → present_in led s ≡ present_with old led (present_in own s)
  present_now s agree =
      filter_alike (λ v. is_present (value_in s v)) (λ v. has (present_in own s) (leader_of old v)) led
      (λ k d l.
      let v = get_or led k d in
      sym (has-filter (λ u. is_present (value_in s u)) own (leader_of old v)
      ∙ (ap (λ b. b && is_present (value_in s (leader_of old v))) (has-contains own (leader_of old v) (leads k d l)) ∙ ap is_present (agree k d l))))

  counted_now : (p : List VarId) (samples : List (List Value)) → All (λ v. Agree samples (leader_of old v) v) led
      → count_by (λ q. same_vars (present_with old led q) p) (patterns_of own samples) ≡ times p (patterns_of led samples)
  counted_now p [] agree = refl
  counted_now p (s ∷ samples) agree =
      let left = sum_by-cons {X = List VarId} (λ q. cond {A = ℕ} (same_vars (present_with old led q) p) 1 0) (present_in own s) (patterns_of own samples) in
      let right = sum_by-cons {X = List VarId} (λ q. cond {A = ℕ} (same_vars p q) 1 0) (present_in led s) (patterns_of led samples) in
      let now = present_now s (λ k d l. agree k d l 0 s (omega arith)) in
      let here = ap {B = ℕ} (λ b. cond b 1 0) (ap (λ x. same_vars x p) (sym now) ∙ same_vars-sym (present_in led s) p) in
      let rest = counted_now p samples (λ k d l i e m. agree k d l (suc i) e (omega (arith, m))) in
      omega (arith, left, right, here, rest)

  times_now : (samples : List (List Value)) → All (λ v. Agree samples (leader_of old v) v) led → (held : List Held) → ArePatterns own samples held → (p : List VarId)
      → capped (times_present old led held p) ≡ capped (times p (patterns_of led samples))
  times_now samples agree held are p =
      counted_all (λ q. same_vars (present_with old led q) p) (patterns_of own samples) held are.form are.counted ∙ ap capped (counted_now p samples agree)

-- ---- both
pub patterns_of_both : (samples others : List (List Value)) (first second : Kept) (led : List VarId)
    → All (λ v. Contains (own_leaders first.leaders) (leader_of first.leaders v)) led → All (λ v. Contains (own_leaders second.leaders) (leader_of second.leaders v)) led
    → All (λ v. Agree samples (leader_of first.leaders v) v) led → All (λ v. Agree others (leader_of second.leaders v) v) led
    → ArePatterns (own_leaders first.leaders) samples first.held → ArePatterns (own_leaders second.leaders) others second.held
    → (held : List Held) → AreJoinedPatterns first second led held → ArePatterns led (samples ++ others) held
patterns_of_both samples others first second led leads also_leads agree also_agree are also held joined = record {
  form = joined.form;
  counted = λ p.
      let one = times_now (own_leaders first.leaders) led first.leaders leads samples agree first.held are p in
      let other = times_now (own_leaders second.leaders) led second.leaders also_leads others also_agree second.held also p in
      let all = ap (times p) (map-append (present_in led) samples others) ∙ sum_by-append (λ (q : List VarId). cond {A = ℕ} (same_vars p q) 1 0) (patterns_of led samples) (patterns_of led others) in
      joined.counted p
      ∙ (sums (times_present first.leaders led first.held p) (times_present second.leaders led second.held p) (times p (patterns_of led samples)) (times p (patterns_of led others)) one other
      ∙ sym (ap capped all));
}
  where
    sums : (a b c d : ℕ) → capped a ≡ capped c → capped b ≡ capped d → capped (a + b) ≡ capped (c + d)
    sums a b c d e f = omega (arith, e, f)
