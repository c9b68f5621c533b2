-- What a sample leaves of leaders and constants.
use Rattle.std.specs.Prelude.{◌≡◌, ◌≢◌, ◌<◌, ◌||◌, ◌==◌, ℕ, Bool, true, false, All, Contains, List, [], ◌∷◌, ◌++◌, Option, Some, None, is_some, length, refl}
use Rattle.std.specs.List.{list_all, list_any}
use Rattle.std.proofs.Common.{ap, arith, get_or, inl, inr, sym, ◌∙◌}
use Rattle.std.proofs.lemmas.Bool.{and_from, and_parts, cases_Bool, cases_eq, eq-eqb, false≢true, or_from, or_parts, true≢false}
use Rattle.std.proofs.lemmas.List.Elements.{All-cons, All-head, All-contains, All-nil, All-tail, Contains-append_left, Contains-get_or, Contains-push}
use Rattle.std.proofs.lemmas.List.Folds.{list_any_at, list_any_none}
use Rattle.dk_base.specs.declared.kinds.VarId.{VarId}
use Rattle.dk_base.specs.declared.kinds.VarInfo.{VarInfo}
use Rattle.dk_base.specs.declared.values.Value.{Value}
use Rattle.dk_classes.proofs.Firsts.{one_first}
use Rattle.dk_classes.proofs.OwnLeaders.{leads_from_own, own_from_leads}
use Rattle.dk_classes.specs.Classes.{InClass, var_kinds}
use Rattle.dk_classes.specs.Leaders.{leader_at, own_leaders, var}
use Rattle.dk_constants.proofs.Feeding.{has_front, has_push}
use Rattle.dk_constants.specs.Constants.{AreConstants}
use Rattle.dk_constants.specs.Known.{known_at}
use Rattle.dk_instances.specs.Fits.{fit, tuple_in}
use Rattle.dk_samples.specs.Samples.{value_in}
use Rattle.dk_template.specs.Templates.{IsRow}
use Rattle.dk_template.specs.declared.grammar.Grammar.{Grammar}
use Rattle.dk_template.specs.declared.grammar.RowId.{RowId}
use Rattle.dk_engine.proofs.Pushing.{seen_changes_nothing}
use Rattle.dk_engine.specs.Exact.{Lead}
use Rattle.dk_engine.specs.Reading.Parts.{all_known}
use Rattle.dk_engine.specs.declared.kept.Kept.{Kept}
use Rattle.dk_engine.specs.Feeding.Step.{IsStep, is_new, is_touched}
use Rattle.dk_engine.specs.declared.feed.now.Now.{Now}

-- ---- lists
pub all_front : {X : Type 0} (P : X → Type 0) (xs : List X) (x : X) → All P (xs ++ x ∷ []) → All P xs
all_front P [] x h = All-nil P
all_front P (y ∷ xs) x h = All-cons P y xs (All-head P y (xs ++ x ∷ []) h) (all_front P xs x (All-tail P y (xs ++ x ∷ []) h))

pub all_of_both : {X : Type 0} (P Q R : X → Type 0) → ((x : X) → P x → Q x → R x) → (xs : List X) → All P xs → All Q xs → All R xs
all_of_both P Q R f xs p q k d l = f (get_or xs k d) (p k d l) (q k d l)

pub none_passes : {X : Type 0} (test : X → Bool) (xs : List X) → list_any test xs ≡ false → All (λ x. test x ≡ false) xs
none_passes test [] h = All-nil (λ x. test x ≡ false)
none_passes test (x ∷ xs) h = let hs = or_parts (test x) (list_any test xs) h in All-cons (λ y. test y ≡ false) x xs hs.0 (none_passes test xs hs.1)

-- a test that passes where another does
pub all_pass_too : {X : Type 0} (p q : X → Bool) (xs : List X) → All (λ x. p x ≡ true → q x ≡ true) xs → list_all p xs ≡ true → list_all q xs ≡ true
all_pass_too p q [] h e = refl
all_pass_too p q (x ∷ xs) h e =
    let es = and_parts (p x) (list_all p xs) e in
    let R : _ → Type 0 = λ y. p y ≡ true → q y ≡ true in
    and_from (q x) (list_all q xs) (All-head R x xs h es.0) (all_pass_too p q xs (All-tail R x xs h) es.1)

some_value : {A : Type 0} (o : Option A) → is_some o ≡ true → (x : A) × (o ≡ Some x)
some_value None h = absurd (false≢true h)
some_value (Some x) h = (x, refl)

-- ---- a variable that touches no tuple
-- neither a new leader nor an ended constant
abbrev pub IsOld : Now → VarId → Type 0
IsOld now v = (is_new now.new v ≡ false) × (is_some (known_at now.ended v) ≡ false)

pub old_each : (now : Now) (vars : List VarId) → is_touched now vars ≡ false → All (IsOld now) vars
old_each now vars h k d l = or_parts (is_new now.new (get_or vars k d)) (is_some (known_at now.ended (get_or vars k d))) (none_passes (λ v. is_new now.new v || is_some (known_at now.ended v)) vars h k d l)

pub untouched_by_old : (now : Now) (vars : List VarId) → All (IsOld now) vars → is_touched now vars ≡ false
untouched_by_old now vars old = list_any_none (λ v. is_new now.new v || is_some (known_at now.ended v)) vars (λ k d l.
    or_from (is_new now.new (get_or vars k d)) (is_some (known_at now.ended (get_or vars k d))) (old k d l).0 (old k d l).1)

module _ {grammar : Grammar} {infos : List VarInfo} {samples : List (List Value)} {sample : List Value} {kept : Kept} {now : Now} (step : IsStep grammar infos samples sample kept now) where
  -- ---- leaders
  -- a leader goes on leading
  pub leads_on : (v : VarId) → Contains (own_leaders kept.leaders) v → Contains (own_leaders now.leaders) v
  leads_on v leads =
      let own = leads_from_own kept.leaders v leads in
      let l : v.0 < length now.leaders = omega (arith, own.0, step.before.leaders.long, step.after.leaders.long) in
      let was = (step.before.leaders.each v.0 own.0).first in
      let Now : ℕ → Type 0 = InClass (var_kinds infos) (samples ++ sample ∷ []) v.0 in
      own_from_leads now.leaders v l (one_first Now (leader_at now.leaders v.0) v.0 (step.after.leaders.each v.0 l) (record {
        holds = record { within = omega (arith, l, step.after.leaders.long); kind = refl; agree = λ k d m. refl };
        first = λ m c.
            let low = was m (record { within = c.within; kind = c.kind; agree = all_front (λ s. value_in s (var m) ≡ value_in s v) samples sample c.agree }) in
            omega (arith, low, own.1);
      }))

  -- a leader that isn't new led before
  pub led_before : (v : VarId) → Contains (own_leaders now.leaders) v → is_new now.new v ≡ false → Contains (own_leaders kept.leaders) v
  led_before v leads old =
      let own = leads_from_own now.leaders v leads in
      let l : v.0 < length kept.leaders = omega (arith, own.0, step.before.leaders.long, step.after.leaders.long) in
      elim (cases_eq (leader_at kept.leaders v.0) v.0) [
        | inl e ↦ own_from_leads kept.leaders v l e
        | inr apart ↦
            let there = (step.after.new.each v (var (leader_at kept.leaders v.0))).1 (own.0, own.1, apart, refl) in
            absurd (true≢false (sym (list_any_at (λ (n : VarId × VarId). n.0.0 == v.0) now.new there.0 _ there.1 (ap (λ (n : VarId × VarId). n.0.0 == v.0) there.2 ∙ eq-eqb v.0 v.0 refl)) ∙ old))
      ]

  -- ---- constants
  constants : AreConstants (own_leaders kept.leaders) samples kept.known
  constants = step.before.known

  -- an old leader that is constant now was so before
  pub known_before : (v : VarId) → Contains (own_leaders kept.leaders) v → is_some (known_at now.known v) ≡ true → is_some (known_at kept.known v) ≡ true
  known_before v leads h =
      let found = some_value (known_at now.known v) h in
      let has = ((step.after.known.each v found.0).0 found.1).1 in
      ap is_some ((constants.each v found.0).1 (leads, (has_front samples sample v found.0 step.some has).0))

  -- a constant that hasn't ended is one now
  pub known_still : (v : VarId) → is_some (known_at now.ended v) ≡ false → is_some (known_at kept.known v) ≡ true → is_some (known_at now.known v) ≡ true
  known_still v lasts h =
      let found = some_value (known_at kept.known v) h in
      let has = (constants.each v found.0).0 found.1 in
      let leads = leads_on v has.0 in
      elim (cases_Bool (is_some (known_at now.known v))) [
        | inl e ↦ e
        | inr n ↦
            let differs : value_in sample v ≢ found.0 = λ e.
            true≢false (sym (ap is_some ((step.after.known.each v found.0).1 (leads, has_push samples sample v found.0 has.1 e))) ∙ n) in
            absurd (true≢false (sym (ap is_some ((step.after.ended.each v found.0).1 (leads, has.1, differs))) ∙ lasts))
      ]

  pub all_known_before : (vars : List VarId) → Lead kept.leaders vars → all_known now.known vars ≡ true → all_known kept.known vars ≡ true
  all_known_before vars lead h =
      all_pass_too (λ v. is_some (known_at now.known v)) (λ v. is_some (known_at kept.known v)) vars (λ k d l. known_before (get_or vars k d) (lead k d l)) h

  pub all_known_still : (vars : List VarId) → All (λ v. is_some (known_at now.ended v) ≡ false) vars → all_known kept.known vars ≡ true → all_known now.known vars ≡ true
  all_known_still vars last h =
      all_pass_too (λ v. is_some (known_at kept.known v)) (λ v. is_some (known_at now.known v)) vars (λ k d l. known_still (get_or vars k d) (last k d l)) h

  -- constants have had the sample's values before, so they say the same
  pub constants_say_the_same : (row : RowId) → IsRow row → (vars : List VarId) → all_known now.known vars ≡ true → fit row vars (samples ++ sample ∷ []) ≡ fit row vars samples
  constants_say_the_same row is vars h =
      let first = get_or samples 0 sample in
      seen_changes_nothing row is vars samples sample first (Contains-get_or samples 0 sample step.some) (alike first (first_there samples step.some) vars h)
    where
      first_there : (ss : List (List Value)) → 0 < length ss → Contains (ss ++ sample ∷ []) (get_or ss 0 sample)
      first_there ss l = Contains-append_left ss (sample ∷ []) (get_or ss 0 sample) (Contains-get_or ss 0 sample l)

      alike : (old : List Value) → Contains (samples ++ sample ∷ []) old → (vs : List VarId) → all_known now.known vs ≡ true → tuple_in vs old ≡ tuple_in vs sample
      alike old there [] e = refl
      alike old there (v ∷ vs) e =
          let es = and_parts (is_some (known_at now.known v)) (all_known now.known vs) e in
          let found = some_value (known_at now.known v) es.0 in
          let has = ((step.after.known.each v found.0).0 found.1).1.each in
          let Is : List Value → Type 0 = λ s. value_in s v ≡ found.0 in
          let same : value_in old v ≡ value_in sample v = All-contains Is (samples ++ sample ∷ []) old has there ∙ sym (All-contains Is (samples ++ sample ∷ []) sample has (Contains-push samples sample)) in
          ap (λ x. x ∷ tuple_in vs old) same ∙ ap (λ t. value_in sample v ∷ t) (alike old there vs es.1)

  -- ---- tuples that aren't touched
  pub lead_before : (vars : List VarId) → Lead now.leaders vars → All (IsOld now) vars → Lead kept.leaders vars
  lead_before vars lead old k d l = led_before (get_or vars k d) (lead k d l) (old k d l).0
