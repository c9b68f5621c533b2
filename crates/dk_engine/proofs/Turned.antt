-- What one sample more makes of leaders, constants and patterns that can be fed, also where no samples give them.
use Rattle.std.specs.Prelude.{◌≡◌, ◌<◌, true, false, All, Contains, List, [], ◌∷◌, None, Some, if◌then◌else◌, length, map, nat_lt, refl}
use Rattle.std.proofs.Common.{◌∙◌, ap, arith, get_or, sym, inl, inr, subst}
use Rattle.std.proofs.lemmas.Bool.{cases_Bool, cases_lt}
use Rattle.std.proofs.lemmas.List.{get_or_past}
use Rattle.std.proofs.lemmas.List.Elements.{All-cons, All-contains, All-head, All-map, All-tail, Contains-get_or}
use Rattle.dk_base.specs.Values.Spelling.{IsWritten}
use Rattle.dk_base.specs.declared.kinds.VarId.{VarId}
use Rattle.dk_base.specs.declared.kinds.VarInfo.{VarInfo}
use Rattle.dk_base.specs.declared.values.Value.{Value}
use Rattle.dk_base.specs.declared.values.Value.TheVariants as value
use Rattle.dk_classes.proofs.Agreement.{classes_of_split, leads_now, still_leads}
use Rattle.dk_classes.proofs.OwnLeaders.{leads_from_own, own_ascend, own_from_leads}
use Rattle.dk_classes.specs.Classes.{AreNew, kind_at, var_kinds}
use Rattle.dk_classes.specs.Leaders.{leader_at, own_leaders}
use Rattle.dk_constants.proofs.Feeding.{constants_first}
use Rattle.dk_constants.specs.Known.{Entries, known_at}
use Rattle.dk_instances.specs.Laws.{IsSample}
use Rattle.dk_presence.proofs.Placing.{all_added}
use Rattle.dk_presence.proofs.Refining.{contains-has}
use Rattle.dk_presence.specs.Patterns.{has, present_in}
use Rattle.dk_presence.specs.Steps.{AreUnheld, Differ, put, refined, with_new, with_sample_of}
use Rattle.dk_presence.specs.declared.held.Held.{Held}
use Rattle.dk_samples.specs.Samples.{value_in}
use Rattle.dk_template.specs.declared.grammar.Grammar.{Grammar}
use Rattle.dk_engine.proofs.Meeting.{in_pattern, kind_of_value}
use Rattle.dk_engine.specs.Feeding.{IsTurned}
use Rattle.dk_engine.specs.Saved.Conditions.{AreLeadersOf, AreParts, CanBeFed, IsValueOf}
use Rattle.dk_engine.specs.declared.feed.now.Now.{Now}
use Rattle.dk_engine.specs.declared.kept.Kept.{Kept}

pub parts_can_be_fed : (grammar : Grammar) (infos : List VarInfo) (kept : Kept) → AreParts grammar infos kept → CanBeFed grammar infos kept
parts_can_be_fed grammar infos kept are = record {
  readable = are.readable;
  constants_lead = λ v x e. (are.constants v x e).leads;
  patterns_lead = are.patterns.lead;
  placed = λ k d l. let of = are.slots k d l in record { over = of.over; written = of.written };
  in_order = are.in_order;
  unbroken = λ k d l. (are.slots k d l).unbroken;
}

-- ---- new leaders
module _ (g : Grammar) (infos : List VarInfo) (kept : Kept) (can : CanBeFed g infos kept) (leaders : List VarId) (new : List (VarId × VarId)) (born : AreNew kept.leaders leaders new) where
  pub differ : Differ new
  differ i j d l m e = let up = born.ascend i j d l m in omega (arith, up, e)

  -- a new leader led no class before
  pub unled : (v w : VarId) → Contains new (v, w) → Contains (own_leaders kept.leaders) v → ⊥
  unled v w n h = ((born.each v w).0 n).2 (leads_from_own kept.leaders v h).1

  pub unheld : AreUnheld new kept.held
  unheld i d l j e m =
      let h = get_or kept.held i d in
      let n = get_or new j e in
      elim (cases_Bool (has h.leaders n.0)) [
        | inl there ↦ absurd (unled n.0 n.1 (Contains-get_or new j e m) (All-contains (Contains (own_leaders kept.leaders)) h.leaders n.0 (can.patterns_lead i d l) (contains-has h.leaders n.0 there)))
        | inr away ↦ away
      ]

  pub unknown : All (λ n. known_at kept.known n.0 ≡ None) new
  unknown j e m =
      let n = get_or new j e in
      elim (known_at kept.known n.0) as (λ o. known_at kept.known n.0 ≡ o → o ≡ None) [
        | None ↦ λ h. refl
        | Some x ↦ λ h. absurd (unled n.0 n.1 (Contains-get_or new j e m) (can.constants_lead n.0 x h))
      ] refl

  pub new_leads : (v w : VarId) → Contains new (v, w) → Contains (own_leaders leaders) v
  new_leads v w n = let told = (born.each v w).0 n in own_from_leads leaders v told.0 told.1

-- ---- patterns
-- a pattern with new leaders
put_all : (P : VarId → Type 0) (v : VarId) → P v → (vars : List VarId) → All P vars → All P (put v vars)
put_all P v p [] all = All-cons P v [] p all
put_all P v p (w ∷ vars) all = elim (nat_lt v.0 w.0) as (λ b. All P (if b then v ∷ w ∷ vars else w ∷ put v vars)) [
  | true ↦ All-cons P v (w ∷ vars) p all
  | false ↦ All-cons P w (put v vars) (All-head P w vars all) (put_all P v p vars (All-tail P w vars all))
]

with_new_all : (P : VarId → Type 0) (leaders : List VarId) (new : List (VarId × VarId)) → All (λ n. P n.0) new → (more : List VarId) → All P more → All P (with_new new leaders more)
with_new_all P leaders [] news more all = all
with_new_all P leaders (n ∷ new) news more all =
    let Q : VarId × VarId → Type 0 = λ m. P m.0 in
    with_new_all P leaders new (All-tail Q n new news) (if has leaders n.1 then put n.0 more else more)
    (elim (has leaders n.1) as (λ b. All P (if b then put n.0 more else more)) [ true ↦ put_all P n.0 (All-head Q n new news) more all | false ↦ all ])

-- ---- the parts
module _ (g : Grammar) (infos : List VarInfo) (kept : Kept) (can : CanBeFed g infos kept) (sample : List Value) (now : Now) (turned : IsTurned kept sample now) where
  abbrev old : List VarId
  old = own_leaders kept.leaders

  abbrev led : List VarId
  led = own_leaders now.leaders

  pub leaders_now : AreLeadersOf infos now.leaders
  leaders_now = record {
    long = turned.leaders.long ∙ can.readable.leaders.long;
    classes = classes_of_split kept.leaders sample now.leaders can.readable.leaders.classes turned.leaders;
    kinds = λ v l.
        let lv : v < length kept.leaders = let long = turned.leaders.long in omega arith in
        let like = (turned.leaders.each v lv).holds in
        let w = leader_at now.leaders v in
        sym (can.readable.leaders.kinds w like.within) ∙ (ap (kind_at (var_kinds infos)) like.class ∙ can.readable.leaders.kinds v lv);
  }

  pub still : (v : VarId) → Contains old v → Contains led v
  still v h =
      let leads = leads_from_own kept.leaders v h in
      own_from_leads now.leaders v (let long = turned.leaders.long in let l = leads.0 in omega arith)
      (still_leads kept.leaders sample now.leaders now.new can.readable.leaders.classes turned.leaders turned.born v.0 leads.0 leads.1)

  -- a constant leads, and the sample has its value
  known_leads : (v : VarId) (x : Value) → known_at now.known v ≡ Some x → Contains led v × (value_in sample v ≡ x)
  known_leads v x h = elim (cases_lt 0 kept.samples) [
    | inl some ↦
        let told = (turned.later some).stays v x h in
        (leads_now kept.leaders sample now.leaders now.new can.readable.leaders.classes turned.leaders turned.born v (can.constants_lead _ x told.0), told.1)
    | inr none ↦
        let first = turned.first (omega (arith, none)) in
        let told = ((constants_first led sample (own_ascend now.leaders)).each v x).0 (ap (λ (k : Entries). known_at k v) (sym first) ∙ h) in
        (told.0, told.1.each 0 [] (omega arith))
  ]

  pub values_now : IsSample infos sample → (v : VarId) (x : Value) → known_at now.known v ≡ Some x → IsValueOf infos v x
  values_now sampled v x h =
      let told = known_leads v x h in
      let within : v.0 < length infos = let l = (leads_from_own now.leaders v told.0).0 in let long = leaders_now.long in omega arith in
      subst (IsValueOf infos v) told.1 (record { kind = kind_of_value infos sample sampled.kinds v.0 within; written = written_value })
    where
      written_value : IsWritten (value_in sample v)
      written_value = elim (cases_lt v.0 (length sample)) [
        | inl l ↦ sampled.written v.0 value.Missing l
        | inr n ↦ subst IsWritten (sym (get_or_past sample v.0 value.Missing n)) tt
      ]

  pub constants_now_lead : (v : VarId) (x : Value) → known_at now.known v ≡ Some x → Contains led v
  constants_now_lead v x h = (known_leads v x h).0

  pub patterns_now_lead : All (λ h. All (Contains led) h.leaders) (with_sample_of (present_in led sample) (map (refined now.new) kept.held))
  patterns_now_lead =
      let P : Held → Type 0 = λ h. All (Contains led) h.leaders in
      all_added P (present_in led sample) (λ k d l. in_pattern led sample (get_or (present_in led sample) k d) (Contains-get_or (present_in led sample) k d l)) (λ h a. a) (map (refined now.new) kept.held)
      (All-map P (refined now.new) kept.held (λ i d l.
      let h = get_or kept.held i d in
      with_new_all (Contains led) h.leaders now.new (λ j e m. let n = get_or now.new j e in new_leads g infos kept can now.leaders now.new turned.born n.0 n.1 (Contains-get_or now.new j e m))
      h.leaders (λ j e m. still (get_or h.leaders j e) (can.patterns_lead i d l j e m))))
