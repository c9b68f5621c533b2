-- A row of three leaders is Broken where by what is kept the first may stand beside neither of the others.
use Rattle.std.specs.Prelude.{◌≡◌, ◌<◌, ◌&&◌, ◌||◌, ◌==◌, ℕ, zero, suc, Bool, true, false, not, Contains, List, [], ◌∷◌, Option, Some, None, cond, if◌then◌else◌, is_some, length, map, nat_lt, refl, take}
use Rattle.std.specs.List.{list_all, list_any}
use Rattle.std.proofs.Common.{◌∙◌, ap, inl, inr, subst, sym}
use Rattle.std.proofs.lemmas.Bool.{and_from, and_parts, and_right, cases_Bool, eq-eqb, eqb-true, false_from_ne_true, false≢true, or_left, or_right, true≢false}
use Rattle.std.proofs.lemmas.List.{length-map}
use Rattle.dk_base.specs.declared.kinds.VarId.{VarId}
use Rattle.dk_constants.specs.Known.{Entries, known_at}
use Rattle.dk_engine.proofs.SlotLookups.{slot_found}
use Rattle.dk_engine.specs.Reading.{read_leaders, read_slot, state_of_one}
use Rattle.dk_engine.specs.Reading.Parts.{all_known, known_tuple, slot_at}
use Rattle.dk_engine.specs.declared.kept.Kept.{Kept}
use Rattle.dk_engine.specs.declared.slots.slot.Slot.{Slot}
use Rattle.dk_forms.proofs.Summaries.{IsIn-append_left, IsIn-append_right}
use Rattle.dk_forms.specs.Laws.{IsIn}
use Rattle.dk_forms.specs.declared.states.State.{State}
use Rattle.dk_forms.specs.declared.states.State.TheVariants.{Broken}
use Rattle.dk_instances.proofs.Members.{in_filter, in_flat, is_in}
use Rattle.dk_presence.specs.Patterns.{counted_by, has}
use Rattle.dk_suppress.specs.Rules.{Rule, is_suppressed, rules}
use Rattle.dk_template.specs.Exchange.{arrange_tuple, descends, disarrange_state, exchanged_back, exchanged_state, order_tuple, turned_state, written_order}
use Rattle.dk_template.specs.Premises.{at_role, premise_fits, roles_read, row_of, suffices, vars_of}
use Rattle.dk_template.specs.Templates.{arity_of, template_of}
use Rattle.dk_template.specs.declared.answers.Premise.{Premise}
use Rattle.dk_template.specs.declared.answers.Premise.TheVariants.{Holds, LeastAtLeast, GreatestAtMost, Only}
use Rattle.dk_template.specs.declared.exchange.Exchange.{Exchange}
use Rattle.dk_template.specs.declared.exchange.Exchange.TheVariants.{First, Last}
use Rattle.dk_template.specs.declared.grammar.RowId.{RowId}
use Rattle.dk_template.specs.declared.templates.Symmetry.{Symmetry}
use Rattle.dk_template.specs.declared.templates.Symmetry.TheVariants as symmetry
use Rattle.dk_join.proofs.Lists.{all_at, any_at, any_found, taken_in}
use Rattle.dk_join.proofs.Lone.{Lone, Place, arranged_lone, arranged_long, first_place, first_role, lone_cases, lone_has, picked_lone, place_of}
use Rattle.dk_join.proofs.Rules.{all_read_each, each_is_read, first_is_watched, is_within, of_rule, read_each, reads, rule_is_led, rules_read_each, stays_first}
use Rattle.dk_join.specs.Beside.{is_alone, is_at_hand, is_relation, may_meet, slots_around, slots_at_hand}
use Rattle.dk_join.specs.Watched.{premises_below, premises_of, watched, with_below}

-- ---- premises
pub broken_never : (p : Premise) → suffices p Broken ≡ false
broken_never (Holds row roles) = refl
broken_never (LeastAtLeast row role k) = refl
broken_never (GreatestAtMost row role k) = refl
broken_never (Only role k) = refl

by_role : (p : Premise) (vars : List VarId) → vars_of p vars ≡ map (λ role. at_role role vars) (roles_read p)
by_role (Holds row roles) vars = refl
by_role (LeastAtLeast row role k) vars = refl
by_role (GreatestAtMost row role k) vars = refl
by_role (Only role k) vars = refl

-- ---- states of tuples in another order
-- one variable has one order
one_back : (y : Symmetry) (v : VarId) (s : State) → disarrange_state y (v ∷ []) s ≡ s
one_back symmetry.Fixed v s = refl
one_back symmetry.All v s = refl
one_back symmetry.Arguments v s = refl

broken_exchanged : (e : Exchange) → exchanged_state e Broken ≡ Broken
broken_exchanged First = refl
broken_exchanged Last = refl

broken_back : (e : Exchange) (vars : List VarId) → exchanged_back e vars Broken ≡ Broken
broken_back e vars = elim (descends e vars) as (λ b. (if b then exchanged_state e Broken else Broken) ≡ Broken) [ true ↦ broken_exchanged e | false ↦ refl ]

broken_disarranged : (y : Symmetry) (vars : List VarId) → disarrange_state y vars Broken ≡ Broken
broken_disarranged symmetry.Fixed vars = refl
broken_disarranged symmetry.All vars =
    let one = order_tuple Last vars in
    ap (λ t. exchanged_back Last vars (exchanged_back First one t)) (broken_back Last (order_tuple First one)) ∙ (ap (exchanged_back Last vars) (broken_back First one) ∙ broken_back Last vars)
broken_disarranged symmetry.Arguments vars = broken_back Last vars

-- a state that suffices in some order may be met in written order
meets : (p : Premise) (vars : List VarId) (s : State) → suffices p (turned_state (row_of p) (vars_of p vars) s) ≡ true → (is_relation p || suffices p s) ≡ true
meets (Holds row roles) vars s h = refl
meets (LeastAtLeast row role k) vars s h = sym (ap (suffices (LeastAtLeast row role k)) (one_back (template_of row).symmetry (at_role role vars) s)) ∙ h
meets (GreatestAtMost row role k) vars s h = sym (ap (suffices (GreatestAtMost row role k)) (one_back (template_of row).symmetry (at_role role vars) s)) ∙ h
meets (Only role k) vars s h = sym (ap (suffices (Only role k)) (one_back (template_of (row_of (Only role k))).symmetry (at_role role vars) s)) ∙ h

-- ---- one level
-- a list with a leader that isn't constant
varies_with : (known : Entries) (a : VarId) → is_some (known_at known a) ≡ false → (vars : List VarId) → has vars a ≡ true → all_known known vars ≡ false
varies_with known a unknown [] h = absurd (false≢true h)
varies_with known a unknown (w ∷ vars) h = elim (cases_Bool (w.0 == a.0)) as (λ _. all_known known (w ∷ vars) ≡ false) [
  | inl here ↦
      (let same : w ≡ a = ap (λ n. record { 0 = n }) (eqb-true w.0 a.0 here) in
      ap (λ b. b && all_known known vars) (ap (λ (u : VarId). is_some (known_at known u)) same ∙ unknown))
  | inr there ↦ and_right (is_some (known_at known w)) (all_known known vars) (varies_with known a unknown vars (sym (ap (λ b. b || has vars a) there) ∙ h))
]

module _ (kept : Kept) where
  read_zero : (r : RowId) (vars : List VarId) → read_leaders zero kept r vars ≡ Broken
  unfolding read_leaders
  read_zero r vars = refl

  -- leaders that aren't all constant
  abbrev read_by : RowId → List VarId → Option State → Bool → State
  read_by r vars o b = turned_state r vars (read_slot o b (counted_by kept.held (written_order r vars)))

  read_level : (n : ℕ) (r : RowId) (vars : List VarId) → all_known kept.known (written_order r vars) ≡ false
      → read_leaders (suc n) kept r vars ≡ read_by r vars (slot_at kept.slots r (written_order r vars)) (is_suppressed (read_leaders n kept) r (written_order r vars))
  unfolding read_leaders
  read_level n r vars varies =
      let own = written_order r vars in
      ap (λ b. turned_state r vars (if b then state_of_one r (known_tuple kept.known own) else read_slot (slot_at kept.slots r own) (is_suppressed (read_leaders n kept) r own) (counted_by kept.held own))) varies

  -- ---- around a leader
  module _ (row : RowId) (a : VarId) (unknown : is_some (known_at kept.known a) ≡ false) (alone : list_any is_alone (slots_around row kept.slots a) ≡ false) where
    abbrev around : List Slot
    around = slots_around row kept.slots a

    -- no slot around it is over both
    abbrev pub Apart : VarId → Type 0
    Apart z = list_any (λ slot. has slot.leaders z) around ≡ false

    abbrev IsLone : List VarId → Type 0
    IsLone vars = Lone a Apart vars

    -- a tuple of it and others that are apart has no slot at hand
    no_slot : (slot : Slot) → Contains kept.slots slot → is_at_hand row (watched row) slot ≡ true → IsLone slot.leaders → ⊥
    no_slot slot there hand lone =
        let first = in_filter (is_at_hand row (watched row)) slot kept.slots (is_in slot kept.slots there.0 there.1 there.2) hand in
        let second : IsIn slot around = in_filter (λ (s : Slot). has s.leaders a) slot (slots_at_hand row kept.slots) first (lone_has a Apart slot.leaders lone) in
        elim (lone_cases a Apart slot.leaders lone) as (λ _. ⊥) [
          | inl one ↦ true≢false (sym (any_at is_alone slot around second one) ∙ alone)
          | inr other ↦ true≢false (sym (any_at (λ (s : Slot). has s.leaders other.0) slot around second other.2) ∙ other.1)
        ]

    lone_written : (r : RowId) (vars : List VarId) → IsLone vars → IsLone (written_order r vars)
    lone_written r vars h = arranged_lone a Apart (template_of r).symmetry vars h

    varies : (vars : List VarId) → IsLone vars → all_known kept.known vars ≡ false
    varies vars h = varies_with kept.known a unknown vars (lone_has a Apart vars h)

    -- ---- a watched premise isn't met
    -- what a premise asks about, of which one variable is it
    asks_lone : (count : ℕ) (p : Premise) → is_within count p ≡ true → (vars : List VarId) → length vars ≡ count → (place : Place a Apart vars) → reads place.role p ≡ true → IsLone (vars_of p vars)
    asks_lone count p within vars long place read =
        let h = and_parts (list_all (λ role. nat_lt role count) (roles_read p)) _ within in
        subst IsLone (sym (by_role p vars))
        (picked_lone a Apart vars place (roles_read p) (ap (λ n. list_all (λ role. nat_lt role n) (roles_read p)) long ∙ h.0) h.1 read)

    -- it isn't met at a level
    abbrev AreUnmet : ℕ → List Premise → Type 0
    AreUnmet n premises = (p : Premise) → IsIn p premises → (vars : List VarId) → IsLone (vars_of p vars) → premise_fits (read_leaders n kept) p vars ≡ false

    abbrev AreWatched : ℕ → List Premise → Type 0
    AreWatched n premises = (q : Premise) → IsIn q (with_below n premises) → IsIn q (watched row)

    met_by : (p : Premise) (vars : List VarId) (s : State) → suffices p (turned_state (row_of p) (vars_of p vars) s) ≡ true
        → may_meet p (record { row = row_of p; leaders = written_order (row_of p) (vars_of p vars); state = s }) ≡ true
    unfolding may_meet
    met_by p vars s h = and_from ((row_of p).0 == (row_of p).0) (is_relation p || suffices p s) (eq-eqb (row_of p).0 (row_of p).0 refl) (meets p vars s h)

    unmet_slot : (p : Premise) → IsIn p (watched row) → (vars : List VarId) → IsLone (vars_of p vars) → (s : State) → slot_at kept.slots (row_of p) (written_order (row_of p) (vars_of p vars)) ≡ Some s
        → suffices p (turned_state (row_of p) (vars_of p vars) s) ≡ false
    unmet_slot p i vars lone s found =
        let r = row_of p in
        let own = written_order r (vars_of p vars) in
        let slot : Slot = record { row = r; leaders = own; state = s } in
        false_from_ne_true (suffices p (turned_state r (vars_of p vars) s)) (λ h.
        let met : may_meet p slot ≡ true = met_by p vars s h in
        no_slot slot (slot_found kept.slots r own s found) (or_right (r.0 == row.0) (list_any (λ q. may_meet q slot) (watched row)) (any_at (λ q. may_meet q slot) p (watched row) i met)) (lone_written r (vars_of p vars) lone))

    -- a row of premises isn't suppressed where none of those below is met
    unruled : (n : ℕ) (premises : List Premise) → AreUnmet n (premises_below premises) → (p : Premise) → IsIn p premises → rules_read_each (length (roles_read p)) (row_of p) ≡ true
        → (vars : List VarId) → IsLone (vars_of p vars) → is_suppressed (read_leaders n kept) (row_of p) (written_order (row_of p) (vars_of p vars)) ≡ false
    unruled n premises below p i each vars lone =
        let lower = read_leaders n kept in
        let r = row_of p in
        let asked = vars_of p vars in
        let own = written_order r asked in
        let count = length (roles_read p) in
        let long : length own ≡ count = arranged_long (template_of r).symmetry asked ∙ (ap length (by_role p vars) ∙ length-map (roles_read p) (λ role. at_role role vars)) in
        let place = place_of a Apart own (lone_written r asked lone) in
        false_from_ne_true (is_suppressed lower r own) (λ h.
        let found = any_found (λ (s : Rule). s.0.0 == r.0 && list_all (λ q. premise_fits lower q own) s.1) rules h in
        let rule : Rule = found.0 in
        let parts = and_parts (rule.0.0 == r.0) (list_all (λ q. premise_fits lower q own) rule.1) found.2 in
        let read_all = all_at (λ (s : Rule). not (s.0.0 == r.0) || (list_all (is_within count) s.1 && read_each count s.1)) rule rules found.1 each in
        let read = and_parts (list_all (is_within count) rule.1) (read_each count rule.1) (sym (ap (λ b. not b || (list_all (is_within count) rule.1 && read_each count rule.1)) parts.0) ∙ read_all) in
        let key = any_found (reads place.role) rule.1 (each_is_read count place.role rule.1 read.1 (subst (λ m. place.role < m) long place.within)) in
        let q : Premise = key.0 in
        let unmet : premise_fits lower q own ≡ false =
        below q (in_flat (λ (s : Premise). premises_of (row_of s)) q p premises (of_rule r rule found.1 parts.0 q key.1) i) own
        (asks_lone count q (all_at (is_within count) q rule.1 key.1 read.0) own long place key.2) in
        true≢false (sym (all_at (λ s. premise_fits lower s own) q rule.1 key.1 parts.1) ∙ unmet))

    by_level : (n : ℕ) (p : Premise) → IsIn p (watched row) → (vars : List VarId) → IsLone (vars_of p vars) → is_suppressed (read_leaders n kept) (row_of p) (written_order (row_of p) (vars_of p vars)) ≡ false
        → premise_fits (read_leaders (suc n) kept) p vars ≡ false
    by_level n p i vars lone free =
        let r = row_of p in
        let asked = vars_of p vars in
        let own = written_order r asked in
        let Unmet : Option State → Bool → Type 0 = λ o b. suffices p (read_by r asked o b) ≡ false in
        ap (suffices p) (read_level n r asked (varies own (lone_written r asked lone)))
        ∙ subst (λ b. Unmet (slot_at kept.slots r own) b) (sym free)
        (elim (slot_at kept.slots r own) as (λ o. slot_at kept.slots r own ≡ o → Unmet o false) [
          | None ↦ λ e. ap (suffices p) (broken_disarranged (template_of r).symmetry asked) ∙ broken_never p
          | Some s ↦ λ e. unmet_slot p i vars lone s e
        ] refl)

    are_unmet : (n : ℕ) (premises : List Premise) → all_read_each n premises ≡ true → AreWatched n premises → AreUnmet n premises
    are_unmet zero premises each are p i vars lone = ap (suffices p) (read_zero (row_of p) (vars_of p vars)) ∙ broken_never p
    are_unmet (suc n) premises each are p i vars lone =
        let h = and_parts (list_all (λ q. rules_read_each (length (roles_read q)) (row_of q)) premises) (all_read_each n (premises_below premises)) each in
        by_level n p (are p (IsIn-append_left p premises (with_below n (premises_below premises)) i)) vars lone
        (unruled n premises (are_unmet n (premises_below premises) h.1 (λ q j. are q (IsIn-append_right q premises (with_below n (premises_below premises)) j)))
        p i (all_at (λ q. rules_read_each (length (roles_read q)) (row_of q)) p premises i h.0) vars lone)

    -- ---- a row of three
    module _ (three : arity_of row ≡ 3) (b c : VarId) (apart : Apart b) (also : Apart c) where
      -- it stands first in written order, if the row's first role isn't exchanged
      stands_first : (y : Symmetry) → stays_first y ≡ true → (p : Place a Apart (arrange_tuple y (a ∷ b ∷ c ∷ []))) × (p.role ≡ 0)
      stands_first symmetry.Fixed h = (first_place a Apart (b ∷ c ∷ []) (apart, (also, tt)), first_role a Apart (b ∷ c ∷ []) (apart, (also, tt)))
      stands_first symmetry.All h = absurd (false≢true h)
      stands_first symmetry.Arguments h =
          elim (descends Last (a ∷ b ∷ c ∷ [])) as (λ d. (p : Place a Apart (cond d (a ∷ c ∷ b ∷ []) (a ∷ b ∷ c ∷ []))) × (p.role ≡ 0)) [
            | true ↦ (first_place a Apart (c ∷ b ∷ []) (also, (apart, tt)), first_role a Apart (c ∷ b ∷ []) (also, (apart, tt)))
            | false ↦ (first_place a Apart (b ∷ c ∷ []) (apart, (also, tt)), first_role a Apart (b ∷ c ∷ []) (apart, (also, tt)))
          ]

      abbrev own : List VarId
      own = written_order row (a ∷ b ∷ c ∷ [])

      three_free : is_suppressed (read_leaders 3 kept) row own ≡ false
      three_free =
          let lower = read_leaders 3 kept in
          false_from_ne_true (is_suppressed lower row own) (λ h.
          let found = any_found (λ (s : Rule). s.0.0 == row.0 && list_all (λ q. premise_fits lower q own) s.1) rules h in
          let rule : Rule = found.0 in
          let parts = and_parts (rule.0.0 == row.0) (list_all (λ q. premise_fits lower q own) rule.1) found.2 in
          let same : rule.0 ≡ row = ap (λ n. record { 0 = n }) (eqb-true rule.0.0 row.0 parts.0) in
          let led = rule_is_led rule found.1 (ap (λ (r : RowId). arity_of r == 3) same ∙ eq-eqb (arity_of row) 3 three) in
          let first = and_parts (stays_first (template_of rule.0).symmetry) _ led in
          let second = and_parts (list_any (reads 0) (take 1 rule.1)) _ first.1 in
          let third = and_parts (list_all (is_within 3) (take 1 rule.1)) (all_read_each 3 (take 1 rule.1)) second.1 in
          let key = any_found (reads 0) (take 1 rule.1) second.0 in
          let q : Premise = key.0 in
          let place = stands_first (template_of row).symmetry (sym (ap (λ (r : RowId). stays_first (template_of r).symmetry) same) ∙ first.0) in
          let long : length own ≡ 3 = arranged_long (template_of row).symmetry (a ∷ b ∷ c ∷ []) in
          let lone : IsLone (vars_of q own) = asks_lone 3 q (all_at (is_within 3) q (take 1 rule.1) key.1 third.0) own long place.0 (ap (λ k. reads k q) place.1 ∙ key.2) in
          let unmet : premise_fits lower q own ≡ false = are_unmet 3 (take 1 rule.1) third.1 (first_is_watched row rule found.1 parts.0) q key.1 own lone in
          true≢false (sym (all_at (λ s. premise_fits lower s own) q rule.1 (taken_in q 1 rule.1 key.1) parts.1) ∙ unmet))

      lone_own : IsLone own
      lone_own = lone_written row (a ∷ b ∷ c ∷ []) (inl (refl, (apart, (also, tt))))

      no_own_slot : (s : State) → slot_at kept.slots row own ≡ Some s → ⊥
      no_own_slot s found =
          let slot : Slot = record { row = row; leaders = own; state = s } in
          no_slot slot (slot_found kept.slots row own s found) (or_left (row.0 == row.0) (list_any (λ q. may_meet q slot) (watched row)) (eq-eqb row.0 row.0 refl)) lone_own

      pub three_broken : read_leaders 4 kept row (a ∷ b ∷ c ∷ []) ≡ Broken
      three_broken =
          let vars = a ∷ b ∷ c ∷ [] in
          let IsBroken : Option State → Bool → Type 0 = λ o d. read_by row vars o d ≡ Broken in
          read_level 3 row vars (varies own lone_own)
          ∙ subst (λ d. IsBroken (slot_at kept.slots row own) d) (sym three_free)
          (elim (slot_at kept.slots row own) as (λ o. slot_at kept.slots row own ≡ o → IsBroken o false) [
            | None ↦ λ e. broken_disarranged (template_of row).symmetry vars
            | Some s ↦ λ e. absurd (no_own_slot s e)
          ] refl)
