-- Slots with all their changes.
use Rattle.std.specs.Prelude.{◌≡◌, ◌≢◌, ◌⊎◌, ◌<◌, ℕ, zero, suc, false, not, All, Contains, List, [], ◌∷◌, cond, filter, fold, length, map, refl}
use Rattle.std.specs.List.{list_any}
use Rattle.std.proofs.Common.{ap, ◌∙◌, arith, inl, inr, subst, sym}
use Rattle.std.proofs.lemmas.Bool.{cases_Bool, cases_eq}
use Rattle.std.proofs.lemmas.List.{ext_get_or, get_or-set_other, get_or-set_same, get_or_default, length-map, length-set}
use Rattle.std.proofs.lemmas.List.Elements.{All-contains, All-head, All-map, All-tail}
use Rattle.dk_forms.specs.declared.states.State.{State}
use Rattle.dk_forms.specs.declared.states.State.TheVariants.{Broken}
use Rattle.dk_engine.proofs.Readings.{broken_is}
use Rattle.dk_engine.proofs.Standing.{none_passes}
use Rattle.dk_engine.specs.Feeding.{is_broken}
use Rattle.dk_engine.specs.Feeding.Narrow.{AreChanges, IsChange, slots_left, with_change, with_state}
use Rattle.dk_engine.specs.Reading.Parts.{no_slot, slot_in}
use Rattle.dk_engine.specs.declared.feed.changes.Change.{Change}
use Rattle.dk_engine.specs.declared.slots.slot.Slot.{Slot}

pub changes_keep_length : (changes : List Change) (cur : List Slot) → length (fold with_change cur changes) ≡ length cur
changes_keep_length [] cur = refl
changes_keep_length (c ∷ changes) cur = changes_keep_length changes (with_change cur c) ∙ length-set cur c.place (with_state (slot_in cur c.place) c.state)

module _ (made : Slot → State) (slots : List Slot) where
  abbrev moved : Slot → Slot
  moved slot = with_state slot (made slot)

  -- the slots, some of them with the states that are made of them
  record Between (cur : List Slot) : Type 0 where
    long : length cur ≡ length slots
    each : (k : ℕ) → k < length slots → (slot_in cur k ≡ slot_in slots k) ⊎ (slot_in cur k ≡ moved (slot_in slots k))

  changed_at : (changes : List Change) → All (IsChange made slots) changes → (cur : List Slot) → Between cur → (k : ℕ) → k < length slots
      → ((slot_in cur k ≡ moved (slot_in slots k)) ⊎ ((c : Change) × Contains changes c × (c.place ≡ k))) → slot_in (fold with_change cur changes) k ≡ moved (slot_in slots k)
  changed_at [] all cur are k l from = elim from [ inl e ↦ e | inr f ↦ let m = f.1.1 in absurd (omega (arith, m)) ]
  changed_at (c ∷ changes) all cur are k l from =
      let is = All-head (IsChange made slots) c changes all in
      let p = c.place in
      let put : Slot = with_state (slot_in cur p) c.state in
      let within : p < length cur = let long = are.long in let w = is.within in omega arith in
      let puts : put ≡ moved (slot_in slots p) = elim (are.each p is.within) [
        | inl e ↦ ap (λ s. with_state s c.state) e ∙ ap (with_state (slot_in slots p)) is.state
        | inr e ↦ ap (λ s. with_state s c.state) e ∙ ap (with_state (slot_in slots p)) is.state
      ] in
      let there : slot_in (with_change cur c) p ≡ moved (slot_in slots p) = get_or-set_same cur p put no_slot within ∙ puts in
      let away : (j : ℕ) → j ≢ p → slot_in (with_change cur c) j ≡ slot_in cur j = λ j n. get_or-set_other cur p j put no_slot n in
      let next : Between (with_change cur c) = record {
        long = length-set cur p put ∙ are.long;
        each = λ j m. elim (cases_eq j p) as (λ _. (slot_in (with_change cur c) j ≡ slot_in slots j) ⊎ (slot_in (with_change cur c) j ≡ moved (slot_in slots j))) [
          | inl e ↦ inr (subst (λ i. slot_in (with_change cur c) i ≡ moved (slot_in slots i)) (sym e) there)
          | inr n ↦ elim (are.each j m) as (λ _. (slot_in (with_change cur c) j ≡ slot_in slots j) ⊎ (slot_in (with_change cur c) j ≡ moved (slot_in slots j))) [
            | inl e ↦ inl (away j n ∙ e)
            | inr e ↦ inr (away j n ∙ e)
          ]
        ];
      } in
      changed_at changes (All-tail (IsChange made slots) c changes all) (with_change cur c) next k l
      (elim (cases_eq k p) as (λ _. (slot_in (with_change cur c) k ≡ moved (slot_in slots k)) ⊎ ((d : Change) × Contains changes d × (d.place ≡ k))) [
        | inl e ↦ inl (subst (λ i. slot_in (with_change cur c) i ≡ moved (slot_in slots i)) (sym e) there)
        | inr n ↦ elim from as (λ _. (slot_in (with_change cur c) k ≡ moved (slot_in slots k)) ⊎ ((d : Change) × Contains changes d × (d.place ≡ k))) [
          | inl e ↦ inl (away k n ∙ e)
          | inr f ↦ inr (f.0, later c changes f.0 f.1 (λ e. n (sym f.2 ∙ ap (λ (d : Change). d.place) (sym e))), f.2)
        ]
      ])
    where
      later : (c : Change) (changes : List Change) (d : Change) → Contains (c ∷ changes) d → (c ≢ d) → Contains changes d
      later c changes d (zero, m, e) n = absurd (n e)
      later c changes d (suc i, m, e) n = (i, omega (arith, m), e)

  -- ---- all of them
  module _ (changes : List Change) (are : AreChanges made slots changes) where
    pub all_changed : fold with_change slots changes ≡ map moved slots
    all_changed =
        let long : length (fold with_change slots changes) ≡ length (map moved slots) = changes_keep_length changes slots ∙ sym (length-map slots moved) in
        ext_get_or no_slot (fold with_change slots changes) (map moved slots) long (λ k l.
        let within : k < length slots = let same = changes_keep_length changes slots in omega arith in
        let at : slot_in (map moved slots) k ≡ moved (slot_in slots k) = map_at slots k within in
        changed_at changes are.each slots (record { long = refl; each = λ j m. inl refl }) k within
        (elim (are.all k within) as (λ _. (slot_in slots k ≡ moved (slot_in slots k)) ⊎ ((c : Change) × Contains changes c × (c.place ≡ k))) [
          | inl stays ↦ inl (ap (with_state (slot_in slots k)) (sym stays.0))
          | inr f ↦ inr f
        ]) ∙ sym at)
      where
        map_at : (xs : List Slot) (k : ℕ) → k < length xs → slot_in (map moved xs) k ≡ moved (slot_in xs k)
        map_at [] k l = absurd (omega (arith, l))
        map_at (x ∷ xs) zero l = refl
        map_at (x ∷ xs) (suc k) l = map_at xs k (omega (arith, l))

    pub left_by_changes : filter (λ (s : Slot). not (is_broken s.state)) (fold with_change slots changes) ≡ slots_left made slots
    left_by_changes = ap (filter (λ (s : Slot). not (is_broken s.state))) all_changed

    -- where no change breaks a slot, all are left
    pub all_left : list_any (λ (c : Change). is_broken c.state) changes ≡ false → fold with_change slots changes ≡ slots_left made slots
    all_left none = all_changed ∙ sym (filter_all (map moved slots) (All-map (λ (s : Slot). is_broken s.state ≡ false) moved slots unbroken))
      where
        not_broken_is : (s : State) → (s ≢ Broken) → is_broken s ≡ false
        not_broken_is s n = elim (cases_Bool (is_broken s)) [ inl e ↦ absurd (n (broken_is s e)) | inr e ↦ e ]

        unbroken : All (λ s. is_broken (made s) ≡ false) slots
        unbroken k d l = subst (λ s. is_broken (made s) ≡ false) (get_or_default slots k no_slot d l) (elim (are.all k l) as (λ _. is_broken (made (slot_in slots k)) ≡ false) [
          | inl stays ↦ not_broken_is (made (slot_in slots k)) (λ e. stays.1 (sym stays.0 ∙ e))
          | inr f ↦
              let c = f.0 in
              let is = All-contains (IsChange made slots) changes c are.each f.1 in
              let whole = All-contains (λ (d : Change). is_broken d.state ≡ false) changes c (none_passes (λ (d : Change). is_broken d.state) changes none) f.1 in
              subst (λ i. is_broken (made (slot_in slots i)) ≡ false) f.2 (ap is_broken (sym is.state) ∙ whole)
        ])

        filter_all : (xs : List Slot) → All (λ (s : Slot). is_broken s.state ≡ false) xs → filter (λ (s : Slot). not (is_broken s.state)) xs ≡ xs
        filter_all [] all = refl
        filter_all (x ∷ xs) all =
            ap (λ b. cond (not b) (x ∷ filter (λ (s : Slot). not (is_broken s.state)) xs) (filter (λ (s : Slot). not (is_broken s.state)) xs)) (All-head (λ (s : Slot). is_broken s.state ≡ false) x xs all)
            ∙ ap (λ ys. x ∷ ys) (filter_all xs (All-tail (λ (s : Slot). is_broken s.state ≡ false) x xs all))
