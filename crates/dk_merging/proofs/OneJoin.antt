-- Engines that keep the same, the patterns in another order, have one join.
use Rattle.std.specs.Prelude.{◌≡◌, ◌<◌, ◌+◌, ◌==◌, ◌⊎◌, ℕ, zero, suc, List, Some, None, if◌then◌else◌, length, map, refl, sum_by}
use Rattle.std.specs.List.Sorted.{IsPermutation}
use Rattle.std.proofs.Common.{◌∙◌, ap, arith, inl, inr, subst, sym}
use Rattle.std.proofs.lemmas.Bool.{cases_lt}
use Rattle.std.proofs.lemmas.List.Sorted.{IsPermutation-sym, IsPermutation-trans, sum_by-IsPermutation}
use Rattle.dk_base.specs.declared.kinds.VarId.{VarId}
use Rattle.dk_base.specs.declared.kinds.VarInfo.{VarInfo}
use Rattle.dk_classes.proofs.OwnLeaders.{own_ascend}
use Rattle.dk_classes.specs.Leaders.{own_leaders}
use Rattle.dk_engine.proofs.Saving.{counted_moved, is_with_held, with_held}
use Rattle.dk_engine.specs.Feeding.{slots_of}
use Rattle.dk_engine.specs.Reading.Levels.{Whole}
use Rattle.dk_engine.specs.Reading.Parts.{all_known, known_tuple, leaders_of, slot_at}
use Rattle.dk_engine.specs.Reading.{rank_bound, read_leaders, read_slot, state_of_one, state_read}
use Rattle.dk_engine.specs.Saved.Restored.{IsRearranged}
use Rattle.dk_engine.specs.Saved.{AreSavedParts, parts_of}
use Rattle.dk_engine.specs.declared.kept.Kept.{Kept}
use Rattle.dk_engine.specs.declared.saved.parts.Parts.{Parts}
use Rattle.dk_forms.specs.declared.states.State.TheVariants.{Empty}
use Rattle.dk_join.proofs.Determined.{joined_parts_are_determined}
use Rattle.dk_join.specs.Joined.{AreJoinedParts, IsJoinOf, present_with}
use Rattle.dk_join.specs.Joining.{read_joined}
use Rattle.dk_snapshot.proofs.Leading.{members_back}
use Rattle.dk_snapshot.proofs.Restoring.{patterns_back, same_entries}
use Rattle.dk_graph.proofs.Places.{some-injective}
use Rattle.dk_snapshot.specs.Restored.{HaveMembers, HavePatterns, held_of}
use Rattle.dk_presence.specs.Patterns.{capped, same_vars}
use Rattle.dk_presence.specs.declared.held.Held.{Held}
use Rattle.dk_state.specs.Spelling.{saved_parts}
use Rattle.dk_suppress.specs.Rules.{is_suppressed}
use Rattle.dk_template.specs.Exchange.{turned_state, written_order}
use Rattle.dk_template.specs.Joins.{joined}
use Rattle.dk_template.specs.Templates.{form_of}
use Rattle.dk_template.specs.declared.grammar.Grammar.{Grammar}
use Rattle.dk_merging.specs.Engines.{HaveNoJoin, IsEngineOfBoth, IsSound}
use Rattle.dk_merging.proofs.Readings.{saved_none, saved_some}

-- ---- patterns in another order
module _ (kept : Kept) (held : List Held) (moved : IsPermutation kept.held held) where
  leaders_moved : (n : ℕ) → read_leaders n (with_held kept held) ≡ read_leaders n kept
  unfolding read_leaders
  leaders_moved zero = refl
  leaders_moved (suc n) = λ i row vars. turned_state row vars (
      if all_known kept.known (written_order row vars) then state_of_one row (known_tuple kept.known (written_order row vars))
      else read_slot (slot_at kept.slots row (written_order row vars)) (is_suppressed (leaders_moved n i) row (written_order row vars)) (counted_moved kept held moved (written_order row vars) i))

  state_moved : state_read (with_held kept held) ≡ state_read kept
  unfolding state_read
  state_moved = λ i row vars. if kept.samples == 0 then Empty else leaders_moved rank_bound i row (leaders_of kept.leaders vars)

  times_moved : (leaders pattern : List VarId)
      → sum_by (λ h. if same_vars (present_with kept.leaders leaders h.leaders) pattern then h.count else 0) held ≡ sum_by (λ h. if same_vars (present_with kept.leaders leaders h.leaders) pattern then h.count else 0) kept.held
  times_moved leaders pattern = sum_by-IsPermutation (λ (h : Held). if same_vars (present_with kept.leaders leaders h.leaders) pattern then h.count else 0) kept.held held moved

module _ (grammar : Grammar) (infos : List VarInfo) (first second kept : Kept) (firsts seconds : List Held) (moved : IsPermutation first.held firsts) (also : IsPermutation second.held seconds) where
  joined_moved : read_joined (with_held first firsts) (with_held second seconds) ≡ read_joined first second
  unfolding read_joined
  joined_moved = λ i row vars. joined (form_of row) (state_moved first firsts moved i row vars) (state_moved second seconds also i row vars)

  join_moved : IsJoinOf grammar infos (with_held first firsts) (with_held second seconds) kept → IsJoinOf grammar infos first second kept
  join_moved is = record {
    number = is.number;
    leaders = is.leaders;
    known = is.known;
    held = record {
      form = is.held.form;
      counted = λ pattern. is.held.counted pattern
          ∙ (λ i. capped (times_moved first firsts moved (own_leaders kept.leaders) pattern i + times_moved second seconds also (own_leaders kept.leaders) pattern i));
    };
    slots = is.slots ∙ (λ i. slots_of grammar infos (own_leaders kept.leaders) kept.known (joined_moved i));
  }

-- the join of rearranged parts is that of the others
pub rearranged_join : (grammar : Grammar) (infos : List VarInfo) (first second one other : Kept) → IsRearranged first one → IsRearranged second other → (parts : Parts)
    → AreJoinedParts grammar infos one other parts → AreJoinedParts grammar infos first second parts
rearranged_join grammar infos first second one other same also parts are =
    let left = sym (is_with_held first one same) in
    let right = sym (is_with_held second other also) in
    record {
      kept = are.kept;
      joined = join_moved grammar infos first second are.kept one.held other.held same.held also.held
          (subst (λ (k : Kept). IsJoinOf grammar infos (with_held first one.held) k are.kept) right (subst (λ (k : Kept). IsJoinOf grammar infos k other are.kept) left are.joined));
      saved = are.saved;
    }

-- ---- engines that save the same parts
-- they keep the same, the patterns in any order
pub rearranged : (one other : Whole) → IsSound one → IsSound other → one.infos ≡ other.infos → parts_of one.kept ≡ parts_of other.kept → IsRearranged one.kept other.kept
rearranged one other sound also infos same =
    let count = length one.infos in
    let classes = (parts_of other.kept).classes in
    let patterns = (parts_of other.kept).patterns in
    let long = also.fed.readable.leaders.long in
    let members : HaveMembers count classes one.kept.leaders =
    record { lawful = sound.fed.readable.leaders.classes; long = sound.fed.readable.leaders.long; saved = ap (λ (p : Parts). p.classes) same } in
    let also_members : HaveMembers count classes other.kept.leaders =
    record { lawful = also.fed.readable.leaders.classes; long = long ∙ sym (ap (λ (l : List VarInfo). length l) infos); saved = refl } in
    let leaders : one.kept.leaders ≡ other.kept.leaders = sym (members_back count classes one.kept.leaders members) ∙ members_back count classes other.kept.leaders also_members in
    let own = ap own_leaders leaders in
    let held : HavePatterns (own_leaders one.kept.leaders) patterns one.kept.held =
    record { form = sound.held; lead = sound.fed.patterns_lead; saved = ap (λ (p : Parts). p.patterns) same } in
    let also_held : HavePatterns (own_leaders other.kept.leaders) patterns other.kept.held = record { form = also.held; lead = also.fed.patterns_lead; saved = refl } in
    let here = patterns_back (own_leaders one.kept.leaders) (own_ascend one.kept.leaders) patterns one.kept.held held in
    let there = patterns_back (own_leaders other.kept.leaders) (own_ascend other.kept.leaders) patterns other.kept.held also_held in
    let Rest : List VarId → List Held = λ ls. map (held_of ls) patterns in
    record {
      number = ap (λ (p : Parts). p.samples) same;
      leaders = leaders;
      known = sym (same_entries (parts_of other.kept).known one.kept.known (ap (λ (p : Parts). p.known) same)) ∙ same_entries (parts_of other.kept).known other.kept.known refl;
      held = IsPermutation-trans one.kept.held (Rest (own_leaders other.kept.leaders)) other.kept.held (subst (λ ls. IsPermutation one.kept.held (Rest ls)) own here)
          (IsPermutation-sym other.kept.held (Rest (own_leaders other.kept.leaders)) there);
      slots = ap (λ (p : Parts). p.slots) same;
    }

-- nothing is saved of both, or the same parts
abbrev pub SaveAlike : Kept → Kept → Type 0
SaveAlike k l = ((k.samples ≡ 0) × (l.samples ≡ 0)) ⊎ ((0 < k.samples) × (0 < l.samples) × (parts_of k ≡ parts_of l))

pub save_alike : (k l : Kept) → saved_parts k ≡ saved_parts l → SaveAlike k l
save_alike k l e = elim (cases_lt 0 k.samples) as (λ _. SaveAlike k l) [
  | inr none ↦ elim (cases_lt 0 l.samples) as (λ _. SaveAlike k l) [
    | inr nothing ↦ inl (omega (arith, none), omega (arith, nothing))
    | inl some ↦ absurd (let gone : None ≡ Some (parts_of l) = sym (saved_none k (omega (arith, none))) ∙ e ∙ saved_some l some in cc gone)
  ]
  | inl some ↦ elim (cases_lt 0 l.samples) as (λ _. SaveAlike k l) [
    | inr nothing ↦ absurd (let gone : Some (parts_of k) ≡ None = sym (saved_some k some) ∙ e ∙ saved_none l (omega (arith, nothing)) in cc gone)
    | inl more ↦ inr (some, more, some-injective (sym (saved_some k some) ∙ e ∙ saved_some l more))
  ]
]

-- of the parts it depends alone what is saved
saved_by_parts : (k l : Kept) → parts_of k ≡ parts_of l → saved_parts k ≡ saved_parts l
saved_by_parts k l e = ap (λ (p : Parts). if p.samples == 0 then None else Some p) e

-- ---- a point in two readings
-- two engines over the same variables and rows that save the same
pub record AreTwoReadings (one other : Whole) : Type 0 where
  pub grammar : other.grammar ≡ one.grammar
  pub infos : other.infos ≡ one.infos
  pub saved : saved_parts one.kept ≡ saved_parts other.kept

module _ (a b c d : Whole) (first : AreTwoReadings a c) (second : AreTwoReadings b d) where
  -- the join of the one reading's engines is that of the other's
  carried : IsSound a → IsSound b → IsSound c → IsSound d → parts_of a.kept ≡ parts_of c.kept → parts_of b.kept ≡ parts_of d.kept
      → (parts : Parts) → AreJoinedParts c.grammar c.infos c.kept d.kept parts → AreJoinedParts a.grammar a.infos a.kept b.kept parts
  carried sa sb sc sd p q parts are =
      rearranged_join a.grammar a.infos a.kept b.kept c.kept d.kept (rearranged a c sa sc (sym first.infos) p) (rearranged b d sb sd (sym second.infos) q) parts
      (subst (λ (l : List VarInfo). AreJoinedParts a.grammar l c.kept d.kept parts) first.infos (subst (λ (g : Grammar). AreJoinedParts g c.infos c.kept d.kept parts) first.grammar are))

  -- the engines of both save the same
  pub one_engine : (e f : Whole) → IsEngineOfBoth a b e → IsEngineOfBoth c d f → saved_parts e.kept ≡ saved_parts f.kept
  one_engine e f is also = by (save_alike a.kept c.kept first.saved) (save_alike b.kept d.kept second.saved)
    where
      by : SaveAlike a.kept c.kept → SaveAlike b.kept d.kept → saved_parts e.kept ≡ saved_parts f.kept
      by h (inl none) = ap (λ (w : Whole). saved_parts w.kept) (is.first_alone none.0) ∙ first.saved ∙ sym (ap (λ (w : Whole). saved_parts w.kept) (also.first_alone none.1))
      by (inl none) (inr some) =
          ap (λ (w : Whole). saved_parts w.kept) (is.second_alone none.0 some.0) ∙ second.saved ∙ sym (ap (λ (w : Whole). saved_parts w.kept) (also.second_alone none.1 some.1))
      by (inr some) (inr more) =
          let here = (is.joined some.0 more.0).parts in
          let there = carried is.first_sound is.second_sound also.first_sound also.second_sound some.2 more.2 (parts_of f.kept) (also.joined some.1 more.1).parts in
          saved_by_parts e.kept f.kept (joined_parts_are_determined a.grammar a.infos a.kept b.kept (parts_of e.kept) (parts_of f.kept) here there)

  -- where the one reading's have an engine of both, the other's have a join
  pub no_engine : (e : Whole) → IsEngineOfBoth a b e → HaveNoJoin c d → ⊥
  no_engine e is none = by (save_alike a.kept c.kept first.saved) (save_alike b.kept d.kept second.saved)
    where
      by : SaveAlike a.kept c.kept → SaveAlike b.kept d.kept → ⊥
      by (inl nothing) h = let some = none.first_some in let zero = nothing.1 in omega (arith, some, zero)
      by (inr some) (inl nothing) = let more = none.second_some in let zero = nothing.1 in omega (arith, more, zero)
      by (inr some) (inr more) =
          let made = is.joined some.0 more.0 in
          none.none (parts_of e.kept)
          (rearranged_join c.grammar c.infos c.kept d.kept a.kept b.kept (rearranged c a none.first_sound is.first_sound first.infos (sym some.2)) (rearranged d b none.second_sound is.second_sound second.infos (sym more.2)) (parts_of e.kept)
          (subst (λ (l : List VarInfo). AreJoinedParts c.grammar l a.kept b.kept (parts_of e.kept)) (sym first.infos) (subst (λ (g : Grammar). AreJoinedParts g a.infos a.kept b.kept (parts_of e.kept)) (sym first.grammar) made.parts)))
          (subst (λ (l : List VarInfo). AreSavedParts c.grammar l (parts_of e.kept)) (sym first.infos) (subst (λ (g : Grammar). AreSavedParts g a.infos (parts_of e.kept)) (sym first.grammar) made.saved))
