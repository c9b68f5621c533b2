-- Kept parts that are read back from what is saved of them.
use Rattle.std.specs.Prelude.{◌≡◌, ◌≤◌, ℕ, zero, suc, true, false, All, Contains, List, [], ◌∷◌, Some, if◌then◌else◌, length, refl, sum_by}
use Rattle.std.specs.List.{AllByRecursion, IsDistinct}
use Rattle.std.specs.List.Sorted.{IsPermutation}
use Rattle.std.proofs.Common.{◌∙◌, ap, arith, get_or, inl, inr, subst, sym}
use Rattle.std.proofs.lemmas.Bool.{cases_Bool}
use Rattle.std.proofs.lemmas.List.Elements.{Contains-get_or}
use Rattle.std.proofs.lemmas.List.Sorted.{All-permutation, sum_by-IsPermutation}
use Rattle.std.proofs.lemmas.List.Sums.{sum_by-cons}
use Rattle.std.proofs.lemmas.Map.Keys.{IsDistinct-head, IsDistinct-tail}
use Rattle.dk_base.specs.declared.kinds.VarId.{VarId}
use Rattle.dk_base.specs.declared.kinds.VarInfo.{VarInfo}
use Rattle.dk_base.specs.declared.values.Value.{Value}
use Rattle.dk_classes.specs.Leaders.{own_leaders}
use Rattle.dk_constants.proofs.Determined.{entry_found}
use Rattle.dk_constants.proofs.Feeding.{passes}
use Rattle.dk_constants.specs.Known.{known_at}
use Rattle.dk_snapshot.proofs.Restoring.{held_moved}
use Rattle.dk_snapshot.specs.Restored.{HaveEntries, HaveMembers, HavePatterns}
use Rattle.dk_presence.proofs.Sameness.{same_vars-at, same_vars-sym}
use Rattle.dk_presence.specs.Patterns.{capped, counted_by, has, has_all, held_patterns, pattern_count, same_vars}
use Rattle.dk_presence.specs.declared.held.Held.{Held}
use Rattle.dk_samples.specs.Samples.{is_present}
use Rattle.dk_suppress.specs.Rules.{is_suppressed}
use Rattle.dk_template.specs.Exchange.{turned_state, written_order}
use Rattle.dk_template.specs.declared.grammar.Grammar.{Grammar}
use Rattle.dk_engine.specs.Saved.Conditions.{AreParts, CanBeFed, CanBeRead}
use Rattle.dk_engine.proofs.PartsOfSamples.{kept_parts_meet}
use Rattle.dk_engine.specs.Exact.{ArePatterns, IsKeptOf}
use Rattle.dk_engine.specs.Laws.{KeptPartsAreSaved}
use Rattle.dk_engine.specs.Reading.Parts.{all_known, known_tuple, slot_at}
use Rattle.dk_engine.specs.Reading.{rank_bound, read_leaders, read_slot, state_of_one}
use Rattle.dk_engine.specs.Saved.Restored.{AreOpen, AreShaped, AreUnsuppressed, HaveParts, IsConstant, IsRearranged}
use Rattle.dk_engine.specs.Saved.{parts_of}
use Rattle.dk_engine.specs.declared.kept.Kept.{Kept}
use Rattle.dk_engine.specs.declared.saved.parts.Parts.{Parts}

-- ---- one part after another
module _ (count : ℕ) (parts : Parts) (kept : Kept) (have : HaveParts count parts kept) where
  pub members_kept : HaveMembers count parts.classes kept.leaders
  members_kept = record { lawful = have.shaped.lawful; long = have.shaped.long; saved = ap (λ (p : Parts). p.classes) have.saved }

  pub patterns_kept : HavePatterns (own_leaders kept.leaders) parts.patterns kept.held
  patterns_kept = record { form = have.shaped.form; lead = have.shaped.lead; saved = ap (λ (p : Parts). p.patterns) have.saved }

  pub entries_kept : HaveEntries parts.known kept.known
  entries_kept = (have.shaped.ascend, ap (λ (p : Parts). p.known) have.saved)

pub have_all : (count : ℕ) (parts : Parts) (kept : Kept) → kept.samples ≡ parts.samples → HaveMembers count parts.classes kept.leaders → HavePatterns (own_leaders kept.leaders) parts.patterns kept.held
    → HaveEntries parts.known kept.known → kept.slots ≡ parts.slots → HaveParts count parts kept
have_all count parts kept number members patterns entries slots = record {
  shaped = record { lawful = members.lawful; long = members.long; form = patterns.form; lead = patterns.lead; ascend = entries.0 };
  saved = λ i. record { samples = number i; classes = members.saved i; patterns = patterns.saved i; known = entries.1 i; slots = slots i };
}

-- ---- the conditions
module _ (grammar : Grammar) (infos : List VarInfo) (kept : Kept) where
  pub shaped_parts : AreParts grammar infos kept → AreShaped (length infos) kept
  shaped_parts are = record { lawful = are.readable.leaders.classes; long = are.readable.leaders.long; form = are.patterns.form; lead = are.patterns.lead; ascend = are.ascend }

  pub open_parts : AreParts grammar infos kept → AreOpen grammar infos kept
  open_parts are = record {
    kinds = are.readable.leaders.kinds;
    sum = are.patterns.sum;
    constants = λ k d l.
        let e = get_or kept.known k d in
        let known = entry_found kept.known are.ascend e.0 e.1 (Contains-get_or kept.known k d l) in
        record { value = are.readable.values e.0 e.1 known; constant = are.constants e.0 e.1 known };
    in_order = are.in_order;
    slots = λ k d l.
        let of = are.slots k d l in
        record { over = of.over; written = of.written; varies = of.varies; state = record { proper = are.readable.states k d l; unbroken = of.unbroken; absent = of.absent; present = of.present } };
  }

  pub unsuppressed_parts : AreParts grammar infos kept → AreUnsuppressed kept
  unsuppressed_parts are k d l = (are.slots k d l).unsuppressed

  module _ (shaped : AreShaped (length infos) kept) (met : AreOpen grammar infos kept) where
    known_constant : (v : VarId) (x : Value) → known_at kept.known v ≡ Some x → IsConstant infos kept (v, x)
    known_constant v x e = passes (IsConstant infos kept) kept.known met.constants v x e

    readable : CanBeRead infos kept
    readable = record {
      leaders = record { long = shaped.long; classes = shaped.lawful; kinds = met.kinds };
      values = λ v x e. (known_constant v x e).value;
      states = λ k d l. (met.slots k d l).state.proper;
    }

    pub open_can_be_fed : CanBeFed grammar infos kept
    open_can_be_fed = record {
      readable = readable;
      constants_lead = λ v x e. (known_constant v x e).constant.leads;
      patterns_lead = shaped.lead;
      placed = λ k d l. let of = met.slots k d l in record { over = of.over; written = of.written };
      in_order = met.in_order;
      unbroken = λ k d l. (met.slots k d l).state.unbroken;
    }

    pub parts_from_open : 1 ≤ kept.samples → AreUnsuppressed kept → AreParts grammar infos kept
    parts_from_open some unsuppressed = record {
      readable = readable;
      patterns = record { form = shaped.form; lead = shaped.lead; sum = met.sum };
      ascend = shaped.ascend;
      constants = λ v x e. (known_constant v x e).constant;
      in_order = met.in_order;
      slots = λ k d l.
          let of = met.slots k d l in
          record { over = of.over; written = of.written; varies = of.varies; unbroken = of.state.unbroken; absent = of.state.absent; present = of.state.present; unsuppressed = unsuppressed k d l };
      none = λ zero. absurd (omega (arith, some, zero));
    }

-- ---- another order of the patterns
-- the parts with these patterns
abbrev pub with_held : Kept → List Held → Kept
with_held kept held = record { samples = kept.samples; leaders = kept.leaders; known = kept.known; held = held; slots = kept.slots }

pub is_with_held : (kept other : Kept) → IsRearranged kept other → with_held kept other.held ≡ other
is_with_held kept other same = λ i. record { samples = same.number i; leaders = same.leaders i; known = same.known i; held = other.held; slots = same.slots i }

module _ (kept : Kept) (held : List Held) (moved : IsPermutation kept.held held) where
  pub counted_moved : (vars : List VarId) → counted_by held vars ≡ counted_by kept.held vars
  counted_moved vars = ap capped (sum_by-IsPermutation (λ h. if has_all h.leaders vars then h.count else 0) kept.held held moved)

  read_moved : (n : ℕ) → read_leaders n (with_held kept held) ≡ read_leaders n kept
  unfolding read_leaders
  read_moved zero = refl
  read_moved (suc n) = λ i row vars. turned_state row vars (
      if all_known kept.known (written_order row vars) then state_of_one row (known_tuple kept.known (written_order row vars))
      else read_slot (slot_at kept.slots row (written_order row vars)) (is_suppressed (read_moved n i) row (written_order row vars)) (counted_moved (written_order row vars) i))

  pub parts_moved : (grammar : Grammar) (infos : List VarInfo) → AreParts grammar infos kept → AreParts grammar infos (with_held kept held)
  parts_moved grammar infos are = record {
    readable = record { leaders = are.readable.leaders; values = are.readable.values; states = are.readable.states };
    patterns = record {
      form = held_moved kept.held held moved are.patterns.form;
      lead = All-permutation (λ h. All (Contains (own_leaders kept.leaders)) h.leaders) kept.held held moved are.patterns.lead;
      sum = counted_moved [] ∙ are.patterns.sum;
    };
    ascend = are.ascend;
    constants = λ v x e. let of = are.constants v x e in record { leads = of.leads; present = All-permutation (λ h. has h.leaders v ≡ is_present x) kept.held held moved of.present };
    in_order = are.in_order;
    slots = λ k d l.
        let of = are.slots k d l in
        let slot = get_or kept.slots k d in
        let counted = counted_moved slot.leaders in
        record {
          over = of.over;
          written = of.written;
          varies = of.varies;
          unbroken = of.unbroken;
          absent = λ e. of.absent (sym counted ∙ e);
          present = λ plain empty. counted ∙ of.present plain empty;
          unsuppressed = ap (λ answered. is_suppressed answered slot.row slot.leaders) (read_moved rank_bound) ∙ of.unsuppressed;
        };
    none = are.none;
  }

pub parts_rearranged : (grammar : Grammar) (infos : List VarInfo) (kept other : Kept) → IsRearranged kept other → AreParts grammar infos kept → AreParts grammar infos other
parts_rearranged grammar infos kept other same are = subst (AreParts grammar infos) (is_with_held kept other same) (parts_moved kept other.held same.held grammar infos are)

pub have_parts : (grammar : Grammar) (infos : List VarInfo) (parts : Parts) (kept : Kept) → AreParts grammar infos kept → parts_of kept ≡ parts → HaveParts (length infos) parts kept
have_parts grammar infos parts kept are saved = record { shaped = shaped_parts grammar infos kept are; saved = saved }

-- ---- parts of samples
-- the count at a pattern as a sum
at_pattern : List VarId → Held → ℕ
at_pattern pattern h = if same_vars h.leaders pattern then h.count else 0

sum_none : (pattern a : List VarId) (held : List Held) → same_vars a pattern ≡ true → AllByRecursion (λ y. same_vars a y ≡ false) (held_patterns held) → sum_by (at_pattern pattern) held ≡ 0
unfolding at_pattern
sum_none pattern a [] e apart = refl
sum_none pattern a (h ∷ held) e apart =
    let off : same_vars h.leaders pattern ≡ false = same_vars-sym h.leaders pattern ∙ (sym (same_vars-at a pattern h.leaders e) ∙ apart.0) in
    let here : at_pattern pattern h ≡ 0 = ap (λ b. if b then h.count else 0) off in
    omega (arith, sum_by-cons (at_pattern pattern) h held, here, sum_none pattern a held e apart.1)

held_at_sum : (pattern : List VarId) (held : List Held) → IsDistinct same_vars (held_patterns held) → pattern_count held pattern ≡ sum_by (at_pattern pattern) held
unfolding at_pattern
held_at_sum pattern [] once = refl
held_at_sum pattern (h ∷ held) once = elim (cases_Bool (same_vars h.leaders pattern)) [
  | inl e ↦
      let at : pattern_count (h ∷ held) pattern ≡ h.count = ap (λ b. if b then h.count else pattern_count held pattern) e in
      let here : at_pattern pattern h ≡ h.count = ap (λ b. if b then h.count else 0) e in
      omega (arith, at, here, sum_by-cons (at_pattern pattern) h held, sum_none pattern h.leaders held e (IsDistinct-head same_vars h.leaders (held_patterns held) once))
  | inr n ↦
      let at : pattern_count (h ∷ held) pattern ≡ pattern_count held pattern = ap (λ b. if b then h.count else pattern_count held pattern) n in
      let here : at_pattern pattern h ≡ 0 = ap (λ b. if b then h.count else 0) n in
      omega (arith, at, here, sum_by-cons (at_pattern pattern) h held, held_at_sum pattern held (IsDistinct-tail same_vars h.leaders (held_patterns held) once))
]

patterns_of_moved : (leaders : List VarId) (samples : List (List Value)) (held others : List Held) → IsPermutation held others → ArePatterns leaders samples held → ArePatterns leaders samples others
patterns_of_moved leaders samples held others moved are =
    let form = held_moved held others moved are.form in
    record {
      form = form;
      counted = λ p. held_at_sum p others form.once ∙ (sum_by-IsPermutation (at_pattern p) held others moved ∙ (sym (held_at_sum p held are.form.once) ∙ are.counted p));
    }

pub kept_rearranged : (grammar : Grammar) (infos : List VarInfo) (samples : List (List Value)) (kept other : Kept) → IsRearranged kept other → IsKeptOf grammar infos samples kept → IsKeptOf grammar infos samples other
kept_rearranged grammar infos samples kept other same is = subst (IsKeptOf grammar infos samples) (is_with_held kept other same) (record {
  number = is.number;
  leaders = is.leaders;
  known = is.known;
  held = patterns_of_moved (own_leaders kept.leaders) samples kept.held other.held same.held is.held;
  slots = is.slots;
})

-- what is kept of 1 to 2^40 samples is saved
pub kept_parts_are_saved : KeptPartsAreSaved
kept_parts_are_saved grammar infos point samples sampled kept is some few =
    let number = is.number in
    record { kept = kept; meets = kept_parts_meet grammar infos point samples sampled kept is; some = omega (arith, number, some); few = omega (arith, number, few); saved = refl }
