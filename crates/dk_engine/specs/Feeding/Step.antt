-- What one sample more makes of the slots, by the slots that were kept and by candidates alone.
use Rattle.std.specs.Prelude.{◌≡◌, ◌≢◌, ◌⊎◌, ◌↔◌, ◌&&◌, ◌||◌, ◌==◌, ◌<◌, ℕ, Bool, true, false, not, All, Contains, IsSome, IsTrue, List, [], ◌∷◌, ◌++◌, None, is_some, length}
use Rattle.std.specs.List.{AllPairs, list_any}
use Rattle.dk_base.specs.declared.kinds.VarId.{VarId}
use Rattle.dk_base.specs.declared.kinds.VarInfo.{VarInfo}
use Rattle.dk_base.specs.declared.values.Value.{Value}
use Rattle.dk_classes.specs.Classes.{AreLeaders, AreNew, var_kinds}
use Rattle.dk_classes.specs.Leaders.{own_leaders}
use Rattle.dk_constants.specs.Constants.{AreConstants, HaveEnded}
use Rattle.dk_constants.specs.Known.{Entries, known_at}
use Rattle.dk_forms.specs.declared.states.State.{State}
use Rattle.dk_forms.specs.declared.states.State.TheVariants.{Broken, Empty}
use Rattle.dk_instances.specs.Fits.{fit}
use Rattle.dk_presence.specs.Patterns.{pattern_count, present_in}
use Rattle.dk_suppress.specs.Rules.{Rule, asks, has_rule, is_suppressed, rules}
use Rattle.dk_template.specs.Admitted.{admits, is_written}
use Rattle.dk_template.specs.Exchange.{written_order}
use Rattle.dk_template.specs.Numbers as number
use Rattle.dk_template.specs.Premises.{premise_fits, row_of, suffices, vars_of}
use Rattle.dk_template.specs.Templates.{IsRowOf, rank_of}
use Rattle.dk_template.specs.declared.answers.Premise.{Premise}
use Rattle.dk_template.specs.declared.grammar.Grammar.{Grammar}
use Rattle.dk_template.specs.declared.grammar.RowId.{RowId}
use Rattle.dk_engine.specs.Exact.{AreSamples, IsKeptOf, IsOverLeaders, SlotBefore}
use Rattle.dk_engine.specs.Feeding.{with_sample}
use Rattle.dk_engine.specs.Reading.Parts.{all_known, slot_at}
use Rattle.dk_engine.specs.Sweeps.Reached.{has_row, rows_reached}
use Rattle.dk_engine.specs.declared.feed.now.Now.{Now}
use Rattle.dk_engine.specs.declared.kept.Kept.{Kept}
use Rattle.dk_engine.specs.declared.slots.slot.Slot.{Slot}

-- ---- the other parts
-- what the sample made of the other parts: they are those of the samples with one more
pub record IsNow (infos : List VarInfo) (samples : List (List Value)) (sample : List Value) (kept : Kept) (now : Now) : Type 0 where
  pub leaders : AreLeaders (var_kinds infos) (samples ++ sample ∷ []) now.leaders
  pub known : AreConstants (own_leaders now.leaders) (samples ++ sample ∷ []) now.known
  pub new : AreNew kept.leaders now.leaders now.new
  pub ended : HaveEnded (own_leaders now.leaders) samples sample now.ended

-- what is kept is kept of some samples, and one sample more made these other parts of it
pub record IsStep (grammar : Grammar) (infos : List VarInfo) (samples : List (List Value))
    (sample : List Value) (kept : Kept) (now : Now) : Type 0 where
  pub some : 0 < length samples
  pub all : AreSamples infos (samples ++ sample ∷ [])
  pub before : IsKeptOf grammar infos samples kept
  pub after : IsNow infos samples sample kept now

-- ---- answers
-- what answers for samples: the state of a row over variables
abbrev pub Answer : Type 0
Answer = RowId → List VarId → State

-- of each row of the grammar over variables that it admits it tells the fit
pub record Tells (grammar : Grammar) (infos : List VarInfo) (samples : List (List Value)) (answered : Answer) : Type 0 where
  pub each : (row : RowId) → IsRowOf grammar row → (vars : List VarId)
      → IsTrue (admits row infos vars) → answered row vars ≡ fit row vars samples

-- ---- premises
-- a premise of one of the row's rules
pub record IsPremiseOf (row : RowId) (p : Premise) : Type 0 where
  pub rule : Rule
  pub listed : Contains rules rule
  pub concludes : rule.0 ≡ row
  pub asks : Contains rule.1 p

-- the variables that a premise asks about, in its row's written order: those of its slot
abbrev pub slot_vars : Premise → List VarId → List VarId
slot_vars p vars = written_order (row_of p) (vars_of p vars)

-- the premise fitted before, and doesn't after; or the other way round
abbrev pub is_lost : Answer → Answer → Premise → List VarId → Bool
is_lost before after p vars = premise_fits before p vars && not (premise_fits after p vars)

abbrev pub is_begun : Answer → Answer → Premise → List VarId → Bool
is_begun before after p vars = is_lost after before p vars

-- ---- candidates
-- a row of the grammar over leaders that it admits, in its written order
pub record IsPlaced (grammar : Grammar) (infos : List VarInfo) (leaders : List VarId) (row : RowId) (vars : List VarId) : Type 0 where
  pub over : IsOverLeaders grammar infos leaders row vars
  pub written : IsTrue (is_written row vars)

-- a new leader or an ended constant touches the tuples in which it stands
abbrev pub is_new : List (VarId × VarId) → VarId → Bool
is_new new v = list_any (λ (n : VarId × VarId). n.0.0 == v.0) new

abbrev pub touches : Now → VarId → Bool
touches now v = is_new now.new v || is_some (known_at now.ended v)

abbrev pub is_touched : Now → List VarId → Bool
is_touched now vars = list_any (touches now) vars

module _ (grammar : Grammar) (infos : List VarInfo) (before after : Answer)
    (slots : List Slot) (now : Now) (candidates : List (RowId × List VarId)) where
  -- An untouched tuple that a rule suppressed before, and none does after: a premise is lost that had a slot, or is a candidate itself.
  -- Where it is Broken now it counts if it can be a premise in turn.
  pub record IsFreed (row : RowId) (vars : List VarId) : Type 0 where
    pub placed : IsPlaced grammar infos now.leaders row vars
    pub untouched : is_touched now vars ≡ false
    pub was : is_suppressed before row vars ≡ true
    pub isnt : is_suppressed after row vars ≡ false
    pub counts : after row vars ≡ Broken → IsTrue (list_any (asks row) rules)
    pub premise : Premise
    pub of_row : IsPremiseOf row premise
    pub lost : IsTrue (is_lost before after premise vars)
    pub reached : IsSome (slot_at slots (row_of premise) (slot_vars premise vars))
        ⊎ Contains candidates (row_of premise, slot_vars premise vars)

  -- the candidates have the freed tuples of the rows of a rank below n
  abbrev pub HaveFreedBelow : ℕ → Type 0
  HaveFreedBelow n = (row : RowId) (vars : List VarId) → rank_of row < n → IsFreed row vars → Contains candidates (row, vars)

  -- The tuples that may need a slot though they had none: the touched ones that aren't Broken now, and the freed ones. More of them
  -- do no harm.
  pub record AreCandidates : Type 0 where
    pub placed : All (λ (c : RowId × List VarId). IsPlaced grammar infos now.leaders c.0 c.1) candidates
    pub touched : (row : RowId) (vars : List VarId) → IsPlaced grammar infos now.leaders row vars
        → IsTrue (is_touched now vars) → after row vars ≢ Broken → Contains candidates (row, vars)
    pub freed : (row : RowId) (vars : List VarId) → IsFreed row vars → Contains candidates (row, vars)

-- An old slot by which a premise is lost: the premise is content with its state, and not with that after the sample. Its row reaches
-- the row, and its leaders are among the variables.
pub record IsFreedBy (sample : List Value) (slots : List Slot) (row : RowId) (vars : List VarId) (old : Slot) : Type 0 where
  pub kept : Contains slots old
  pub conclusion : RowId
  pub premise : Premise
  pub of_row : IsPremiseOf conclusion premise
  pub same : old.row ≡ row_of premise
  pub was : IsTrue (suffices premise old.state)
  pub isnt : suffices premise (with_sample old.row old.leaders sample old.state) ≡ false
  pub reaches : IsTrue (has_row (rows_reached old.row) row)
  pub among : All (Contains vars) old.leaders

-- ---- slots
abbrev pub is_empty_state : State → Bool
is_empty_state Empty = true
is_empty_state _ = false

-- the rows of the least and the greatest element, which are Empty also of sequences that are there and have no elements
abbrev pub is_of_elements : RowId → Bool
is_of_elements row = row.0 == number.elt_lower || row.0 == number.elt_upper

abbrev pub asks_elements : Rule → Bool
asks_elements r = list_any (λ p. is_of_elements (row_of p)) r.1

-- The slot was Empty, and a rule concludes its row.
abbrev pub is_empty_conclusion : Slot → Bool
is_empty_conclusion slot = is_empty_state slot.state && has_rule slot.row

-- A rule can begin to suppress the slot: it was Empty and its row has a rule, or its row has one that asks for the least or the
-- greatest element. That is EltNonZero alone.
abbrev pub can_close : Slot → Bool
can_close slot = is_empty_conclusion slot || list_any (λ (r : Rule). r.0.0 == slot.row.0 && asks_elements r) rules

-- over the variables of a slot another slot, of the least or the greatest element, which was Empty and isn't with the sample
pub record IsBegunBound (slots : List Slot) (sample : List Value) (slot bound : Slot) : Type 0 where
  pub kept : Contains slots bound
  pub elements : IsTrue (is_of_elements bound.row)
  pub vars : bound.leaders ≡ slot.leaders
  pub was : bound.state ≡ Empty
  pub isnt : with_sample bound.row bound.leaders sample bound.state ≢ Empty

-- what the sample leaves of a slot: its state with the sample, which isn't Broken; and where a rule can begin to suppress the slot,
-- none does
pub record IsLeftOf (after : Answer) (sample : List Value) (old slot : Slot) : Type 0 where
  pub row : slot.row ≡ old.row
  pub vars : slot.leaders ≡ old.leaders
  pub state : slot.state ≡ with_sample old.row old.leaders sample old.state
  pub unbroken : slot.state ≢ Broken
  pub unsuppressed : IsTrue (can_close old) → is_suppressed after slot.row slot.leaders ≡ false

-- what a candidate without a slot gets
pub record IsOpened (after : Answer) (slots : List Slot) (known : Entries)
    (candidates : List (RowId × List VarId)) (slot : Slot) : Type 0 where
  pub candidate : Contains candidates (slot.row, slot.leaders)
  pub unkept : slot_at slots slot.row slot.leaders ≡ None
  pub varies : all_known known slot.leaders ≡ false
  pub state : slot.state ≡ after slot.row slot.leaders
  pub unbroken : slot.state ≢ Broken
  pub unsuppressed : is_suppressed after slot.row slot.leaders ≡ false

-- a slot with one sample more: what the sample leaves of an old one, or what a candidate gets
abbrev pub IsSteppedSlot : Answer → List Value → List Slot → Entries → List (RowId × List VarId) → Slot → Type 0
IsSteppedSlot after sample slots known candidates slot =
    ((old : Slot) × Contains slots old × IsLeftOf after sample old slot) ⊎ IsOpened after slots known candidates slot

-- all of them, ascending
pub record IsStepped (after : Answer) (sample : List Value) (slots : List Slot) (known : Entries)
    (candidates : List (RowId × List VarId)) (stepped : List Slot) : Type 0 where
  pub ascend : AllPairs SlotBefore stepped
  pub each : (slot : Slot) → Contains stepped slot ↔ IsSteppedSlot after sample slots known candidates slot

-- ---- a sample that changes nothing
-- No class splits and no constant ends, the present leaders are a pattern that is held, and the sample leaves each slot's state as it is.
pub record ChangesNothing (sample : List Value) (kept : Kept) (now : Now) : Type 0 where
  pub unsplit : now.new ≡ []
  pub unended : now.ended ≡ []
  pub seen : 0 < pattern_count kept.held (present_in (own_leaders now.leaders) sample)
  pub stays : All (λ (slot : Slot). with_sample slot.row slot.leaders sample slot.state ≡ slot.state) kept.slots
