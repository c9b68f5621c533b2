-- The step is exact.
use Rattle.std.specs.Prelude.{◌≡◌, ◌⊎◌, ◌↔◌, ◌+◌, ◌<◌, ℕ, None, suc, true, false, All, Contains, IsTrue, List, [], ◌∷◌, ◌++◌, length}
use Rattle.dk_base.specs.declared.kinds.VarId.{VarId}
use Rattle.dk_base.specs.declared.kinds.VarInfo.{VarInfo}
use Rattle.dk_base.specs.declared.values.Value.{Value}
use Rattle.dk_classes.specs.Classes.{AreLeaders, var_kinds}
use Rattle.dk_classes.specs.Leaders.{own_leaders}
use Rattle.dk_constants.specs.Constants.{AreConstants}
use Rattle.dk_constants.specs.Known.{Entries}
use Rattle.dk_forms.specs.declared.states.State.TheVariants.{Broken, Empty}
use Rattle.dk_presence.specs.Patterns.{capped, pattern_count, present_in}
use Rattle.dk_presence.specs.declared.held.Held.{Held}
use Rattle.dk_samples.specs.Leaders.{VarsAscend}
use Rattle.dk_suppress.specs.Rules.{is_suppressed}
use Rattle.dk_template.specs.Admitted.{admits}
use Rattle.dk_template.specs.Premises.{at_role, premise_fits, roles_read, row_of, suffices}
use Rattle.dk_template.specs.Templates.{IsRow, form_of, rank_of}
use Rattle.dk_template.specs.declared.templates.StateForm.TheVariants.{Plain}
use Rattle.dk_instances.specs.Fits.{fit}
use Rattle.dk_instances.specs.Laws.{satisfies}
use Rattle.dk_template.specs.declared.answers.Premise.{Premise}
use Rattle.dk_template.specs.declared.grammar.Grammar.{Grammar}
use Rattle.dk_template.specs.declared.grammar.RowId.{RowId}
use Rattle.dk_engine.specs.Sweeps.Choices.{freed_choices, touched_choices, tuples_from}
use Rattle.dk_engine.specs.Exact.{AreOfPoint, ArePatterns, AreSlots, IsKeptOf, IsSlot, Lead}
use Rattle.dk_engine.specs.Feeding.{read_after}
use Rattle.dk_engine.specs.Reading.Parts.{slot_at}
use Rattle.dk_engine.specs.declared.kept.Kept.{Kept}
use Rattle.dk_engine.specs.Reading.{rank_bound, state_read}
use Rattle.dk_engine.specs.Feeding.Step.{Answer, AreCandidates, ChangesNothing, HaveFreedBelow, IsBegunBound, IsFreed, IsFreedBy, IsPremiseOf, IsStep, IsStepped, Tells, is_touched, slot_vars}
use Rattle.dk_engine.specs.declared.feed.now.Now.{Now}
use Rattle.dk_engine.specs.declared.slots.slot.Slot.{Slot}

-- a statement of a step
abbrev pub OfStep : (Grammar → List VarInfo → List (List Value) → List Value → Kept → Now → Type 0) → Type 0
OfStep P =
    (grammar : Grammar) (infos : List VarInfo) (samples : List (List Value)) (sample : List Value) (kept : Kept) (now : Now)
    → IsStep grammar infos samples sample kept now
    → P grammar infos samples sample kept now

-- The stepped slots are exactly those of the samples with one more, and those are stepped. What answers before and after the sample may be
-- the fits themselves, or what is read from the kept parts.
abbrev pub SteppedSlotsAreExact : Type 0
SteppedSlotsAreExact = OfStep (λ grammar infos samples sample kept now. (before after : Answer)
    → Tells grammar infos samples before → Tells grammar infos (samples ++ sample ∷ []) after
    → (candidates : List (RowId × List VarId)) → AreCandidates grammar infos before after kept.slots now candidates
    → (stepped : List Slot)
    → IsStepped after sample kept.slots now.known candidates stepped
    ↔ AreSlots grammar infos (samples ++ sample ∷ []) now.leaders now.known stepped)

-- What is read from the kept parts tells the fits before the sample, and with the sample's tuple the fits after it.
abbrev pub ReadingTells : Type 0
ReadingTells = OfStep (λ grammar infos samples sample kept now. AreOfPoint infos
    → Tells grammar infos samples (state_read kept) × Tells grammar infos (samples ++ sample ∷ []) (read_after kept sample))

-- A row with a relation is Broken after a sample in which the variables are present and don't satisfy the relation, whatever it was.
abbrev pub UnsatisfiedRowsBreak : Type 0
UnsatisfiedRowsBreak =
    (row : RowId) → IsRow row → form_of row ≡ Plain
    → (vars : List VarId) (samples : List (List Value)) (sample : List Value) → satisfies row vars sample ≡ false
    → fit row vars (samples ++ sample ∷ []) ≡ Broken

-- Whether a premise fits is told by what is answered of its slot's tuple.
abbrev pub PremisesAskTheirSlots : Type 0
PremisesAskTheirSlots =
    (grammar : Grammar) (infos : List VarInfo) (samples : List (List Value)) (answered : Answer) → Tells grammar infos samples answered
    → (row : RowId) (vars : List VarId) → IsTrue (admits row infos vars) → (p : Premise)
    → IsPremiseOf row p → premise_fits answered p vars ≡ suffices p (answered (row_of p) (slot_vars p vars))

-- at the roles that a premise reads stand variables of its slot
abbrev pub RolesReadTheSlot : Type 0
RolesReadTheSlot =
    (p : Premise) (vars : List VarId) (role : ℕ) → Contains (roles_read p) role → Contains (slot_vars p vars) (at_role role vars)

-- What a lost premise of a freed tuple asks about is untouched too.
abbrev pub FreedPremisesAreUntouched : Type 0
FreedPremisesAreUntouched =
    (grammar : Grammar) (infos : List VarInfo) (before after : Answer) (slots : List Slot)
    (now : Now) (candidates : List (RowId × List VarId)) (row : RowId) (vars : List VarId)
    → (freed : IsFreed grammar infos before after slots now candidates row vars) → is_touched now (slot_vars freed.premise vars) ≡ false

-- The freed tuples can be had by rising rank. None is of rank 0. To candidates that have those of lower ranks the ones of rank n are added
-- that the candidates so far free. Beyond the last rank there are no more.
pub record FreedByRank (grammar : Grammar) (infos : List VarInfo) (before after : Answer) (slots : List Slot) (now : Now) : Type 0 where
  pub none : (candidates : List (RowId × List VarId)) → HaveFreedBelow grammar infos before after slots now candidates 1
  pub more : (n : ℕ) (candidates added : List (RowId × List VarId)) → HaveFreedBelow grammar infos before after slots now candidates n
      → All (λ (c : RowId × List VarId). rank_of c.0 ≡ n) added
      → ((row : RowId) (vars : List VarId) → rank_of row ≡ n
      → IsFreed grammar infos before after slots now candidates row vars → Contains (candidates ++ added) (row, vars))
      → HaveFreedBelow grammar infos before after slots now (candidates ++ added) (suc n)
  pub all : (candidates : List (RowId × List VarId)) → HaveFreedBelow grammar infos before after slots now candidates rank_bound
      → (row : RowId) (vars : List VarId)
      → IsFreed grammar infos before after slots now candidates row vars → Contains candidates (row, vars)

abbrev pub FreedTuplesComeByRank : Type 0
FreedTuplesComeByRank =
    (grammar : Grammar) (infos : List VarInfo) (before after : Answer) (slots : List Slot) (now : Now)
    → FreedByRank grammar infos before after slots now

-- A tuple that has a slot now and had none, and isn't touched, has the leaders of an old slot by which a premise is lost, of a row that
-- reaches its row.
abbrev pub OpenedTuplesAreFreed : Type 0
OpenedTuplesAreFreed = OfStep (λ grammar infos samples sample kept now. (slot : Slot)
    → IsSlot grammar infos (samples ++ sample ∷ []) now.leaders now.known slot
    → slot_at kept.slots slot.row slot.leaders ≡ None → is_touched now slot.leaders ≡ false
    → (old : Slot) × IsFreedBy sample kept.slots slot.row slot.leaders old)

-- A touched tuple of leaders is one of those with a first leader that touches; and a freed one is one of those with the variables of the
-- lost premise's slot at the roles that the premise reads.
abbrev pub TouchedTuplesAreChosen : Type 0
TouchedTuplesAreChosen =
    (now : Now) (vars : List VarId) → Lead now.leaders vars → IsTrue (is_touched now vars)
    → (k : ℕ) × (k < length vars) × Contains (tuples_from (touched_choices now k (length vars))) vars

abbrev pub FreedTuplesAreChosen : Type 0
FreedTuplesAreChosen =
    (now : Now) (vars : List VarId) → Lead now.leaders vars → is_touched now vars ≡ false → (p : Premise)
    → Contains (tuples_from (freed_choices now p (slot_vars p vars) 0 (length vars))) vars

-- where a sample changes nothing, so are the slots as they stand
abbrev pub UnchangedSlotsAreExact : Type 0
UnchangedSlotsAreExact = OfStep (λ grammar infos samples sample kept now. ChangesNothing sample kept now
    → AreSlots grammar infos (samples ++ sample ∷ []) now.leaders now.known kept.slots)

-- A rule begins to suppress a slot only where the slot was Empty and the present leaders are a new pattern, or where a bound of elements
-- over its variables begins.
abbrev pub FewSlotsClose : Type 0
FewSlotsClose = OfStep (λ grammar infos samples sample kept now. (after : Answer) → Tells grammar infos (samples ++ sample ∷ []) after
    → (held : List Held) → ArePatterns (own_leaders now.leaders) samples held
    → (slot : Slot) → Contains kept.slots slot → is_suppressed after slot.row slot.leaders ≡ true
    → ((slot.state ≡ Empty) × (pattern_count held (present_in (own_leaders now.leaders) sample) ≡ 0))
    ⊎ ((bound : Slot) × IsBegunBound kept.slots sample slot bound))

-- the own leaders ascend, and where no class splits they stay
abbrev pub OwnLeadersAscend : Type 0
OwnLeadersAscend = (leaders : List VarId) → VarsAscend (own_leaders leaders)

abbrev pub UnsplitLeadersStay : Type 0
UnsplitLeadersStay = OfStep (λ grammar infos samples sample kept now. now.new ≡ [] → own_leaders now.leaders ≡ own_leaders kept.leaders)

-- of the first sample alone there are no slots, since each leader has one value
abbrev pub FirstSampleHasNoSlots : Type 0
FirstSampleHasNoSlots =
    (grammar : Grammar) (infos : List VarInfo) (sample : List Value) (leaders : List VarId)
    → AreLeaders (var_kinds infos) (sample ∷ []) leaders
    → (known : Entries) → AreConstants (own_leaders leaders) (sample ∷ []) known → AreSlots grammar infos (sample ∷ []) leaders known []

-- ---- all parts
-- what is kept of the samples with one more
abbrev pub FedPartsAreKept : Type 0
FedPartsAreKept = OfStep (λ grammar infos samples sample kept now. (held : List Held)
    → ArePatterns (own_leaders now.leaders) (samples ++ sample ∷ []) held
    → (slots : List Slot) → AreSlots grammar infos (samples ++ sample ∷ []) now.leaders now.known slots
    → IsKeptOf grammar infos (samples ++ sample ∷ [])
    (record { samples = capped (kept.samples + 1); leaders = now.leaders; known = now.known; held = held; slots = slots }))

-- what is kept of the first sample
abbrev pub FirstPartsAreKept : Type 0
FirstPartsAreKept =
    (grammar : Grammar) (infos : List VarInfo) (sample : List Value) (leaders : List VarId)
    → AreLeaders (var_kinds infos) (sample ∷ []) leaders
    → (known : Entries) → AreConstants (own_leaders leaders) (sample ∷ []) known
    → (held : List Held) → ArePatterns (own_leaders leaders) (sample ∷ []) held
    → IsKeptOf grammar infos (sample ∷ []) (record { samples = 1; leaders = leaders; known = known; held = held; slots = [] })
