-- What the definitions of fits, counts and instances come to.
use Rattle.std.specs.Prelude.{◌≡◌, ◌↔◌, ◌<◌, ◌+◌, ◌==◌, ◌||◌, Bool, true, false, not, All, Contains, IsTrue, List, [], ◌∷◌, ◌++◌, length, if◌then◌else◌}
use Rattle.std.specs.List.{AllPairs, AllZip, list_all}
use Rattle.dk_base.specs.Values.Spelling.{IsWritten}
use Rattle.dk_base.specs.Values.{IsOfKind}
use Rattle.dk_base.specs.declared.kinds.VarId.{VarId}
use Rattle.dk_base.specs.declared.kinds.VarInfo.{VarInfo}
use Rattle.dk_base.specs.declared.values.Value.{Value}
use Rattle.dk_forms.specs.Laws.{SameSet}
use Rattle.dk_forms.specs.declared.states.State.TheVariants.{Empty, Broken, Holds}
use Rattle.dk_instances.specs.Fits.{fit, holds, is_whole, tuple_in, tuples_of}
use Rattle.dk_instances.specs.Instances.{ComesBefore, IsInstance, instances_of}
use Rattle.dk_presence.specs.Patterns.{capped, count_of}
use Rattle.dk_meanings.specs.Meanings.{relation_of, state_of}
use Rattle.dk_samples.specs.Samples.{Agree}
use Rattle.dk_template.specs.Admitted.{admits}
use Rattle.dk_template.specs.Exchange.{exchange, exchanged_state, turned_state, written_order}
use Rattle.dk_template.specs.Joins.{joined}
use Rattle.dk_template.specs.Proper.{IsProper}
use Rattle.dk_template.specs.Templates.{IsRow, arity_of, form_of, template_of}
use Rattle.dk_template.specs.declared.exchange.Exchange.{Exchange}
use Rattle.dk_template.specs.declared.exchange.Exchange.TheVariants.{First, Last}
use Rattle.dk_template.specs.declared.grammar.Grammar.{Grammar}
use Rattle.dk_template.specs.declared.grammar.RowId.{RowId}
use Rattle.dk_template.specs.declared.templates.StateForm.TheVariants as form
use Rattle.dk_template.specs.declared.templates.Symmetry.{Symmetry}
use Rattle.dk_template.specs.declared.templates.Symmetry.TheVariants as symmetry

-- ---- fits
-- on no samples
abbrev pub FitsOfNoSamples : Type 0
FitsOfNoSamples = (row : RowId) → IsRow row → (vars : List VarId) → fit row vars [] ≡ Empty

-- on two lists of samples together
abbrev pub FitsJoin : Type 0
FitsJoin =
    (row : RowId) → IsRow row → (vars : List VarId) (first second : List (List Value))
    → fit row vars (first ++ second) ≡ joined (form_of row) (fit row vars first) (fit row vars second)

-- on the same samples in any order and with any repeats
abbrev pub FitsAreOfSets : Type 0
FitsAreOfSets =
    (row : RowId) → IsRow row → (vars : List VarId) (first second : List (List Value))
    → SameSet first second → fit row vars first ≡ fit row vars second

-- a sample more: one in which a variable is missing changes nothing, and any other one joins with its tuple
abbrev pub SamplesJoinOneByOne : Type 0
SamplesJoinOneByOne =
    (row : RowId) → IsRow row → (vars : List VarId) (samples : List (List Value)) (sample : List Value)
    → fit row vars (samples ++ sample ∷ [])
    ≡ (if is_whole (tuple_in vars sample) then joined (form_of row) (fit row vars samples) (state_of row (tuple_in vars sample ∷ []))
    else fit row vars samples)

-- over variables that have one tuple in all samples
abbrev pub FitsOfOneTuple : Type 0
FitsOfOneTuple =
    (row : RowId) → IsRow row → (vars : List VarId) (tuple : List Value) (samples : List (List Value))
    → 0 < length samples → All (λ s. tuple_in vars s ≡ tuple) samples
    → fit row vars samples ≡ (if is_whole tuple then state_of row (tuple ∷ []) else Empty)

-- one of the variables is missing in the sample, or their values satisfy the row's relation
abbrev pub satisfies : RowId → List VarId → List Value → Bool
satisfies row vars sample = not (is_whole (tuple_in vars sample)) || relation_of row (tuple_in vars sample)

-- of a row with a relation: Empty where the variables are present together in no sample, and else Holds or Broken
abbrev pub PlainFitsTellTheirRelation : Type 0
PlainFitsTellTheirRelation =
    (row : RowId) → IsRow row → form_of row ≡ form.Plain → (vars : List VarId) (samples : List (List Value))
    → fit row vars samples ≡ (if count_of vars samples == 0 then Empty else if list_all (satisfies row vars) samples then Holds else Broken)

-- it holds where there is such a sample and each of them satisfies the relation
abbrev pub PlainRowsHold : Type 0
PlainRowsHold =
    (row : RowId) → IsRow row → form_of row ≡ form.Plain → (vars : List VarId) (samples : List (List Value))
    → IsTrue (holds row vars samples) ↔ ((0 < count_of vars samples) × All (λ s. IsTrue (satisfies row vars s)) samples)

-- a sample of these variables: each value is the missing one or of its variable's kind, and one that some text writes
pub record IsSample (infos : List VarInfo) (sample : List Value) : Type 0 where
  pub kinds : AllZip (λ (info : VarInfo) x. IsOfKind info.kind x) infos sample
  pub written : All IsWritten sample

-- over variables that the row admits, on samples of them
abbrev pub FitsAreProper : Type 0
FitsAreProper =
    (row : RowId) → IsRow row → (infos : List VarInfo) (vars : List VarId)
    → admits row infos vars ≡ true → (samples : List (List Value)) → All (IsSample infos) samples
    → IsProper (form_of row) (fit row vars samples)

-- ---- variables in another order
-- the two neighbouring roles may be exchanged
abbrev pub may_exchange : Symmetry → Exchange → Bool
may_exchange symmetry.Fixed e = false
may_exchange symmetry.All e = true
may_exchange symmetry.Arguments First = false
may_exchange symmetry.Arguments Last = true

-- over variables of which two such neighbours are exchanged
abbrev pub SymmetricRowsExchange : Type 0
SymmetricRowsExchange =
    (row : RowId) → IsRow row → (e : Exchange) → may_exchange (template_of row).symmetry e ≡ true
    → (vars : List VarId) → length vars ≡ arity_of row → (samples : List (List Value))
    → fit row (exchange e vars) samples ≡ exchanged_state e (fit row vars samples)

-- over variables in any order: the fit over them in written order, turned
abbrev pub FitsTurn : Type 0
FitsTurn =
    (row : RowId) → IsRow row → (vars : List VarId) → length vars ≡ arity_of row → (samples : List (List Value))
    → fit row vars samples ≡ turned_state row vars (fit row (written_order row vars) samples)

-- ---- counts
-- the number of the tuples
abbrev pub CountsAreOfTuples : Type 0
CountsAreOfTuples = (vars : List VarId) (samples : List (List Value)) → count_of vars samples ≡ capped (length (tuples_of vars samples))

-- on two lists of samples together
abbrev pub CountsAdd : Type 0
CountsAdd =
    (vars : List VarId) (first second : List (List Value))
    → count_of vars (first ++ second) ≡ capped (count_of vars first + count_of vars second)

-- of no variables
abbrev pub CountsOfNoVariables : Type 0
CountsOfNoVariables = (samples : List (List Value)) → count_of [] samples ≡ capped (length samples)

-- ---- variables that agree
-- each of the variables agrees with the one of the others at its place
abbrev pub AreAlike : List (List Value) → List VarId → List VarId → Type 0
AreAlike samples vars others = AllZip (Agree samples) vars others

abbrev pub AgreeingVariablesFitAlike : Type 0
AgreeingVariablesFitAlike =
    (samples : List (List Value)) (vars others : List VarId) → AreAlike samples vars others
    → (row : RowId) → fit row vars samples ≡ fit row others samples

abbrev pub AgreeingVariablesCountAlike : Type 0
AgreeingVariablesCountAlike =
    (samples : List (List Value)) (vars others : List VarId)
    → AreAlike samples vars others → count_of vars samples ≡ count_of others samples

-- ---- instances
-- exactly these are listed
abbrev pub InstancesAreListed : Type 0
InstancesAreListed =
    (grammar : Grammar) (infos : List VarInfo) (row : RowId) (vars : List VarId)
    → Contains (instances_of grammar infos) (row, vars) ↔ IsInstance grammar infos row vars

-- each of them comes before the later ones, so none comes twice
abbrev pub InstancesAscend : Type 0
InstancesAscend = (grammar : Grammar) (infos : List VarInfo) → AllPairs ComesBefore (instances_of grammar infos)
