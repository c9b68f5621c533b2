-- The engines behind what a block does.
use Rattle.std.proofs.Common.{◌≡◌, ◌∙◌, ◌<◌, ◌++◌, ℕ, Bool, true, false, List, [], ◌∷◌, length, slice_get, slice_set, Option, Some, None, Result, Ok, Err, IfSome, ap, arith, refl, subst, sym}
use Rattle.std.proofs.lemmas.List.{append-nil}
use Rattle.dk_base.specs.Reading.{LineFault}
use Rattle.dk_base.specs.Shapes.{AreWithDerived}
use Rattle.dk_base.specs.declared.faults.Fault.{Fault}
use Rattle.dk_base.specs.declared.kinds.VarInfo.{VarInfo}
use Rattle.dk_base.specs.declared.values.Value.{Value}
use Rattle.dk_derive.specs.Laws.{base_of, var_kinds}
use Rattle.dk_derive.specs.Values.{values_by_form}
use Rattle.dk_engine.specs.Reading.Levels.{Whole}
use Rattle.dk_hierarchy.specs.Samples.{OwnSamples, all_vars_of, own_samples_of}
use Rattle.dk_hierarchy.specs.Standing.{AreEnginesOf, EngineStandsFor, EnginesStandFor}
use Rattle.dk_lines.specs.Reading.{Reading}
use Rattle.dk_points.specs.Table.{Point}
use Rattle.dk_points.specs.Vars.{vars_of}
use Rattle.dk_trace.specs.Fitting.{FitKinds}
use Rattle.dk_blocks.proofs.Added.{next_added}
use Rattle.dk_points.specs.declared.declared.Declared.{Declared}
use Rattle.dk_points.specs.declared.declared.Declared.TheVariants.{New, Same}
use Rattle.dk_blocks.proofs.Derived.{are_derived, base_among}
use Rattle.dk_blocks.proofs.Stepping.{refused_behind}
use Rattle.dk_blocks.specs.Adding.{AddsNothing, AddsPoints, AddsSample}
use Rattle.dk_blocks.specs.Finding.{outcome_of}
use Rattle.dk_blocks.specs.History.{Declares, History, Nothing, Taken, effect_of, no_block}
use Rattle.dk_blocks.specs.Reading.{stepped}
use Rattle.dk_blocks.specs.Standing.{ReaderStandsFor, Stands as ReaderKeeps, over_of as over_in, points_of as points_in}
use Rattle.dk_blocks.specs.Steps.{DeclareGives, NextBlock, RefusedAs, Steps, groups_left}
use Rattle.dk_blocks.specs.declared.found.Found.{Found}
use Rattle.dk_blocks.specs.declared.reader.Reader.{Reader}
use Rattle.dk_core.proofs.Keeping.{engines_fed, stand_grown}
use Rattle.dk_core.specs.Growing.{AreGrown}
use Rattle.dk_core.specs.Keeping.{IsSound, Keeping}
use Rattle.dk_core.specs.Standing.{Stands}
use Rattle.dk_core.specs.Steps.{NextKept}
use Rattle.dk_core.specs.Taking.{EnginesWere, TakenAs}
use Rattle.dk_core.specs.declared.kept.SessionParts.{SessionParts}

-- the reader has the table of the history that it stands for, and that has samples for each point
pub table_of : (r : Reader) (h : History) → ReaderStandsFor r h → points_in r ≡ h.table
unfolding ReaderKeeps
table_of r h stands = stands.table

many_of : (r : Reader) (h : History) → ReaderStandsFor r h → length h.samples ≡ length h.table
unfolding ReaderKeeps
many_of r h stands = stands.many

-- where all that is kept stands for a history, the reader does
pub reads_of : (k : SessionParts) (h : History) → Stands k h → ReaderStandsFor k.reader h
unfolding Stands
reads_of k h stands = stands.reader

-- what is kept of a history, before the next block is taken
pub were : (k : Keeping) (reader : Reader) (h : History) → IsSound k → Stands k h → EnginesWere (record k { reader = reader }) h
unfolding Stands
were k reader h sound stands =
    let long : length k.engines ≡ length h.table = sound.engines.long ∙ ap length (table_of k.reader h stands.reader) in
    record { long = long; many = many_of k.reader h stands.reader; engines = stands.engines; grammar = stands.grammar }

-- with the reader gone on
moved : (k : Keeping) (reader : Reader) (h : History) → EnginesWere k h → EnginesWere (record k { reader = reader }) h
moved k reader h were = record { long = were.long; many = were.many; engines = were.engines; grammar = were.grammar }

-- ---- one block

pub nothing_taken : (k : Keeping) (h h' : History) → EnginesWere k h → AddsNothing h h' → h'.grammar ≡ h.grammar → ReaderStandsFor k.reader h' → Stands k h'
unfolding Stands
nothing_taken k h h' were adds grammar stands = record {
  reader = stands;
  engines = subst (λ (ps : List Point). EnginesStandFor k.engines (own_samples_of ps h'.samples)) (sym adds.table)
      (subst (λ (own : OwnSamples). EnginesStandFor k.engines (own_samples_of h.table own)) (sym adds.samples) were.engines);
  grammar = were.grammar ∙ sym grammar;
}

pub points_taken : (k : Keeping) (all : List Whole) (h h' : History) → EnginesWere k h → AreGrown (points_in k.reader) k.grammar k.engines all → AddsPoints h h' → h'.grammar ≡ h.grammar → ReaderStandsFor k.reader h'
    → Stands (record k { engines = all }) h'
unfolding Stands
points_taken k all h h' were grown adds grammar stands =
    let table : points_in k.reader ≡ h'.table = table_of k.reader h' stands in
    let own = subst (λ (ps : List Point). AreGrown ps k.grammar k.engines all) table grown in
    record {
      reader = stands;
      engines = subst (λ (samples : OwnSamples). EnginesStandFor all (own_samples_of h'.table samples)) (sym adds.samples)
          (stand_grown h.table h'.table k.grammar k.engines all h.samples (length adds.more) (adds.more, adds.table) were.many were.long own were.engines);
      grammar = were.grammar ∙ sym grammar;
    }

pub sample_taken : (k : Keeping) (p : ℕ) (old new : Whole) (values : List Value) (h h' : History) → EnginesWere k h → AreEnginesOf (points_in k.reader) k.engines → slice_get k.engines p ≡ Some old → p < length k.engines
    → ((samples : List (List Value)) → EngineStandsFor old samples → EngineStandsFor new (samples ++ values_by_form old.infos values ∷ []))
    → AddsSample h h' p values → h'.grammar ≡ h.grammar → ReaderStandsFor k.reader h' → Stands (record k { engines = slice_set k.engines p new }) h'
unfolding Stands
sample_taken k p old new values h h' were are at there fed adds grammar stands =
    let table : points_in k.reader ≡ h.table = table_of k.reader h' stands ∙ adds.table in
    let infos : old.infos ≡ all_vars_of h.table p = (are.variables p old at).0 ∙ ap (λ (ps : List Point). all_vars_of ps p) table in
    record {
      reader = stands;
      engines = subst (λ (ps : List Point). EnginesStandFor (slice_set k.engines p new) (own_samples_of ps h'.samples)) (sym adds.table)
          (subst (λ (own : OwnSamples). EnginesStandFor (slice_set k.engines p new) (own_samples_of h.table own)) (sym adds.samples)
          (engines_fed h.table k.engines h.samples p old new values (omega (arith, there, were.long, were.many)) at
          (λ samples own. subst (λ (vars : List VarInfo). EngineStandsFor new (samples ++ values_by_form vars values ∷ [])) infos (fed samples own)) were.engines));
      grammar = were.grammar ∙ sym grammar;
    }

-- ---- the engine of a sample's point

pub engine_stands : (k : Keeping) (p : ℕ) (engine : Whole) (h : History) → slice_get k.engines p ≡ Some engine → Stands k h → EngineStandsFor engine (own_samples_of h.table h.samples p)
unfolding Stands
engine_stands k p engine h at stands = stands.engines p engine at

pub engine_derived : (ps : List Point) (engines : List Whole) (p : ℕ) (old : Whole) → AreEnginesOf ps engines → slice_get engines p ≡ Some old → AreWithDerived old.infos
engine_derived ps engines p old are at = subst AreWithDerived (sym (are.variables p old at).0) (are_derived ps p)

pub base_fits : (ps : List Point) (engines : List Whole) (p : ℕ) (old : Whole) (values : List Value) → AreEnginesOf ps engines → slice_get engines p ≡ Some old → FitKinds (var_kinds (vars_of ps p)) values
    → FitKinds (var_kinds (base_of old.infos)) values
base_fits ps engines p old values are at fits =
    let P : List VarInfo → Type 0 = λ vars. FitKinds (var_kinds (base_of vars)) values in
    subst P (sym (are.variables p old at).0) (base_among ps p values fits)

-- ---- what the next block tells

-- a block that is taken
pub taken_on : (ignores : Bool) (k : Keeping) (reader : Reader) (k' : Keeping) (h : History) (r new : Reading) (o left : Option (List ℕ)) (found : Found) → IsSound k → over_in k'.reader ≡ over_in reader
    → ((now : History) → ReaderStandsFor reader now → TakenAs (record k { reader = reader }) h (Ok k') (outcome_of now (Some found)))
    → IfSome o (λ xs. NextBlock ignores k.reader h r xs (Ok (reader, Some found)) new left) → IfSome o (λ xs. NextKept ignores k h r xs (Ok (k', true)) new left)
taken_on ignores k reader k' h r new None left found sound over takes gives = tt
taken_on ignores k reader k' h r new (Some xs) left found sound over takes (now, stands, (ys, at, steps)) =
    let t = takes now stands in
    let taken : Taken = record { history = t.0; effect = Some t.2.0 } in
    let own = subst (λ (outcome : Result Taken LineFault). Steps ignores (effect_of ignores h) (over_in k.reader) r xs outcome (over_in reader) new ys) t.2.1 steps in
    let adds = next_added ignores h (groups_left (over_in k.reader) r true xs) (stepped taken (groups_left (over_in reader) new true ys)) own.takes in
    (t.0, t.1, λ own_kept. t.2.2 (were k reader h sound own_kept) adds.0 adds.1, (Some t.2.0, refl, (ys, at, subst (λ (b : Bool). Steps ignores (effect_of ignores h) (over_in k.reader) r xs (Ok taken) b new ys) (sym over) own)))

-- one that is refused
pub refused_on : (ignores : Bool) (k : Keeping) (reader : Reader) (h : History) (r new : Reading) (o left : Option (List ℕ)) (found : Found) (fault : Fault)
    → ((now : History) → ReaderStandsFor reader now → RefusedAs fault (outcome_of now (Some found)))
    → IfSome o (λ xs. NextBlock ignores k.reader h r xs (Ok (reader, Some found)) new left) → IfSome o (λ xs. NextKept ignores k h r xs (Err fault) new left)
refused_on ignores k reader h r new None left found fault refuses gives = tt
refused_on ignores k reader h r new (Some xs) left found fault refuses gives = refused_behind ignores k.reader reader h r new xs left (Some found) fault refuses gives

-- no block
pub none_on : (ignores : Bool) (k : Keeping) (reader : Reader) (h : History) (r new : Reading) (o left : Option (List ℕ)) → IsSound k
    → IfSome o (λ xs. NextBlock ignores k.reader h r xs (Ok (reader, None)) new left) → IfSome o (λ xs. NextKept ignores k h r xs (Ok (record k { reader = reader }, false)) new left)
none_on ignores k reader h r new None left sound gives = tt
none_on ignores k reader h r new (Some xs) left sound (now, stands, (ys, at, steps)) =
    let adds = next_added ignores h (groups_left (over_in k.reader) r true xs) (stepped (no_block now) (groups_left (over_in reader) new true ys)) steps.takes in
    (now, stands, λ own. nothing_taken (record k { reader = reader }) h now (were k reader h sound own) adds.0 adds.1 stands, (None, refl, (ys, at, steps)))

-- a fault is the reader's
pub fault_on : (ignores : Bool) (k : Keeping) (h : History) (r new : Reading) (o left : Option (List ℕ)) (fault : Fault)
    → IfSome o (λ xs. NextBlock ignores k.reader h r xs (Err fault) new left) → IfSome o (λ xs. NextKept ignores k h r xs (Err fault) new left)
fault_on ignores k h r new None left fault gives = tt
fault_on ignores k h r new (Some xs) left fault gives = gives

-- ---- a declaration that is taken

-- what it does
pub declared_taken : (k : Keeping) (reader : Reader) (x : Declared) (all : List Whole) (h : History) (outcome : Result Taken LineFault) → AreGrown (points_in reader) k.grammar k.engines all
    → DeclareGives (Ok (reader, x)) outcome → TakenAs k h (Ok (record { reader = reader; grammar = k.grammar; engines = all })) outcome
declared_taken k reader (New p) all h outcome grown (now, stands, comes) =
    (now, stands, (Declares, comes, λ were adds grammar. points_taken (record k { reader = reader }) all h now (moved k reader h were) grown adds grammar stands))
declared_taken k reader (Same p) all h outcome grown (now, stands, comes) =
    (now, stands, (Nothing, comes, λ were adds grammar. points_taken (record k { reader = reader }) all h now (moved k reader h were) grown (none_more h now adds) grammar stands))
  where
    none_more : (h now : History) → AddsNothing h now → AddsPoints h now
    none_more h now adds = record { more = []; table = adds.table ∙ sym (append-nil h.table); samples = adds.samples ∙ sym (append-nil h.samples) }
