-- What the next block tells a consumer.
use Rattle.std.proofs.Common.{◌≡◌, ◌∙◌, ◌++◌, ◌∷◌, [], ℕ, true, false, List, Option, Some, None, is_some, Ok, Err, IfSome, ap, refl, subst, sym}
use Rattle.std.proofs.lemmas.List.{append-nil}
use Rattle.dk_base.specs.Values.{values_of}
use Rattle.dk_base.specs.declared.faults.Fault.{Fault}
use Rattle.dk_base.specs.declared.faults.Fault.TheVariants as f
use Rattle.dk_blocks.proofs.Added.{next_added}
use Rattle.dk_blocks.specs.Adding.{Adds}
use Rattle.dk_blocks.specs.History.{Declares, Effect, History, Nothing, Samples as SamplesEffect, Taken, effect_of, own_samples_with}
use Rattle.dk_blocks.specs.Reading.{stepped}
use Rattle.dk_blocks.specs.Standing.{ReaderStandsFor, Stands as ReaderKeeps, points_of as points_in}
use Rattle.dk_blocks.specs.Steps.{Steps, groups_left}
use Rattle.dk_blocks.specs.declared.reader.Reader.{Reader}
use Rattle.dk_base.specs.declared.values.Value.{Value}
use Rattle.dk_derive.specs.Laws.{all_vars_of}
use Rattle.dk_derive.specs.Values.{values_by_form}
use Rattle.dk_events.specs.Following.{Following}
use Rattle.dk_events.specs.Standing.{EventsStandFor, NextEvent, ignores_of, over_of, points_of}
use Rattle.dk_events.specs.Telling.{derived_effect, told}
use Rattle.dk_events.specs.declared.event.Event.{Event}
use Rattle.dk_events.specs.declared.event.Event.TheVariants as event
use Rattle.dk_lines.specs.Reading.{Reading}
use Rattle.dk_points.specs.Table.{Point}
use Rattle.dk_driver.specs.Consuming.{Record, Samples, Tells, Told}
use Rattle.dk_driver.specs.Standing.{StandsFor, told_by}
use Rattle.dk_driver.specs.Steps.{NextBlock}
use Rattle.dk_driver.specs.Walks.{records_in}
use Rattle.dk_driver.specs.declared.feed.Feed.{Feed}

-- the reader has the table of the history that it stands for
pub table_of : (r : Reader) (h : History) → ReaderStandsFor r h → points_in r ≡ h.table
unfolding ReaderKeeps
table_of r h stands = stands.table

-- what was told behind a block
abbrev pub told_behind : ℕ → History → Option Effect → List Record → Told
told_behind place h effect records = told_by h (records ++ records_in place (record { history = h; effect = effect }))

-- what an event tells is what the block adds
effect_told : (place : ℕ) (h h' : History) (records : List Record) (e : Event) (effect : Option Effect) → told (Some e) ≡ derived_effect h'.table effect → Adds h effect h'
    → Tells place e (told_by h records) (told_behind place h' effect records)
effect_told place h h' records e None is adds = absurd (cc is)
effect_told place h h' records event.Nothing (Some Nothing) is adds =
    let none = append-nil records in
    let table = adds.table in
    let samples = adds.samples in
    cc (none, table, samples)
effect_told place h h' records event.Nothing (Some Declares) is adds = absurd (cc is)
effect_told place h h' records event.Nothing (Some (SamplesEffect p n base)) is adds = absurd (cc is)
effect_told place h h' records event.Declared (Some Nothing) is adds = absurd (cc is)
effect_told place h h' records event.Declared (Some Declares) is adds =
    record { more = adds.more; points_are = adds.table; samples_are = adds.samples; records_are = append-nil records }
effect_told place h h' records event.Declared (Some (SamplesEffect p n base)) is adds = absurd (cc is)
effect_told place h h' records (event.Sample point line values) (Some Nothing) is adds = absurd (cc is)
effect_told place h h' records (event.Sample point line values) (Some Declares) is adds = absurd (cc is)
effect_told place h h' records (event.Sample point line values) (Some (SamplesEffect p n base)) is adds =
    let at : p ≡ point.0 = cc is in
    let number : n ≡ line = cc is in
    let sample : values_of values.now ≡ values_by_form (all_vars_of h'.table p) base = cc is in
    record {
      base = base;
      points_are = adds.table;
      derived = sample ∙ ap (λ (ps : List Point). values_by_form (all_vars_of ps p) base) adds.table
          ∙ ap (λ (k : ℕ). values_by_form (all_vars_of h.table k) base) at;
      samples_are = adds.samples ∙ ap (λ (k : ℕ). own_samples_with h.samples k base) at;
      records_are = ap (λ (ps : List Point). records ++ record { table = ps; file = place; line = n; point = p; values = base } ∷ []) adds.table
          ∙ ap (λ (k : ℕ). records ++ record { table = h.table; file = place; line = k; point = p; values = base } ∷ []) number
          ∙ ap (λ (k : ℕ). records ++ record { table = h.table; file = place; line = line; point = k; values = base } ∷ []) at;
    }

-- ---- what the next block tells
module _ {C : Type 0} (Stands : C → Told → Type 0) (place : ℕ) where
  -- a block that is taken
  pub taken_on : (s s' : Feed C) (events : Following) (h : History) (records : List Record) (r new : Reading) (o left : Option (List ℕ)) (e : Event) → s'.events ≡ events
      → ((old all : Told) → all.points ≡ points_of events → Stands s.consumer old → Tells place e old all → Stands s'.consumer all)
      → StandsFor Stands s h records
      → IfSome o (λ xs. NextEvent s.events h r xs (Ok (events, Some e)) new left) → IfSome o (λ xs. NextBlock Stands s place h records r xs (Ok (s', true)) new left)
  taken_on s s' events h records r new None left e same takes stands gives = tt
  taken_on s s' events h records r new (Some xs) left e same takes stands (h', holds, (effect, is, (ys, at, steps))) =
      let taken : Taken = record { history = h'; effect = effect } in
      let adds = next_added (ignores_of s.events) h (groups_left (over_of s.events) r true xs) (stepped taken (groups_left (over_of events) new true ys)) steps.takes in
      let now : points_of events ≡ h'.table = table_of events.reader h' holds in
      let found : true ≡ is_some effect = some_told h'.table effect is in (
        h',
        (
          effect,
          record {
            events = subst (λ (f : Following). EventsStandFor f h') (sym same) holds;
            consumer = takes (told_by h records) (told_behind place h' effect records) (sym now) stands.consumer (effect_told place h h' records e effect is adds.0);
          },
          found,
          (ys, at, subst (λ (f : Following). Steps (ignores_of s.events) (effect_of (ignores_of s.events) h) (over_of s.events) r xs (Ok taken) (over_of f) new ys) (sym same) steps),
        ),
      )
    where
      some_told : (ps : List Point) (effect : Option Effect) → told (Some e) ≡ derived_effect ps effect → true ≡ is_some effect
      some_told ps None is = absurd (cc is)
      some_told ps (Some x) is = refl

  -- no block
  pub none_on : (s s' : Feed C) (h : History) (records : List Record) (r new : Reading) (o left : Option (List ℕ)) → s'.consumer ≡ s.consumer → StandsFor Stands s h records
      → IfSome o (λ xs. NextEvent s.events h r xs (Ok (s'.events, None)) new left) → IfSome o (λ xs. NextBlock Stands s place h records r xs (Ok (s', false)) new left)
  none_on s s' h records r new None left same stands gives = tt
  none_on s s' h records r new (Some xs) left same stands (h', holds, (effect, is, (ys, at, steps))) =
      let none : effect ≡ None = nothing_told h'.table effect is in
      let taken : Taken = record { history = h'; effect = effect } in
      let adds = next_added (ignores_of s.events) h (groups_left (over_of s.events) r true xs) (stepped taken (groups_left (over_of s'.events) new true ys)) steps.takes in
      let nothing = subst (λ (o : Option Effect). Adds h o h') none adds.0 in
      let own = subst (λ (c : C). Stands c (told_by h records)) (sym same) stands.consumer in (
        h',
        (
          effect,
          record { events = holds; consumer = subst (λ (t : Told). Stands s'.consumer t) (same_told h h' records effect none nothing.table nothing.samples) own },
          sym (ap (λ (o : Option Effect). is_some o) none),
          (ys, at, steps),
        ),
      )
    where
      nothing_told : (ps : List Point) (effect : Option Effect) → told None ≡ derived_effect ps effect → effect ≡ None
      nothing_told ps None is = refl
      nothing_told ps (Some x) is = absurd (cc is)

      same_told : (h h' : History) (records : List Record) (effect : Option Effect) → effect ≡ None → h'.table ≡ h.table → h'.samples ≡ h.samples
          → told_by h records ≡ told_behind place h' effect records
      same_told h h' records effect none table samples =
          ap (λ (ps : List Point). record { points = ps; samples = h.samples; records = records }) (sym table)
          ∙ ap (λ (all : Samples). record { points = h'.table; samples = all; records = records }) (sym samples)
          ∙ ap (λ (l : List Record). told_by h' l) (sym (append-nil records))
          ∙ ap (λ (o : Option Effect). told_behind place h' o records) (sym none)

  -- a fault is that of the events
  pub fault_on : (s : Feed C) (h : History) (records : List Record) (r new : Reading) (o left : Option (List ℕ)) (fault : Fault)
      → IfSome o (λ xs. NextEvent s.events h r xs (Err fault) new left) → IfSome o (λ xs. NextBlock Stands s place h records r xs (Err fault) new left)
  fault_on s h records r new None left fault gives = tt
  fault_on s h records r new (Some xs) left fault gives = gives

  -- running out of memory tells nothing
  pub memory_on : (s : Feed C) (h : History) (records : List Record) (r new : Reading) (o left : Option (List ℕ)) (fault : Fault)
      → fault ≡ f.NoMemory → IfSome o (λ xs. NextBlock Stands s place h records r xs (Err fault) new left)
  memory_on s h records r new None left fault is = tt
  memory_on s h records r new (Some xs) left fault is = subst (λ (x : Fault). NextBlock Stands s place h records r xs (Err x) new left) (sym is) tt
