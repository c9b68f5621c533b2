-- What a run begins with.
use Rattle.std.proofs.Common.{◌≡◌, ◌≢◌, ◌≤◌, ◌<◌, ◌-◌, inl, inr, ℕ, false, List, [], ◌∷◌, length, Option, Some, None, IfErr, IfSome, IsErrOf, Result, Ok, Err, refl, sym, ◌∙◌, ap, subst, arith}
use Rattle.std.specs.Io.KnownBytes.{prepend_known}
use Rattle.dk_io.specs.Outside.{HeldFile, Absent, DeliversUpTo, Holds, Rose, Starts}
use Rattle.dk_io.specs.declared.whole.AllFault.{AllFault}
use Rattle.dk_io.specs.declared.whole.AllFault.TheVariants as all
use Rattle.dk_state.specs.Spelling.{IsSpelling}
use Rattle.dk_blocks.specs.History.{History, no_history}
use Rattle.dk_core.specs.Resuming.{HasTableOfState, state_file}
use Rattle.dk_core.specs.Standing.{SessionReadsFor, SessionStandsFor, blocks_of, over_of}
use Rattle.dk_command_line.specs.declared.command.Command.{Command}
use Rattle.dk_run.specs.Beginning.{IsBegun, IsLeft, IsResumed, IsUnloaded, IsWhole, StartFaultGives, StateFaultGives, fault_of_read}
use Rattle.dk_run.specs.Courses.{Outset, first_start, total_limit}
use Rattle.dk_run.specs.Starts.{Begins, BeginsLike, HasBegun}
use Rattle.dk_run.specs.Telling.{ReportsBy}
use Rattle.dk_run.specs.WholeFile.{GoesOnFrom}
use Rattle.dk_run.specs.declared.starting.Beginning.{Beginning}
use Rattle.dk_driver.specs.declared.fault.FileFault.{FileFault}
use Rattle.dk_driver.specs.declared.fault.FileFault.TheVariants as b
use Rattle.dk_driver.proofs.Running.{rose_since}

-- ---- reading the state file
pub there_started : (held : HeldFile) (rest : Option (List ℕ)) → Starts held rest → held ≢ Absent
there_started held rest starts absent = subst (λ (h : HeldFile). Starts h rest) absent starts

pub told_started : (held : HeldFile) (rest : Option (List ℕ)) (xs : List ℕ) → Starts held rest → held ≡ Holds xs → rest ≡ Some xs
told_started held rest xs starts holds = subst (λ (h : HeldFile). Starts h rest) holds starts

nothing_behind : (xs : List ℕ) (rest : Option (List ℕ)) → Some xs ≡ prepend_known xs rest → rest ≡ Some []
nothing_behind xs None e = absurd (cc (e))
nothing_behind [] (Some ys) e = sym e
nothing_behind (x ∷ xs) (Some ys) e = nothing_behind xs (Some ys) (cc (e))

pub whole_read : (held : HeldFile) (text : List ℕ) (mid rest : Option (List ℕ)) → Starts held mid → length text ≤ total_limit → IfSome mid (λ bytes. text ≡ bytes) → mid ≡ prepend_known text rest
    → IsWhole held text rest
whole_read held text mid rest starts short is delivered = record {
  there = there_started held mid starts;
  short = short;
  all = λ xs holds.
      let told = told_started held mid xs starts holds in
      let same : text ≡ xs = subst (λ (o : Option (List ℕ)). IfSome o (λ bytes. text ≡ bytes)) told is in
      (same, nothing_behind xs rest (sym told ∙ delivered ∙ ap (λ (l : List ℕ). prepend_known l rest) same));
}

pub unread_fault : {A : Type 0} (held : HeldFile) (mid rest before : Option (List ℕ)) (a b c : ℕ) (result : Result A AllFault) (fault : AllFault) → result ≡ Err fault → Starts held mid → a ≤ b
    → (IsErrOf result all.TooLong → IfSome mid (λ bytes. total_limit < length bytes)) → (IsErrOf result all.Read → DeliversUpTo total_limit mid rest) → (IsErrOf result all.Read → Rose b c)
    → StateFaultGives held (Rose a c) before rest (fault_of_read fault)
unread_fault held mid rest before a b c result all.Read is starts later long delivers rose =
    ((there_started held mid starts, rose_since a b c later (rose is)), λ xs holds. subst (λ (o : Option (List ℕ)). DeliversUpTo total_limit o rest) (told_started held mid xs starts holds) (delivers is))
unread_fault held mid rest before a b c result all.TooLong is starts later long delivers rose = (
  refl,
  (
    there_started held mid starts,
    inl refl,
    λ xs holds. inl (refl, subst (λ (o : Option (List ℕ)). IfSome o (λ bytes. total_limit < length bytes)) (told_started held mid xs starts holds) (long is)),
  ),
)
unread_fault held mid rest before a b c result all.NoMemory is starts later long delivers rose = tt

-- ---- beginning
begins_new : (resume : Option (List ℕ)) (file : List ℕ → HeldFile) (start : Outset) → resume ≡ None → BeginsLike resume file start → start ≡ first_start
begins_new None file start none begins = begins
begins_new (Some name) file start none begins = absurd (cc (none))

begun_new : (resume : Option (List ℕ)) (file : List ℕ → HeldFile) → resume ≡ None → HasBegun resume file
begun_new None file none = tt
begun_new (Some name) file none = absurd (cc (none))

pub new_begun : {F : Type 0} (command : Command) (b : Beginning F) → command.resume ≡ None → SessionStandsFor b.session no_history → SessionReadsFor b.session no_history → b.room ≡ total_limit → blocks_of b.session ≡ 0 → over_of b.session ≡ false
    → ReportsBy command b.session → (file : List ℕ → HeldFile) → IsBegun command file b
new_begun command b none stands reads room counts over reports file = record {
  begun = begun_new command.resume file none;
  starts = λ start begins. let same = begins_new command.resume file start none begins in
      record {
        from = record {
          reads = subst (λ (s : Outset). SessionReadsFor b.session s.history) (sym same) reads;
          stands = λ begun. subst (λ (s : Outset). SessionStandsFor b.session s.history) (sym same) stands;
        };
        room_is = room ∙ ap (λ (s : Outset). s.room) (sym same);
      };
  room = omega (arith, room);
  counts = counts;
  over = over;
  reports = reports;
}

pub new_left : (resume : Option (List ℕ)) (file : List ℕ → HeldFile) (before rest : Option (List ℕ)) → resume ≡ None → rest ≡ before → IsLeft resume file before rest
new_left None file before rest none same start begins = same
new_left (Some name) file before rest none same start begins = absurd (cc (none))

pub new_fault : (resume : Option (List ℕ)) (file : List ℕ → HeldFile) (rose : Type 0) (before rest : Option (List ℕ)) (fault : FileFault) → resume ≡ None → fault ≡ b.NoMemory
    → StartFaultGives resume file rose before rest fault
new_fault None file rose before rest fault none is = is
new_fault (Some name) file rose before rest fault none is = absurd (cc (none))

-- the state of the start is the file's bytes
same_state : (name : List ℕ) (file : List ℕ → HeldFile) (state : List ℕ) (rest : Option (List ℕ)) (h : History) → IsWhole (file name) state rest → file name ≡ Holds (state_file h) → state_file h ≡ state
same_state name file state rest h whole holds = sym (whole.all (state_file h) holds).0

resumed_stands : {F : Type 0} (command : Command) (name : List ℕ) (file : List ℕ → HeldFile) (state : List ℕ) (rest : Option (List ℕ)) (b : Beginning F) (start : Outset) → IsWhole (file name) state rest
    → IsResumed command state b → Begins (Some name) file start → SessionStandsFor b.session start.history
resumed_stands command name file state rest b start whole resumed (h, begin, holds, short, same) =
    subst (λ (s : Outset). SessionStandsFor b.session s.history) (sym same) (resumed.stands h begin (same_state name file state rest h whole holds))

-- what is read behind the file's bytes
resumed_reads : {F : Type 0} (command : Command) (name : List ℕ) (file : List ℕ → HeldFile) (state : List ℕ) (rest : Option (List ℕ)) (b : Beginning F) (start : Outset) → IsWhole (file name) state rest
    → IsResumed command state b → BeginsLike (Some name) file start → SessionReadsFor b.session start.history × (b.room ≡ start.room)
resumed_reads command name file state rest b start whole resumed (xs, holds, short, from, room) =
    let same = (whole.all xs holds).0 in (
      resumed.reads start.history (subst (λ (l : List ℕ). HasTableOfState l start.history) (sym same) from),
      resumed.room ∙ ap (λ (l : List ℕ). total_limit - length l) same ∙ sym room,
    )

begun_of : {F : Type 0} (command : Command) (resume : Option (List ℕ)) (name : List ℕ) (file : List ℕ → HeldFile) (state : List ℕ) (rest : Option (List ℕ)) (b : Beginning F) → resume ≡ Some name
    → IsWhole (file name) state rest → IsResumed command state b
    → HasBegun resume file × ((start : Outset) → BeginsLike resume file start → GoesOnFrom (Begins resume file start) b.session start.history × (b.room ≡ start.room))
begun_of command None name file state rest b is whole resumed = absurd (cc (is))
begun_of command (Some other) name file state rest b is whole resumed =
    let here : other ≡ name = cc (is) in
    let there : IsWhole (file other) state rest = subst (λ (n : List ℕ). IsWhole (file n) state rest) (sym here) whole in (
      record {
        there = there.there;
        is_state = λ xs holds. let same = (there.all xs holds).0 in
            (subst (λ (l : List ℕ). length l ≤ total_limit) same there.short, subst IsSpelling same resumed.spelling);
      },
      λ start begins. let told = resumed_reads command other file state rest b start there resumed begins in
          (record { reads = told.0; stands = λ begun. resumed_stands command other file state rest b start there resumed begun }, told.1),
    )

pub resumed_begun : {F : Type 0} (command : Command) (name : List ℕ) (file : List ℕ → HeldFile) (state : List ℕ) (rest : Option (List ℕ)) (b : Beginning F) → command.resume ≡ Some name
    → IsWhole (file name) state rest → IsResumed command state b → IsBegun command file b
resumed_begun command name file state rest b is whole resumed =
    let both = begun_of command command.resume name file state rest b is whole resumed in
    let less : total_limit - length state ≤ total_limit = omega arith in
    record {
      begun = both.0;
      starts = λ start begins. let told = both.1 start begins in record { from = told.0; room_is = told.1 };
      room = subst (λ (n : ℕ). n ≤ total_limit) (sym resumed.room) less;
      counts = resumed.counts;
      over = resumed.over;
      reports = resumed.reports;
    }

pub resumed_left : (resume : Option (List ℕ)) (name : List ℕ) (file : List ℕ → HeldFile) (state : List ℕ) (before rest : Option (List ℕ)) → resume ≡ Some name → IsWhole (file name) state rest
    → IsLeft resume file before rest
resumed_left None name file state before rest is whole start begins = absurd (cc (is))
resumed_left (Some other) name file state before rest is whole start (xs, holds, short, from, room) =
    let here : other ≡ name = cc (is) in
    (whole.all xs (ap file (sym here) ∙ holds)).1

unloaded_gives : (held : HeldFile) (rose : Type 0) (state : List ℕ) (before rest : Option (List ℕ)) (fault : FileFault) → IsWhole held state rest → IsUnloaded state fault
    → StateFaultGives held rose before rest fault
unloaded_gives held rose state before rest (b.Refused line why) whole bad = (
  bad.0,
  (
    whole.there,
    inr bad.1,
    λ xs holds. let same = (whole.all xs holds).0 in
        inr (bad.1, subst (λ (l : List ℕ). length l ≤ total_limit) same whole.short, λ spelling. bad.2 (subst IsSpelling (sym same) spelling)),
  ),
)
unloaded_gives held rose state before rest b.Start whole bad = absurd bad
unloaded_gives held rose state before rest b.Read whole bad = absurd bad
unloaded_gives held rose state before rest b.NoMemory whole bad = tt

pub state_fault : (resume : Option (List ℕ)) (name : List ℕ) (file : List ℕ → HeldFile) (rose : Type 0) (before rest : Option (List ℕ)) (fault : FileFault) → resume ≡ Some name
    → StateFaultGives (file name) rose before rest fault → StartFaultGives resume file rose before rest fault
state_fault None name file rose before rest fault is gives = absurd (cc (is))
state_fault (Some other) name file rose before rest fault is gives =
    let here : other ≡ name = cc (is) in subst (λ (n : List ℕ). StateFaultGives (file n) rose before rest fault) (sym here) gives

pub load_fault : (resume : Option (List ℕ)) (name : List ℕ) (file : List ℕ → HeldFile) (rose : Type 0) (state : List ℕ) (before rest : Option (List ℕ)) (fault : FileFault) → resume ≡ Some name
    → IsWhole (file name) state rest → IsUnloaded state fault → StartFaultGives resume file rose before rest fault
load_fault resume name file rose state before rest fault is whole bad =
    state_fault resume name file rose before rest fault is (unloaded_gives (file name) rose state before rest fault whole bad)

pub if_err : {A E : Type 0} (r : Result A E) (P Q : E → Type 0) → IfErr r P → ((e : E) → P e → Q e) → IfErr r Q
if_err (Ok x) P Q p f = p
if_err (Err e) P Q p f = f e p
