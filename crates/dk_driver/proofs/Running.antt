-- Reading file after file.
use Rattle.std.proofs.Common.{◌≡◌, ◌≢◌, ◌≤◌, ◌<◌, ◌⊎◌, ◌+◌, ◌-◌, ◌^◌, min, ℕ, zero, suc, List, [], ◌∷◌, ◌++◌, map, take, length, inl, inr, Bool, true, false, Option, Some, None, Result, Ok, Err, refl, sym, ◌∙◌, ap, subst, arith, append_assoc}
use Rattle.std.proofs.lemmas.Bool.{cases_lt}
use Rattle.std.proofs.lemmas.List.{append-nil, length-map, take_all}
use Rattle.dk_base.specs.Reading.{LineFault}
use Rattle.dk_base.specs.declared.why.Why.{Why}
use Rattle.dk_blocks.specs.Blocks.{groups_of}
use Rattle.dk_blocks.specs.History.{History, file_ended, no_history}
use Rattle.dk_blocks.specs.Steps.{groups_left}
use Rattle.dk_io.specs.Outside.{HeldFile, Absent, Holds, Rose}
use Rattle.dk_lines.specs.Left.{lined}
use Rattle.dk_lines.specs.Reading.{Reading, room_of}
use Rattle.dk_driver.proofs.Trails.{onto_more}
use Rattle.dk_driver.specs.AllFiles.{AreReadTo, AreRefusedAt, AreShortTo, AreUnreadAt, BeginsFresh, FilesGive, GoesOn, IsCleanTo, TracesAreReadTo}
use Rattle.dk_driver.specs.Consuming.{Told}
use Rattle.dk_driver.specs.Files.{AreHeldFiles, FaultAt, File, ended_file, file_name_at}
use Rattle.dk_driver.specs.Reads.{AreClean, AreRead, AtStart, FaultSays, HasCause, IsPlaced, IsRefusedAt, IsUnreadAt, ReadingSays, Within, held_file_at, helds_of, rest_behind}
use Rattle.dk_driver.specs.Standing.{StandsBehind, StandsFor}
use Rattle.dk_driver.specs.Trails.{Outset, Step, Trail, behind_steps, fault_in, line_limit, then_files, trail_behind, trail_of, trail_of_file, trail_of_files}
use Rattle.dk_driver.specs.Walks.{fresh_start, records_of, walk_along, walk_of}
use Rattle.dk_driver.specs.WholeFile.{ComesToEnd, FileFaultGives, HasFault, IsBroken, IsShort, fault_at, fresh_reading, nothing_written}
use Rattle.dk_driver.specs.declared.fault.FileFault.{FileFault}
use Rattle.dk_driver.specs.declared.fault.FileFault.TheVariants as t
use Rattle.dk_driver.specs.declared.fault.FilesFault.{FilesFault}
use Rattle.dk_driver.specs.declared.feed.Feed.{Feed}
use Rattle.dk_driver.specs.declared.traces.Traces.{Traces}

-- ---- one file more, of those that are held
record OneMore (helds : List HeldFile) (contents : List (List ℕ)) (k : ℕ) : Type 0 where
  front : List (List ℕ)
  bytes : List ℕ
  split : contents ≡ front ++ bytes ∷ []
  held : AreHeldFiles (take k helds) front
  there : held_file_at helds k ≡ Holds bytes

first_and_more : (n : HeldFile) (c : List ℕ) (ns : List HeldFile) (cs : List (List ℕ)) (k : ℕ) → n ≡ Holds c → OneMore ns cs k → OneMore (n ∷ ns) (c ∷ cs) (suc k)
first_and_more n c ns cs k first m = let more = m.held in
    record { front = c ∷ m.front; bytes = m.bytes; split = ap (λ (l : List (List ℕ)). c ∷ l) m.split; held = cc (first, more); there = m.there }

one_more_suc : (helds : List HeldFile) (contents : List (List ℕ)) (k : ℕ) → k < length helds → AreHeldFiles (take (suc k) helds) contents → OneMore helds contents k
one_more_suc [] contents k h held = absurd (omega arith)
one_more_suc (n ∷ ns) [] k h held = absurd (cc (held))
one_more_suc (n ∷ ns) (c ∷ []) zero h held = record { front = []; bytes = c; split = refl; held = refl; there = cc (held) }
one_more_suc (n ∷ ns) (c ∷ d ∷ cs) zero h held = absurd (cc (held))
one_more_suc (n ∷ ns) (c ∷ cs) (suc k) h held = first_and_more n c ns cs k (cc (held)) (one_more_suc ns cs k (omega arith) (cc (held)))

one_more : (helds : List HeldFile) (contents : List (List ℕ)) (k : ℕ) → k < length helds → AreHeldFiles (take (k + 1) helds) contents → OneMore helds contents k
one_more helds contents k h held =
    let next : k + 1 ≡ suc k = omega arith in
    one_more_suc helds contents k h (subst (λ (n : ℕ). AreHeldFiles (take n helds) contents) next held)

files_of : (front : List (List ℕ)) (x : List ℕ) (fs : List File) → map ended_file (front ++ x ∷ []) ++ fs ≡ map ended_file front ++ (ended_file x ∷ fs)
files_of [] x fs = refl
files_of (c ∷ cs) x fs = ap (λ (l : List File). ended_file c ∷ l) (files_of cs x fs)

-- ---- the trail through one file more
-- the groups of a started file are those of its bytes
started_file : (ignores : Bool) (r : Reading) (h : History) (place : ℕ) (is_ended : Bool) (xs : List ℕ) → r.limits.line ≡ line_limit
    → trail_of_file ignores (room_of r) h place (record { bytes = xs; is_ended = is_ended }) ≡ trail_behind ignores place h (groups_left false (fresh_reading r) is_ended xs)
started_file ignores r h place is_ended xs limits = ap (λ (l : ℕ). trail_behind ignores place h (groups_of (lined l (room_of r) 0 is_ended xs))) (sym limits)

-- what the trail through a file comes to, and then those over the others
abbrev behind_file : Bool → ℕ → ℕ → List File → Trail LineFault → Trail FaultAt
behind_file ignores place room fs t = behind_steps t.steps (then_files place t.end (λ next. trail_of_files ignores room (file_ended next) (place + 1) fs))

-- the run goes on behind a file
trail_more : (ignores : Bool) (r last : Reading) (h next : History) (place : ℕ) (xs : List ℕ) (found : List Step) (fs : List File) → r.limits.line ≡ line_limit → room_of last ≡ room_of (fresh_reading r) - length xs
    → trail_behind ignores place h (groups_left false (fresh_reading r) true xs) ≡ record { steps = found; end = Ok next }
    → trail_of_files ignores (room_of r) h place (ended_file xs ∷ fs) ≡ behind_steps found (trail_of_files ignores (room_of last) (file_ended next) (place + 1) fs)
trail_more ignores r last h next place xs found fs limits room all =
    ap (behind_file ignores place (room_of r - length xs) fs) (started_file ignores r h place true xs limits ∙ all)
    ∙ ap (λ (m : ℕ). behind_steps found (trail_of_files ignores m (file_ended next) (place + 1) fs)) (sym room)

-- the run ends with a file's fault
trail_refused : (ignores : Bool) (r : Reading) (h : History) (found : List Step) (place : ℕ) (xs : List ℕ) (fs : List File) (fault : LineFault) → r.limits.line ≡ line_limit
    → trail_behind ignores place h (groups_left false (fresh_reading r) true xs) ≡ record { steps = found; end = Err fault }
    → trail_of_files ignores (room_of r) h place (ended_file xs ∷ fs) ≡ record { steps = found; end = Err (record { file = place; line = fault.line; why = fault.why }) }
trail_refused ignores r h found place xs fs fault limits all =
    ap (behind_file ignores place (room_of r - length xs) fs) (started_file ignores r h place true xs limits ∙ all)
    ∙ ap (λ (l : List Step). record { steps = l; end = Err (record { file = place; line = fault.line; why = fault.why }) }) (append-nil found)

-- the run up to a part of a file
trail_part : (ignores : Bool) (r : Reading) (h next : History) (found : List Step) (place : ℕ) (is_ended : Bool) (xs : List ℕ) → r.limits.line ≡ line_limit
    → trail_behind ignores place h (groups_left false (fresh_reading r) is_ended xs) ≡ record { steps = found; end = Ok next }
    → trail_of_files ignores (room_of r) h place (record { bytes = xs; is_ended = is_ended } ∷ []) ≡ record { steps = found; end = Ok (file_ended next) }
trail_part ignores r h next found place is_ended xs limits all =
    ap (behind_file ignores place (room_of r - length xs) []) (started_file ignores r h place is_ended xs limits ∙ all)
    ∙ ap (λ (l : List Step). record { steps = l; end = Ok (file_ended next) }) (append-nil found)

-- ---- reading on
there_more : (helds : List HeldFile) (place : ℕ) → ((k : ℕ) → k < place → held_file_at helds k ≢ Absent) → held_file_at helds place ≢ Absent → (k : ℕ) → k < place + 1 → held_file_at helds k ≢ Absent
there_more helds place below here k h = elim (cases_lt k place) [
  | inl l ↦ below k l
  | inr g ↦ let same : place ≡ k = omega (arith, g, h) in subst (λ (i : ℕ). held_file_at helds i ≢ Absent) same here
]

-- what the trail through the files so far comes to
pub alone : (start : Outset) (ignores : Bool) (before rest : Option (List ℕ)) (Stands : History → List Step → Type 0) (room first place : ℕ) (contents : List (List ℕ))
    → (on : GoesOn start ignores before rest Stands room first place contents) → trail_of start ignores (map ended_file contents) ≡ record { steps = on.steps; end = Ok on.history }
alone start ignores before rest Stands room first place contents on =
    ap (trail_of start ignores) (sym (append-nil (map ended_file contents))) ∙ on.goes []
    ∙ ap (λ (l : List Step). record { steps = l; end = Ok on.history }) (append-nil on.steps)

clean_more : (start : Outset) (ignores : Bool) (helds : List HeldFile) (place : ℕ) → IsCleanTo start ignores helds place
    → ((contents : List (List ℕ)) → AreHeldFiles (take (place + 1) helds) contents → fault_in (trail_of start ignores (map ended_file contents)).end ≡ None) → IsCleanTo start ignores helds (place + 1)
clean_more start ignores helds place clean here k contents h held = elim (cases_lt place k) [
  | inl more ↦ let same : k ≡ place + 1 = omega (arith, more, h) in here contents (subst (λ (n : ℕ). AreHeldFiles (take n helds) contents) same held)
  | inr less ↦ clean k contents less held
]

-- nothing is left of the inputs behind one file more
pub rest_next : (first place : ℕ) (before after : Option (List ℕ)) → first ≤ place → after ≡ Some [] → after ≡ rest_behind (place + 1 - first) before
rest_next first place before after h e = let next : suc (place - first) ≡ place + 1 - first = omega (arith, h) in subst (λ (n : ℕ). after ≡ rest_behind n before) next e

module _ (Begins : Outset → Type 0) (ignores : Bool) (helds : List HeldFile) (before mid : Option (List ℕ)) (Stands : Outset → History → List Step → Type 0) (first place : ℕ) (r : Reading) where
  -- one file more was read
  runs_on : (after left : Option (List ℕ)) (Next : Outset → History → List Step → Type 0) (last : Reading) (start : Outset) (contents : List (List ℕ)) → r.limits.line ≡ line_limit → place < length helds
      → (mid ≡ rest_behind (place - first) before → left ≡ Some [] → after ≡ rest_behind (place + 1 - first) before)
      → ((contents : List (List ℕ)) → AreHeldFiles (take place helds) contents → GoesOn start ignores before mid (Stands start) (room_of r) first place contents)
      → ((h : History) (steps : List Step) → Stands start h steps → (xs : List ℕ) → held_file_at helds place ≡ Holds xs → ComesToEnd ignores place h steps (fresh_reading r) xs (Next start) last left)
      → AreHeldFiles (take (place + 1) helds) contents → GoesOn start ignores before after (Next start) (room_of last) first (place + 1) contents
  runs_on after left Next last start contents limits within rest runs gives held =
      let m = one_more helds contents place within held in
      let on = runs m.front m.held in
      let e = gives on.history on.steps on.stands m.bytes m.there in
      record {
        history = file_ended e.next;
        steps = on.steps ++ e.found;
        stands = e.stands;
        rest_is = rest on.rest_is e.nothing_left;
        goes = λ fs.
            ap (λ (cs : List (List ℕ)). trail_of start ignores (map ended_file cs ++ fs)) m.split
            ∙ ap (trail_of start ignores) (files_of m.front m.bytes fs)
            ∙ on.goes (ended_file m.bytes ∷ fs)
            ∙ ap (behind_steps on.steps) (trail_more ignores r last on.history e.next place m.bytes e.found fs limits e.room e.all)
            ∙ onto_more on.steps e.found (trail_of_files ignores (room_of last) (file_ended e.next) (place + 1) fs);
      }

  module _ (limits : r.limits.line ≡ line_limit) (within : place < length helds) (read : AreReadTo Begins ignores helds before mid Stands (room_of r) first place) where
    pub read_on : (after left : Option (List ℕ)) (Next : Outset → History → List Step → Type 0) (last : Reading) → held_file_at helds place ≢ Absent
        → (mid ≡ rest_behind (place - first) before → left ≡ Some [] → after ≡ rest_behind (place + 1 - first) before)
        → ((start : Outset) (h : History) (steps : List Step) → Stands start h steps → (xs : List ℕ) → held_file_at helds place ≡ Holds xs → ComesToEnd ignores place h steps (fresh_reading r) xs (Next start) last left)
        → AreReadTo Begins ignores helds before after Next (room_of last) first (place + 1)
    read_on after left Next last there rest gives =
        let runs = λ (start : Outset) (begins : Begins start) (contents : List (List ℕ)) (held : AreHeldFiles (take (place + 1) helds) contents).
        runs_on after left Next last start contents limits within rest (read.runs start begins) (gives start) held in
        record {
          there = there_more helds place read.there there;
          clean = λ start begins. clean_more start ignores helds place (read.clean start begins)
              (λ contents held. ap (λ (t : Trail FaultAt). fault_in t.end) (alone start ignores before after (Next start) (room_of last) first (place + 1) contents (runs start begins contents held)));
          runs = runs;
        }

    -- a file is refused
    pub refused_on : (Wrote : Outset → List Step → Type 0) (line : ℕ) (why : Why) → held_file_at helds place ≢ Absent
        → ((start : Outset) (h : History) (steps : List Step) → Stands start h steps → (xs : List ℕ) → held_file_at helds place ≡ Holds xs → HasFault ignores place h steps (fresh_reading r) xs (Wrote start) (record { line = line; why = why }))
        → AreRefusedAt Begins ignores helds Wrote place line why
    refused_on Wrote line why there gives = record {
      there = there_more helds place read.there there;
      clean = read.clean;
      first = λ start begins contents held.
          let m = one_more helds contents place within held in
          let on = read.runs start begins m.front m.held in
          let e = gives start on.history on.steps on.stands m.bytes m.there in (
            on.steps ++ e.found,
            e.wrote,
            ap (λ (cs : List (List ℕ)). trail_of start ignores (map ended_file cs)) m.split
                ∙ ap (trail_of start ignores) (sym (append-nil (map ended_file (m.front ++ m.bytes ∷ []))) ∙ files_of m.front m.bytes [])
                ∙ on.goes (ended_file m.bytes ∷ [])
                ∙ ap (behind_steps on.steps) (trail_refused ignores r on.history e.found place m.bytes [] (record { line = line; why = why }) limits e.all),
          );
    }

    -- a file could not be started
    pub unstarted_on : (rest : Option (List ℕ)) (Wrote : Outset → List Step → Type 0) → rest ≡ mid → ((start : Outset) (h : History) (steps : List Step) → Stands start h steps → Wrote start steps)
        → AreUnreadAt AtStart Begins ignores helds before rest Wrote first place
    unstarted_on rest Wrote same wrote = record {
      there = read.there;
      clean = read.clean;
      left = λ start begins contents held.
          let on = read.runs start begins contents held in (
            same ∙ on.rest_is,
            subst (λ (t : Trail FaultAt). Wrote start t.steps) (sym (alone start ignores before mid (Stands start) (room_of r) first place contents on)) (wrote start on.history on.steps on.stands),
          );
    }

    -- a read of a file failed
    pub unread_on : (rest : Option (List ℕ)) (Wrote : Outset → List Step → Type 0)
        → ((start : Outset) (h : History) (steps : List Step) → Stands start h steps → (xs : List ℕ) → held_file_at helds place ≡ Holds xs → IsBroken ignores place h steps (fresh_reading r) xs (Wrote start) rest)
        → AreUnreadAt Within Begins ignores helds before rest Wrote first place
    unread_on rest Wrote gives = record {
      there = read.there;
      clean = read.clean;
      left = λ start begins contents held xs holds.
          let on = read.runs start begins contents held in
          let e = gives start on.history on.steps on.stands xs holds in
          let delivered : File = record { bytes = e.front; is_ended = e.is_ended } in
          let trail = on.goes (delivered ∷ []) ∙ ap (behind_steps on.steps) (trail_part ignores r on.history e.next e.found place e.is_ended e.front limits e.all) in (
            delivered,
            (e.rest, e.left_is, e.split, e.ended),
            ap (λ (t : Trail FaultAt). fault_in t.end) trail,
            subst (λ (t : Trail FaultAt). Wrote start t.steps) (sym trail) e.wrote,
          );
    }

    -- what was written is not all
    pub short_on : (Wrote : Outset → List Step → Type 0) → held_file_at helds place ≢ Absent
        → ((start : Outset) (h : History) (steps : List Step) → Stands start h steps → (xs : List ℕ) → held_file_at helds place ≡ Holds xs → IsShort ignores place h steps (fresh_reading r) xs (Wrote start))
        → AreShortTo Begins ignores helds Wrote
    short_on Wrote there gives = record {
      place = place + 1;
      there = there_more helds place read.there there;
      short = λ start begins contents held fs.
          let m = one_more helds contents place within held in
          let on = read.runs start begins m.front m.held in
          let e = gives start on.history on.steps on.stands m.bytes m.there in
          let behind = (then_files place (trail_of_file ignores (room_of r) on.history place (ended_file m.bytes)).end (λ n. trail_of_files ignores (room_of r - length m.bytes) (file_ended n) (place + 1) fs)).steps in
          let here : (trail_of_file ignores (room_of r) on.history place (ended_file m.bytes)).steps ≡ e.found ++ e.more =
          ap (λ (t : Trail LineFault). t.steps) (started_file ignores r on.history place true m.bytes limits) ∙ e.all in (
            on.steps ++ e.found,
            e.more ++ behind,
            e.wrote,
            ap (λ (cs : List (List ℕ)). (trail_of start ignores (map ended_file cs ++ fs)).steps) m.split
                ∙ ap (λ (l : List File). (trail_of start ignores l).steps) (files_of m.front m.bytes fs)
                ∙ ap (λ (t : Trail FaultAt). t.steps) (on.goes (ended_file m.bytes ∷ fs))
                ∙ ap (λ (l : List Step). on.steps ++ (l ++ behind)) here
                ∙ ap (λ (l : List Step). on.steps ++ l) (append_assoc e.found e.more behind)
                ∙ sym (append_assoc on.steps e.found (e.more ++ behind)),
          );
    }

-- no file was read yet
pub read_none : (Begins : Outset → Type 0) (ignores : Bool) (helds : List HeldFile) (before : Option (List ℕ)) (Stands : Outset → History → List Step → Type 0) (room first : ℕ)
    → ((start : Outset) → Begins start → Stands start start.history [] × (room ≡ start.room)) → AreReadTo Begins ignores helds before before Stands room first 0
read_none Begins ignores helds before Stands room first starts = record {
  there = λ k h. absurd (omega arith);
  clean = λ start begins k contents h held. nothing_clean start k contents h held;
  runs = λ start begins contents held. nothing_read start (starts start begins) contents held;
} where
  nothing_clean : (start : Outset) (k : ℕ) (contents : List (List ℕ)) → k ≤ 0 → AreHeldFiles (take k helds) contents → fault_in (trail_of start ignores (map ended_file contents)).end ≡ None
  nothing_clean start zero [] h held = refl
  nothing_clean start zero (c ∷ cs) h held = absurd (cc (held))
  nothing_clean start (suc k) contents h held = absurd (omega arith)

  nothing_read : (start : Outset) → Stands start start.history [] × (room ≡ start.room) → (contents : List (List ℕ)) → AreHeldFiles (take 0 helds) contents → GoesOn start ignores before before (Stands start) room first 0 contents
  nothing_read start (stands, is) [] held = record {
    history = start.history;
    steps = [];
    stands = stands;
    rest_is = let none : 0 ≡ 0 - first = omega arith in ap (λ (n : ℕ). rest_behind n before) none;
    goes = λ fs. ap (λ (m : ℕ). trail_of_files ignores m start.history 0 fs) (sym is);
  }
  nothing_read start starts (c ∷ cs) held = absurd (cc (held))

rose_within : (a b c limit : ℕ) → a ≤ b → min (b + 1) limit ≤ c → min (a + 1) limit ≤ c
rose_within a b c limit h r = omega arith

-- faults that rose in a later call rose in all calls
pub rose_since : (a b c : ℕ) → a ≤ b → Rose b c → Rose a c
rose_since a b c h r = rose_within a b c (2 ^ 64 - 1) h r

-- ---- files by their names
pub held_map : (file : List ℕ → HeldFile) (files : List (List ℕ)) (place : ℕ) → place < length files → held_file_at (map file files) place ≡ file (file_name_at files place)
held_map file [] place h = absurd (omega arith)
held_map file (f ∷ fs) zero h = refl
held_map file (f ∷ fs) (suc place) h = held_map file fs place (omega arith)

pub helds_length : (traces : Traces) (file : List ℕ → HeldFile) → length (helds_of traces file) ≡ length traces.names
helds_length traces file = length-map traces.names file

-- ---- the answers of a feed
clean_traces : (traces : Traces) (whole : ℕ) (file : List ℕ → HeldFile) (place : ℕ) → ((start : Outset) → BeginsFresh whole start → IsCleanTo start traces.ignore_missing_entry (helds_of traces file) place) → AreClean traces whole file place
unfolding walk_of
clean_traces traces whole file place clean k contents h held = clean (fresh_start whole) refl k contents h held

refused_traces : (traces : Traces) (whole : ℕ) (file : List ℕ → HeldFile) (place line : ℕ) (why : Why)
    → AreRefusedAt (BeginsFresh whole) traces.ignore_missing_entry (helds_of traces file) (λ start. nothing_written) place line why → IsRefusedAt traces whole file place line why
unfolding walk_of
refused_traces traces whole file place line why at = record {
  there = at.there;
  clean = clean_traces traces whole file place at.clean;
  first = λ contents held. let (steps, wrote, all) = at.first (fresh_start whole) refl contents held in ap (λ (t : Trail FaultAt). t.end) all;
}

unstarted_traces : (traces : Traces) (whole : ℕ) (file : List ℕ → HeldFile) (before rest : Option (List ℕ)) (place : ℕ)
    → AreUnreadAt AtStart (BeginsFresh whole) traces.ignore_missing_entry (helds_of traces file) before rest (λ start. nothing_written) 0 place → IsUnreadAt AtStart traces whole file before rest place
unstarted_traces traces whole file before rest place at = record {
  there = at.there;
  clean = clean_traces traces whole file place at.clean;
  left = λ contents held. let same : place - 0 ≡ place = omega arith in (at.left (fresh_start whole) refl contents held).0 ∙ ap (λ (n : ℕ). rest_behind n before) same;
}

unread_traces : (traces : Traces) (whole : ℕ) (file : List ℕ → HeldFile) (before rest : Option (List ℕ)) (place : ℕ)
    → AreUnreadAt Within (BeginsFresh whole) traces.ignore_missing_entry (helds_of traces file) before rest (λ start. nothing_written) 0 place → IsUnreadAt Within traces whole file before rest place
unfolding walk_of
unread_traces traces whole file before rest place at = record {
  there = at.there;
  clean = clean_traces traces whole file place at.clean;
  left = λ contents held xs holds. let (delivered, is, none, wrote) = at.left (fresh_start whole) refl contents held xs holds in (delivered, is, none);
}

module _ {C : Type 0} (Stands : C → Told → Type 0) (traces : Traces) (whole : ℕ) (file : List ℕ → HeldFile) (before mid : Option (List ℕ)) (feed : Feed C) (place : ℕ) (r : Reading) (name : List ℕ)
    (is : name ≡ file_name_at traces.names place) (within : place < length traces.names) (limits : r.limits.line ≡ line_limit) (read : TracesAreReadTo Stands traces whole file before mid feed (room_of r) place) where
  here : held_file_at (helds_of traces file) place ≡ file name
  here = held_map file traces.names place within ∙ ap file (sym is)

  below : place < length (helds_of traces file)
  below = omega (arith, within, helds_length traces file)

  -- a file of this name was read
  pub named_on : (after : Option (List ℕ)) (next : Feed C) (last : Reading) → file name ≢ Absent
      → ((h : History) (steps : List Step) → StandsBehind Stands feed h steps → (xs : List ℕ) → file name ≡ Holds xs → ComesToEnd traces.ignore_missing_entry place h steps (fresh_reading r) xs (StandsBehind Stands next) last after)
      → TracesAreReadTo Stands traces whole file before after next (room_of last) (place + 1)
  named_on after next last there gives =
      read_on (BeginsFresh whole) traces.ignore_missing_entry (helds_of traces file) before mid (λ start. StandsBehind Stands feed) 0 place r limits below read
      after after (λ start. StandsBehind Stands next) last (λ absent. there (sym here ∙ absent)) (λ same e. rest_next 0 place before after (omega arith) e)
      (λ start h steps stands xs holds. gives h steps stands xs (sym here ∙ holds))

  -- and a fault with one
  pub named_fault : (rest : Option (List ℕ)) (fault : FileFault) → ((fault ≡ t.Start → ⊥) → file name ≢ Absent) → (fault ≡ t.Start → rest ≡ mid)
      → ((h : History) (steps : List Step) → StandsBehind Stands feed h steps → (xs : List ℕ) → file name ≡ Holds xs → FileFaultGives traces.ignore_missing_entry place h steps r xs fault rest)
      → FaultSays traces whole file before (fault_at place fault) rest
  named_fault rest (t.Refused line why) there unstarted gives = refused_traces traces whole file place line why
      (refused_on (BeginsFresh whole) traces.ignore_missing_entry (helds_of traces file) before mid (λ start. StandsBehind Stands feed) 0 place r limits below read
      (λ start. nothing_written) line why (λ absent. there (λ e. cc (e)) (sym here ∙ absent)) (λ start h steps stands xs holds. gives h steps stands xs (sym here ∙ holds)))
  named_fault rest t.Start there unstarted gives = unstarted_traces traces whole file before rest place
      (unstarted_on (BeginsFresh whole) traces.ignore_missing_entry (helds_of traces file) before mid (λ start. StandsBehind Stands feed) 0 place r limits below read
      rest (λ start. nothing_written) (unstarted refl) (λ start h steps stands. tt))
  named_fault rest t.Read there unstarted gives = unread_traces traces whole file before rest place
      (unread_on (BeginsFresh whole) traces.ignore_missing_entry (helds_of traces file) before mid (λ start. StandsBehind Stands feed) 0 place r limits below read
      rest (λ start. nothing_written) (λ start h steps stands xs holds. gives h steps stands xs (sym here ∙ holds)))
  named_fault rest t.NoMemory there unstarted gives = tt

pub named_cause : {A : Type 0} (traces : Traces) (file : List ℕ → HeldFile) (place : ℕ) (name : List ℕ) (r : Result A FileFault) (fault : FileFault) (a b c : ℕ) → r ≡ Err fault
    → name ≡ file_name_at traces.names place → place < length traces.names → a ≤ b
    → (r ≢ Err t.Start → file name ≢ Absent) → (r ≡ Err t.Start → (file name ≡ Absent) ⊎ Rose b c) → (r ≡ Err t.Read → Rose b c)
    → HasCause traces file (Rose a c) (fault_at place fault)
named_cause traces file place name r (t.Refused line why) a b c e is within h there start read = tt
named_cause traces file place name r t.Start a b c e is within h there start read = elim (start e) [
  | inl absent ↦ inl (held_map file traces.names place within ∙ ap file (sym is) ∙ absent)
  | inr rose ↦ inr (rose_since a b c h rose)
]
named_cause traces file place name r t.Read a b c e is within h there start read =
    (λ absent. there (λ s. cc (e, s)) (sym (held_map file traces.names place within ∙ ap file (sym is)) ∙ absent), rose_since a b c h (read e))
named_cause traces file place name r t.NoMemory a b c e is within h there start read = tt

-- a fault at one of the files
pub placed : (n place : ℕ) (fault : FileFault) → place < n → IsPlaced n (fault_at place fault)
placed n place (t.Refused line why) within = within
placed n place t.Start within = within
placed n place t.Read within = within
placed n place t.NoMemory within = tt

-- ---- all files
pub traces_begin : {C : Type 0} (Stands : C → Told → Type 0) (traces : Traces) (file : List ℕ → HeldFile) (before : Option (List ℕ)) (feed : Feed C) (room : ℕ) → StandsFor Stands feed no_history []
    → TracesAreReadTo Stands traces room file before before feed room 0
traces_begin Stands traces file before feed room stands =
    read_none (BeginsFresh room) traces.ignore_missing_entry (helds_of traces file) before (λ start. StandsBehind Stands feed) room 0
    (λ start begins. (subst (λ (s : Outset). StandsFor Stands feed s.history []) (sym begins) stands, ap (λ (s : Outset). s.room) (sym begins)))

pub all_read : {C : Type 0} (Stands : C → Told → Type 0) (traces : Traces) (whole : ℕ) (file : List ℕ → HeldFile) (before rest : Option (List ℕ)) (feed : Feed C) (room : ℕ)
    → TracesAreReadTo Stands traces whole file before rest feed room (length traces.names) → AreRead traces whole file before rest (StandsFor Stands feed)
unfolding walk_of
all_read Stands traces whole file before rest feed room read = record {
  there = read.there;
  clean = clean_traces traces whole file (length traces.names) read.clean;
  come_to = λ contents held.
      let all = take_all (length traces.names) (helds_of traces file) (omega (arith, helds_length traces file)) in
      let on = read.runs (fresh_start whole) refl contents (subst (λ (l : List HeldFile). AreHeldFiles l contents) (sym all) held) in
      let number : length traces.names - 0 ≡ length traces.names = omega arith in
      record {
        history = on.history;
        records = records_of on.steps;
        walk = ap walk_along (alone (fresh_start whole) traces.ignore_missing_entry before rest (StandsBehind Stands feed) room 0 (length traces.names) contents on);
        stands = on.stands;
        rest_is = on.rest_is ∙ ap (λ (n : ℕ). rest_behind n before) number;
      };
}

-- what reading all files says
pub files_say : {C : Type 0} (Stands : C → Told → Type 0) (traces : Traces) (whole : ℕ) (file : List ℕ → HeldFile)
    (before rest : Option (List ℕ)) (r : Result (Feed C) FilesFault) (last : Reading) → FilesGive Stands traces whole file before r last rest
    → ReadingSays Stands traces whole file before r rest
files_say Stands traces whole file before rest (Ok feed) last read = all_read Stands traces whole file before rest feed (room_of last) read
files_say Stands traces whole file before rest (Err fault) last says = says
