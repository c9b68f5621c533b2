-- The files of a run, one after another: the named ones stand behind the generated one.
use Rattle.std.proofs.Common.{◌≡◌, ◌≢◌, ◌≤◌, ◌<◌, ◌⊎◌, ◌+◌, ◌-◌, ℕ, suc, List, [], ◌∷◌, ◌++◌, map, length, inl, inr, Bool, if◌then◌else◌, Option, Some, None, Result, Ok, Err, refl, sym, ◌∙◌, ap, subst, arith}
use Rattle.std.proofs.lemmas.List.{append-nil, length-map}
use Rattle.std.specs.Option.{option_map_or}
use Rattle.dk_generate.specs.Generated.{generated_text}
use Rattle.dk_generate.specs.Texts.{generated_name}
use Rattle.dk_graph.proofs.Places.{bytes_eq-same}
use Rattle.dk_io.specs.NamedFiles.{bytes_of, held_or_empty}
use Rattle.dk_io.specs.Outside.{HeldFile, Absent, Holds, Rose}
use Rattle.dk_lines.specs.Reading.{Reading, room_of}
use Rattle.dk_blocks.specs.History.{History}
use Rattle.dk_core.specs.Standing.{blocks_of}
use Rattle.dk_core.specs.declared.session.Session.{Session}
use Rattle.dk_command_line.specs.declared.command.Command.{Command}
use Rattle.dk_driver.proofs.Running.{held_map, read_none, read_on, refused_on, rest_next, rose_since, short_on, unread_on, unstarted_on}
use Rattle.dk_driver.specs.Files.{ended_file, file_name_at}
use Rattle.dk_driver.specs.Reads.{held_file_at, rest_behind}
use Rattle.dk_driver.specs.Trails.{Outset, Step, trail_of}
use Rattle.dk_driver.specs.WholeFile.{ComesToEnd, HasFault, IsShort}
use Rattle.dk_run.specs.AllFiles.{AreReadTo, FilesTroubleGives, HasBrokenAt, IsShortTo, files_trouble}
use Rattle.dk_run.specs.Commands.{file_names, generated_count, helds_of}
use Rattle.dk_run.specs.Courses.{line_limit}
use Rattle.dk_run.specs.Beginning.{BeginsFrom}
use Rattle.dk_run.specs.Starts.{Begins, BeginsLike}
use Rattle.dk_run.specs.WholeFile.{FileGives, FileTroubleGives, IsBehind, IsNoBreak, IsWritten, IsWrittenInPart, TextGives, fresh_reading}
use Rattle.dk_run.specs.declared.reading.Trouble.{Trouble}
use Rattle.dk_run.specs.declared.reading.Trouble.TheVariants as t
use Rattle.dk_run.proofs.Filing.{due_none}

-- ---- places
held_behind : (g : Option ℕ) (file : List ℕ → HeldFile) (files : List (List ℕ)) (index : ℕ) → index < length files
    → held_file_at (option_map_or (λ n. Holds (generated_text n) ∷ map file files) g (map file files)) (option_map_or (λ n. 1) g 0 + index) ≡ file (file_name_at files index)
held_behind None file files index h = let same : 0 + index ≡ index = omega arith in ap (held_file_at (map file files)) same ∙ held_map file files index h
held_behind (Some n) file files index h = let same : 1 + index ≡ suc index = omega arith in ap (held_file_at (Holds (generated_text n) ∷ map file files)) same ∙ held_map file files index h

pub held_named : (command : Command) (file : List ℕ → HeldFile) (index : ℕ) → index < length command.files → held_file_at (helds_of command file) (generated_count command + index) ≡ file (file_name_at command.files index)
held_named command file index h = held_behind command.generate file command.files index h

name_behind : (g : Option ℕ) (files : List (List ℕ)) (index : ℕ) → file_name_at (option_map_or (λ n. generated_name ∷ files) g files) (option_map_or (λ n. 1) g 0 + index) ≡ file_name_at files index
name_behind None files index = let same : 0 + index ≡ index = omega arith in ap (file_name_at files) same
name_behind (Some n) files index = let same : 1 + index ≡ suc index = omega arith in ap (file_name_at (generated_name ∷ files)) same

pub name_named : (command : Command) (index : ℕ) → file_name_at (file_names command) (generated_count command + index) ≡ file_name_at command.files index
name_named command index = name_behind command.generate command.files index

helds_length_of : (g : Option ℕ) (file : List ℕ → HeldFile) (files : List (List ℕ)) → length (option_map_or (λ n. Holds (generated_text n) ∷ map file files) g (map file files)) ≡ option_map_or (λ n. 1) g 0 + length files
helds_length_of None file files = length-map files file ∙ omega arith
helds_length_of (Some n) file files = ap suc (length-map files file) ∙ omega arith

pub helds_length : (command : Command) (file : List ℕ → HeldFile) → length (helds_of command file) ≡ generated_count command + length command.files
helds_length command file = helds_length_of command.generate file command.files

names_length_of : (g : Option ℕ) (files : List (List ℕ)) → length (option_map_or (λ n. generated_name ∷ files) g files) ≡ option_map_or (λ n. 1) g 0 + length files
names_length_of None files = omega arith
names_length_of (Some n) files = omega arith

pub names_length : (command : Command) → length (file_names command) ≡ generated_count command + length command.files
names_length command = names_length_of command.generate command.files

-- ---- named files
-- the trail behind a start goes on with this of a run
abbrev BehindStart : {F : Type 0} → Command → (List ℕ → HeldFile) → Session F → List ℕ → Outset → History → List Step → Type 0
BehindStart command file s text start = IsBehind command (Begins command.resume file start) s text

module _ {F : Type 0} (command : Command) (file : List ℕ → HeldFile) (before mid : Option (List ℕ)) (s : Session F) (index : ℕ) (r : Reading) (told text name : List ℕ)
    (is : name ≡ file_name_at command.files index) (within : index < length command.files) (limits : r.limits.line ≡ line_limit)
    (read : AreReadTo command file before mid s (room_of r) (generated_count command + index) told) where
  here : held_file_at (helds_of command file) (generated_count command + index) ≡ file name
  here = held_named command file index within ∙ ap file (sym is)

  below : generated_count command + index < length (helds_of command file)
  below = omega (arith, within, helds_length command file)

  pub named_on : (after : Option (List ℕ)) (next : Session F) (last : Reading) → file name ≢ Absent
      → ((start : Outset) (h : History) (steps : List Step) → BehindStart command file s told start h steps → (xs : List ℕ) → file name ≡ Holds xs
      → FileGives command (Begins command.resume file start) (generated_count command + index) h steps r xs (told ++ text) (Ok next) last after)
      → AreReadTo command file before after next (room_of last) (generated_count command + (index + 1)) (told ++ text)
  named_on after next last there gives =
      let place : generated_count command + index + 1 ≡ generated_count command + (index + 1) = omega arith in
      subst (λ (n : ℕ). AreReadTo command file before after next (room_of last) n (told ++ text)) place
      (read_on (BeginsLike command.resume file) command.ignore_missing_entry (helds_of command file) before mid (BehindStart command file s told) (generated_count command) (generated_count command + index) r limits below read
      after after (BehindStart command file next (told ++ text)) last (λ absent. there (sym here ∙ absent)) (λ same e. rest_next (generated_count command) (generated_count command + index) before after (omega arith) e)
      (λ start h steps behind xs holds. gives start h steps behind xs (sym here ∙ holds)))

  pub named_trouble : (rest : Option (List ℕ)) (trouble : Trouble) → ((trouble ≡ t.Start → ⊥) → file name ≢ Absent) → (trouble ≡ t.Start → (text ≡ []) × (rest ≡ mid))
      → ((start : Outset) (h : History) (steps : List Step) → BehindStart command file s told start h steps → (xs : List ℕ) → file name ≡ Holds xs
      → FileTroubleGives command (Begins command.resume file start) (generated_count command + index) h steps r xs (told ++ text) trouble rest)
      → FilesTroubleGives command file before (told ++ text) (files_trouble (generated_count command + index) trouble) rest
  named_trouble rest (t.Refused line why) there unstarted gives = record {
    named = below;
    at = refused_on (BeginsLike command.resume file) command.ignore_missing_entry (helds_of command file) before mid (BehindStart command file s told) (generated_count command) (generated_count command + index) r limits below read
        (λ start. IsWritten command (Begins command.resume file start) (told ++ text)) line why (λ absent. there (λ e. cc (e)) (sym here ∙ absent))
        (λ start h steps behind xs holds. gives start h steps behind xs (sym here ∙ holds));
  }
  named_trouble rest t.Start there unstarted gives = record {
    behind = omega arith;
    named = below;
    at = unstarted_on (BeginsLike command.resume file) command.ignore_missing_entry (helds_of command file) before mid (BehindStart command file s told) (generated_count command) (generated_count command + index) r limits below read
        rest (λ start. IsWritten command (Begins command.resume file start) (told ++ text)) (unstarted refl).1
        (λ start h steps behind begun. ap (λ (l : List ℕ). told ++ l) (unstarted refl).0 ∙ append-nil told ∙ behind.written begun);
  }
  named_trouble rest t.Read there unstarted gives = record {
    behind = omega arith;
    named = below;
    at = unread_on (BeginsLike command.resume file) command.ignore_missing_entry (helds_of command file) before mid (BehindStart command file s told) (generated_count command) (generated_count command + index) r limits below read
        rest (λ start. IsWritten command (Begins command.resume file start) (told ++ text)) (λ start h steps behind xs holds. gives start h steps behind xs (sym here ∙ holds));
  }
  named_trouble rest t.Write there unstarted gives =
      short_on (BeginsLike command.resume file) command.ignore_missing_entry (helds_of command file) before mid (BehindStart command file s told) (generated_count command) (generated_count command + index) r limits below read
      (λ start. IsWrittenInPart command (Begins command.resume file start) (told ++ text)) (λ absent. there (λ e. cc (e)) (sym here ∙ absent))
      (λ start h steps behind xs holds. gives start h steps behind xs (sym here ∙ holds))
  named_trouble rest t.NoMemory there unstarted gives =
      short_on (BeginsLike command.resume file) command.ignore_missing_entry (helds_of command file) before mid (BehindStart command file s told) (generated_count command) (generated_count command + index) r limits below read
      (λ start. IsWrittenInPart command (Begins command.resume file start) (told ++ text)) (λ absent. there (λ e. cc (e)) (sym here ∙ absent))
      (λ start h steps behind xs holds. gives start h steps behind xs (sym here ∙ holds))

pub named_cause : {A : Type 0} (command : Command) (file : List ℕ → HeldFile) (index : ℕ) (name : List ℕ) (r : Result A Trouble) (trouble : Trouble) (a b c : ℕ) → r ≡ Err trouble
    → name ≡ file_name_at command.files index → index < length command.files → a ≤ b
    → (r ≢ Err t.Start → file name ≢ Absent) → (r ≡ Err t.Start → (file name ≡ Absent) ⊎ Rose b c) → (r ≡ Err t.Read → Rose b c)
    → HasBrokenAt (helds_of command file) (Rose a c) (files_trouble (generated_count command + index) trouble)
named_cause command file index name r (t.Refused line why) a b c e is within h there start read = tt
named_cause command file index name r t.Start a b c e is within h there start read = elim (start e) [
  | inl absent ↦ inl (held_named command file index within ∙ ap file (sym is) ∙ absent)
  | inr rose ↦ inr (rose_since a b c h rose)
]
named_cause command file index name r t.Read a b c e is within h there start read =
    (λ absent. there (λ s. cc (e, s)) (sym (held_named command file index within ∙ ap file (sym is)) ∙ absent), rose_since a b c h (read e))
named_cause command file index name r t.Write a b c e is within h there start read = tt
named_cause command file index name r t.NoMemory a b c e is within h there start read = tt

-- ---- the generated file
pub own_held : (files : List (List ℕ × List ℕ)) (name text other : List ℕ) → files ≡ (name, text) ∷ [] → other ≡ name → held_or_empty files other ≡ Holds text
own_held files name text other e same =
    ap (λ (l : List (List ℕ × List ℕ)). held_or_empty l other) e ∙ ap (λ (n : List ℕ). held_or_empty ((name, text) ∷ []) n) same
    ∙ ap (λ (b : Bool). Holds (bytes_of (if b then Holds text else Absent))) (bytes_eq-same name)

pub text_gives : {F : Type 0} (command : Command) (Begun : Type 0) (h : History) (steps : List Step) (r last : Reading) (xs text : List ℕ) (rest : Option (List ℕ)) (result : Result (Session F) Trouble)
    → FileGives command Begun 0 h steps r xs text result last rest → TextGives command Begun h steps r xs text result last
text_gives command Begun h steps r last xs text rest (Ok session) e = record { found = e.found; next = e.next; stands = e.stands; nothing_left = refl; room = e.room; all = e.all }
text_gives command Begun h steps r last xs text rest (Err (t.Refused line why)) e = e
text_gives command Begun h steps r last xs text rest (Err t.Start) e = tt
text_gives command Begun h steps r last xs text rest (Err t.Read) e = tt
text_gives command Begun h steps r last xs text rest (Err t.Write) e = e
text_gives command Begun h steps r last xs text rest (Err t.NoMemory) e = e

count_of : (command : Command) (n : ℕ) → command.generate ≡ Some n → generated_count command ≡ 1
count_of command n e = ap (λ (g : Option ℕ). option_map_or (λ n. 1) g 0) e

first_held : (command : Command) (file : List ℕ → HeldFile) (n : ℕ) → command.generate ≡ Some n → held_file_at (helds_of command file) 0 ≡ Holds (generated_text n)
first_held command file n e = ap (λ (g : Option ℕ). held_file_at (option_map_or (λ n. Holds (generated_text n) ∷ map file command.files) g (map file command.files)) 0) e

first_below : (command : Command) (file : List ℕ → HeldFile) (n : ℕ) → command.generate ≡ Some n → 0 < length (helds_of command file)
first_below command file n e = omega (arith, helds_length command file, count_of command n e)

first_there : (command : Command) (file : List ℕ → HeldFile) (n : ℕ) → command.generate ≡ Some n → held_file_at (helds_of command file) 0 ≢ Absent
first_there command file n e absent = let holds = first_held command file n e in cc (holds, absent)

first_text : (command : Command) (file : List ℕ → HeldFile) (n : ℕ) (text xs : List ℕ) → command.generate ≡ Some n → text ≡ generated_text n → held_file_at (helds_of command file) 0 ≡ Holds xs → text ≡ xs
first_text command file n text xs e is holds = let first = first_held command file n e in cc (first, holds, is)

-- where nothing was written, it is a front of what is due of any files
pub nothing_short : (command : Command) (file : List ℕ → HeldFile) → IsShortTo command file []
nothing_short command file = record {
  place = 0;
  there = λ k h. absurd (omega arith);
  short = λ start begins contents held files.
      ([], (trail_of start command.ignore_missing_entry (map ended_file contents ++ files)).steps, (λ begun. refl), refl);
}

-- no file was read yet
begun_behind : {F : Type 0} (command : Command) (file : List ℕ → HeldFile) (s : Session F) (room : ℕ) (start : Outset) → BeginsFrom command file s room start → blocks_of s ≡ 0
    → BehindStart command file s [] start start.history [] × (room ≡ start.room)
begun_behind command file s room start is none = (record { fed = record { goes = is.from; counts = none }; written = λ begun. sym (due_none command 1) }, is.room_is)

none_read : {F : Type 0} (command : Command) (file : List ℕ → HeldFile) (before : Option (List ℕ)) (s : Session F) (room : ℕ)
    → ((start : Outset) → BeginsLike command.resume file start → BeginsFrom command file s room start) → blocks_of s ≡ 0 → AreReadTo command file before before s room 0 []
none_read command file before s room starts none =
    read_none (BeginsLike command.resume file) command.ignore_missing_entry (helds_of command file) before (BehindStart command file s []) room (generated_count command)
    (λ start begins. begun_behind command file s room start (starts start begins) none)

pub none_generated : {F : Type 0} (command : Command) (file : List ℕ → HeldFile) (before : Option (List ℕ)) (s : Session F) (room : ℕ) → command.generate ≡ None
    → ((start : Outset) → BeginsLike command.resume file start → BeginsFrom command file s room start) → blocks_of s ≡ 0
    → AreReadTo command file before before s room (generated_count command) []
none_generated command file before s room e starts none =
    let count : 0 ≡ generated_count command = sym (ap (λ (g : Option ℕ). option_map_or (λ n. 1) g 0) e) in
    subst (λ (n : ℕ). AreReadTo command file before before s room n []) count (none_read command file before s room starts none)

module _ {F : Type 0} (command : Command) (file : List ℕ → HeldFile) (before : Option (List ℕ)) (s : Session F) (r last : Reading) (n : ℕ) (bytes text : List ℕ)
    (e : command.generate ≡ Some n) (is : bytes ≡ generated_text n) (limits : r.limits.line ≡ line_limit)
    (starts : (start : Outset) → BeginsLike command.resume file start → BeginsFrom command file s (room_of r) start) (none : blocks_of s ≡ 0) where
  pub generated_on : (next : Session F)
      → ((start : Outset) (h : History) (steps : List Step) → BehindStart command file s [] start h steps → TextGives command (Begins command.resume file start) h steps r bytes text (Ok next) last)
      → AreReadTo command file before before next (room_of last) (generated_count command) text
  generated_on next gives =
      let count : 0 + 1 ≡ generated_count command = omega (arith, count_of command n e) in
      let rest : 0 + 1 - generated_count command ≡ 0 = omega (arith, count_of command n e) in
      subst (λ (k : ℕ). AreReadTo command file before before next (room_of last) k text) count
      (read_on (BeginsLike command.resume file) command.ignore_missing_entry (helds_of command file) before before (BehindStart command file s []) (generated_count command) 0 r limits (first_below command file n e)
      (none_read command file before s (room_of r) starts none) before (Some []) (BehindStart command file next text) last (first_there command file n e) (λ first end. ap (λ (k : ℕ). rest_behind k before) (sym rest))
      (λ start h steps behind xs holds. subst (λ (l : List ℕ). ComesToEnd command.ignore_missing_entry 0 h steps (fresh_reading r) l (BehindStart command file next text start) last (Some []))
      (first_text command file n bytes xs e is holds) (gives start h steps behind)))

  generated_short : ((start : Outset) (h : History) (steps : List Step) → BehindStart command file s [] start h steps
      → IsShort command.ignore_missing_entry 0 h steps (fresh_reading r) bytes (IsWrittenInPart command (Begins command.resume file start) text)) → FilesTroubleGives command file before text (files_trouble 0 t.Write) before
  generated_short gives =
      short_on (BeginsLike command.resume file) command.ignore_missing_entry (helds_of command file) before before (BehindStart command file s []) (generated_count command) 0 r limits (first_below command file n e)
      (none_read command file before s (room_of r) starts none) (λ start. IsWrittenInPart command (Begins command.resume file start) text) (first_there command file n e)
      (λ start h steps behind xs holds. subst (λ (l : List ℕ). IsShort command.ignore_missing_entry 0 h steps (fresh_reading r) l (IsWrittenInPart command (Begins command.resume file start) text))
      (first_text command file n bytes xs e is holds) (gives start h steps behind))

  pub generated_trouble : (trouble : Trouble) → IsNoBreak {A = Session F} (Err trouble)
      → ((start : Outset) (h : History) (steps : List Step) → BehindStart command file s [] start h steps → TextGives {F = F} command (Begins command.resume file start) h steps r bytes text (Err trouble) last)
      → FilesTroubleGives command file before text (files_trouble 0 trouble) before
  generated_trouble (t.Refused line why) steady gives = record {
    named = first_below command file n e;
    at = refused_on (BeginsLike command.resume file) command.ignore_missing_entry (helds_of command file) before before (BehindStart command file s []) (generated_count command) 0 r limits (first_below command file n e)
        (none_read command file before s (room_of r) starts none) (λ start. IsWritten command (Begins command.resume file start) text) line why (first_there command file n e)
        (λ start h steps behind xs holds. subst (λ (l : List ℕ). HasFault command.ignore_missing_entry 0 h steps (fresh_reading r) l (IsWritten command (Begins command.resume file start) text) (record { line = line; why = why }))
        (first_text command file n bytes xs e is holds) (gives start h steps behind));
  }
  generated_trouble t.Start steady gives = absurd steady
  generated_trouble t.Read steady gives = absurd steady
  generated_trouble t.Write steady gives = generated_short gives
  generated_trouble t.NoMemory steady gives = generated_short gives

pub nothing_told : {F : Type 0} (command : Command) (file : List ℕ → HeldFile) (before rest : Option (List ℕ)) (s : Session F) (room count : ℕ) (told : List ℕ)
    → AreReadTo command file before rest s room count told → AreReadTo command file before rest s room (count + 0) (told ++ [])
nothing_told command file before rest s room count told read =
    let same : count ≡ count + 0 = omega arith in
    subst (λ (n : ℕ). AreReadTo command file before rest s room n (told ++ [])) same
    (subst (λ (l : List ℕ). AreReadTo command file before rest s room count l) (sym (append-nil told)) read)
