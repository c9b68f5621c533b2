-- Reading a file block by block, with the reports that fall due.
use Rattle.std.proofs.Common.{◌≡◌, ◌+◌, ◌-◌, ◌^◌, min, ℕ, List, [], ◌∷◌, ◌++◌, length, Bool, true, false, Option, Some, None, IfSome, IsErrOf, Result, Ok, Err, if◌then◌else◌, refl, sym, ◌∙◌, ap, subst, arith, length-append}
use Rattle.std.proofs.lemmas.Grind.{flat_map-append}
use Rattle.std.proofs.lemmas.List.{append-nil, length-map, map-append}
use Rattle.std.specs.Io.{StartsWith}
use Rattle.std.specs.List.{enumerate_from, flat_map}
use Rattle.std.specs.Option.{option_map_or}
use Rattle.dk_base.specs.declared.faults.Fault.{Fault}
use Rattle.dk_base.specs.declared.faults.Fault.TheVariants as f
use Rattle.dk_io.specs.Outside.{HeldFile, Holds, Rose, Starts}
use Rattle.dk_lines.specs.Reading.{Reading, left_of}
use Rattle.dk_blocks.specs.History.{Effect, History, effect_of, file_ended}
use Rattle.dk_core.specs.Standing.{ReportsAlike, SessionReadsFor, SessionStandsFor, blocks_of, ignores_of, left_with_answer, over_of}
use Rattle.dk_blocks.specs.Steps.{FaultAnswers, Steps}
use Rattle.dk_core.specs.Steps.{NextBlock, SessionCounts}
use Rattle.dk_core.specs.declared.session.Session.{Session}
use Rattle.dk_report.specs.declared.options.Options.{Options}
use Rattle.dk_command_line.specs.declared.command.Command.{Command}
use Rattle.dk_driver.proofs.Filing.{block_fault, file_end, file_on, file_short, no_effect, some_effect, told, whole_break, whole_end}
use Rattle.dk_driver.specs.Steps.{FindsBlock, FindsNone}
use Rattle.dk_driver.specs.Trails.{Step, trail_behind}
use Rattle.dk_driver.specs.WholeFile.{BlockFaultGives, ComesToEnd, FileGoesOn, HasFault, IsBroken, IsShort}
use Rattle.dk_blocks.specs.Steps.{groups_left}
use Rattle.dk_print.specs.Sections.{after_blocks_line}
use Rattle.dk_presence.specs.Patterns.{capped}
use Rattle.dk_run.specs.Courses.{histories_of}
use Rattle.dk_run.specs.Reports.{due_from, due_report, due_reports, is_due, whole_report}
use Rattle.dk_run.specs.WholeFile.{FileGives, IsBehind, IsCalmUnless, IsWritten, IsWrittenInPart, StartedGives, TroubleGives, fresh_reading, trouble_of_fault, trouble_of_halt}
use Rattle.dk_program.specs.Telling.{HaltHasCause}
use Rattle.dk_run.specs.Telling.{ReportsBy}
use Rattle.dk_run.specs.declared.reading.Trouble.{Trouble}
use Rattle.dk_run.specs.declared.reading.Trouble.TheVariants as t
use Rattle.dk_program.specs.declared.reporting.Halt.{Halt}
use Rattle.dk_program.specs.declared.reporting.Halt.TheVariants as w
use Rattle.dk_run.proofs.Writing.{front_all, front_behind}

-- ---- reports that are due
-- the report by the way behind a history, after so many blocks
abbrev pub due_text : Command → ℕ → History → List ℕ
due_text command blocks h = option_map_or (λ every. (if is_due every blocks then after_blocks_line blocks ++ whole_report command h else [])) command.every []

due_one : (command : Command) (every : Option ℕ) (n : ℕ) (h : History)
    → option_map_or (λ every. flat_map (due_report command every) (enumerate_from n (h ∷ []))) every []
    ≡ option_map_or (λ every. (if is_due every (capped n) then after_blocks_line (capped n) ++ whole_report command h else [])) every []
due_one command None n h = refl
due_one command (Some every) n h = append-nil _

enumerated_more : (n : ℕ) (a b : List History) → enumerate_from n (a ++ b) ≡ enumerate_from n a ++ enumerate_from (n + length a) b
enumerated_more n [] b = ap (λ (k : ℕ). enumerate_from k b) (omega arith)
enumerated_more n (x ∷ a) b =
    let next : n + 1 + length a ≡ n + length (x ∷ a) = omega arith in
    ap (λ (l : List (ℕ × History)). (n, x) ∷ l) (enumerated_more (n + 1) a b ∙ ap (λ (k : ℕ). enumerate_from (n + 1) a ++ enumerate_from k b) next)

due_apart : (command : Command) (every : Option ℕ) (n : ℕ) (a b : List History)
    → option_map_or (λ every. flat_map (due_report command every) (enumerate_from n (a ++ b))) every []
    ≡ option_map_or (λ every. flat_map (due_report command every) (enumerate_from n a)) every [] ++ option_map_or (λ every. flat_map (due_report command every) (enumerate_from (n + length a) b)) every []
due_apart command None n a b = refl
due_apart command (Some every) n a b = ap (flat_map (due_report command every)) (enumerated_more n a b) ∙ flat_map-append (due_report command every) (enumerate_from n a) (enumerate_from (n + length a) b)

pub due_append : (command : Command) (n : ℕ) (a b : List History) → due_from command n (a ++ b) ≡ due_from command n a ++ due_from command (n + length a) b
due_append command n a b = due_apart command command.every n a b

due_none_of : (command : Command) (every : Option ℕ) (n : ℕ) → option_map_or (λ every. flat_map (due_report command every) (enumerate_from n [])) every [] ≡ []
due_none_of command None n = refl
due_none_of command (Some every) n = refl

pub due_none : (command : Command) (n : ℕ) → due_from command n [] ≡ []
due_none command n = due_none_of command command.every n

pub due_more : (command : Command) (n : ℕ) (a : List History) (h : History) (blocks : ℕ) → blocks ≡ capped (n + length a) → due_from command n (a ++ h ∷ []) ≡ due_from command n a ++ due_text command blocks h
due_more command n a h blocks e =
    due_append command n a (h ∷ [])
    ∙ ap (λ (l : List ℕ). due_from command n a ++ l) (due_one command command.every (n + length a) h)
    ∙ ap (λ (b : ℕ). due_from command n a ++ due_text command b h) (sym e)

-- ---- one block
-- the reports that are due behind one step more
due_step : (command : Command) (steps : List Step) (one : Step) (blocks : ℕ) → blocks ≡ capped (1 + length steps)
    → due_reports command (histories_of (steps ++ one ∷ [])) ≡ due_reports command (histories_of steps) ++ due_text command blocks one.history
due_step command steps one blocks e =
    ap (due_reports command) (map-append (λ (step : Step). step.history) steps (one ∷ []))
    ∙ due_more command 1 (histories_of steps) one.history blocks (e ∙ ap (λ (n : ℕ). capped (1 + n)) (sym (length-map steps (λ (step : Step). step.history))))

one_more : (steps : List Step) (one : Step) (b c : ℕ) → b ≡ capped (length steps) → c ≡ min (b + 1) (2 ^ 64 - 1) → c ≡ capped (length (steps ++ one ∷ []))
one_more steps one b c e f = omega (arith, e, f, length-append steps (one ∷ []))

one_next : (n b c : ℕ) → b ≡ capped n → c ≡ min (b + 1) (2 ^ 64 - 1) → c ≡ capped (1 + n)
one_next n b c e f = omega (arith, e, f)

module _ {F : Type 0} (command : Command) (Begun : Type 0) (s next : Session F) (text more : List ℕ) (counts : blocks_of next ≡ min (blocks_of s + 1) (2 ^ 64 - 1)) where
  -- the session was fed one block more, and the report by the way behind it is written
  behind_more : ((h : History) → SessionStandsFor next h → more ≡ due_text command (blocks_of next) h) → (h1 h2 : History) (steps : List Step) (one : Step) → one.history ≡ h2
      → IsBehind command Begun s text h1 steps → SessionReadsFor next h2 → (SessionStandsFor s h1 → SessionStandsFor next h2) → IsBehind command Begun next (text ++ more) h2 (steps ++ one ∷ [])
  behind_more told h1 h2 steps one is old reads stands = record {
    fed = record {
      goes = record { reads = reads; stands = λ begun. stands (old.fed.goes.stands begun) };
      counts = one_more steps one (blocks_of s) (blocks_of next) old.fed.counts counts;
    };
    written = λ begun.
        ap (λ (l : List ℕ). l ++ more) (old.written begun)
        ∙ ap (λ (l : List ℕ). due_reports command (histories_of steps) ++ l) (told h2 (stands (old.fed.goes.stands begun)) ∙ ap (due_text command (blocks_of next)) (sym is))
        ∙ sym (due_step command steps one (blocks_of next) (one_next (length steps) (blocks_of s) (blocks_of next) old.fed.counts counts));
  }

  -- a front of it is
  part_more : ((h : History) → SessionStandsFor next h → StartsWith (due_text command (blocks_of next) h) more) → (h1 h2 : History) (steps : List Step) (one : Step) → one.history ≡ h2
      → IsBehind command Begun s text h1 steps → (SessionStandsFor s h1 → SessionStandsFor next h2) → IsWrittenInPart command Begun (text ++ more) (steps ++ one ∷ [])
  part_more told h1 h2 steps one is old stands = λ begun.
      subst (λ (l : List ℕ). StartsWith l (text ++ more)) (sym (due_step command steps one (blocks_of next) (one_next (length steps) (blocks_of s) (blocks_of next) old.fed.counts counts)))
      (subst (λ (l : List ℕ). StartsWith (due_reports command (histories_of steps) ++ due_text command (blocks_of next) one.history) (l ++ more)) (sym (old.written begun))
      (front_behind (due_reports command (histories_of steps)) (due_text command (blocks_of next) one.history) more
      (subst (λ (k : History). StartsWith (due_text command (blocks_of next) k) more) (sym is) (told h2 (stands (old.fed.goes.stands begun))))))

-- ---- a file
module _ {F : Type 0} (command : Command) (Begun : Type 0) (place : ℕ) (h : History) (before : List Step) (r : Reading) where
  module _ (new last : Reading) (o mid left : Option (List ℕ)) (text : List ℕ) (s next : Session F) (same : ignores_of s ≡ command.ignore_missing_entry)
      (goes : IfSome o (λ xs. FileGoesOn command.ignore_missing_entry place h before r xs (IsBehind command Begun s text) (over_of s) new mid)) where
    -- what the next block says to a session behind steps
    finds_block : (Next : History → List Step → Type 0) → ((h : History) → SessionReadsFor s h → IfSome mid (λ ys. NextBlock s h new ys (Ok (next, true)) last left))
        → ((h1 h2 : History) (steps : List Step) (one : Step) → one.history ≡ h2 → IsBehind command Begun s text h1 steps → SessionReadsFor next h2 → (SessionStandsFor s h1 → SessionStandsFor next h2) → Next h2 (steps ++ one ∷ []))
        → (h1 : History) (steps : List Step) → IsBehind command Begun s text h1 steps → IfSome mid (λ ys. FindsBlock Next command.ignore_missing_entry place h1 steps (over_of s) new ys (over_of next) last left)
    finds_block Next answers takes h1 steps behind = go mid (answers h1 behind.fed.goes.reads) where
      go : (o : Option (List ℕ)) → IfSome o (λ ys. NextBlock s h1 new ys (Ok (next, true)) last left)
          → IfSome o (λ ys. FindsBlock Next command.ignore_missing_entry place h1 steps (over_of s) new ys (over_of next) last left)
      go None gives = tt
      go (Some ys) (h2, reads, stands, (effect, found, (zs, is, read))) =
          let there = some_effect effect found in
          record {
            next = h2;
            effect = there.0;
            stands = takes h1 h2 steps (record { file = place; effect = there.0; history = h2 }) refl behind reads stands;
            ys = zs;
            left_is = is;
            takes = subst (λ (o : Option Effect). Steps command.ignore_missing_entry (effect_of command.ignore_missing_entry h1) (over_of s) new ys (Ok (record { history = h2; effect = o })) (over_of next) last zs) there.1
                (subst (λ (b : Bool). Steps b (effect_of b h1) (over_of s) new ys (Ok (record { history = h2; effect = effect })) (over_of next) last zs) same read);
          }

    -- one block more, and the report by the way behind it
    pub session_on : (more : List ℕ) → ((h : History) → SessionReadsFor s h → IfSome mid (λ ys. NextBlock s h new ys (Ok (next, true)) last left))
        → blocks_of next ≡ min (blocks_of s + 1) (2 ^ 64 - 1) → ((h : History) → SessionStandsFor next h → more ≡ due_text command (blocks_of next) h)
        → IfSome o (λ xs. FileGoesOn command.ignore_missing_entry place h before r xs (IsBehind command Begun next (text ++ more)) (over_of next) last left)
    session_on more answers counts told =
        file_on command.ignore_missing_entry place h before r new last o mid left (IsBehind command Begun s text) (IsBehind command Begun next (text ++ more)) (over_of s) (over_of next) goes
        (finds_block (IsBehind command Begun next (text ++ more)) answers (behind_more command Begun s next text more counts told))

    -- a front of the report by the way behind one block more
    pub session_short : (more : List ℕ) → ((h : History) → SessionReadsFor s h → IfSome mid (λ ys. NextBlock s h new ys (Ok (next, true)) last left))
        → blocks_of next ≡ min (blocks_of s + 1) (2 ^ 64 - 1) → ((h : History) → SessionStandsFor next h → StartsWith (due_text command (blocks_of next) h) more)
        → IfSome o (λ xs. IsShort command.ignore_missing_entry place h before r xs (IsWrittenInPart command Begun (text ++ more)))
    session_short more answers counts told =
        file_short command.ignore_missing_entry place h before r new last o mid left (IsBehind command Begun s text) Part (over_of s) (over_of next) goes
        (finds_block Part answers (λ h1 h2 steps one is old reads stands. part_more command Begun s next text more counts told h1 h2 steps one is old stands))
        (IsWrittenInPart command Begun (text ++ more)) (λ h1 steps part. part) where
          Part : History → List Step → Type 0
          Part h2 steps = IsWrittenInPart command Begun (text ++ more) steps

    -- no block more
    pub session_end : (done : Session F) → ((h : History) → SessionReadsFor s h → IfSome mid (λ ys. NextBlock s h new ys (Ok (next, false)) last left))
        → blocks_of done ≡ blocks_of s → over_of next ≡ true → ((h : History) → SessionStandsFor next h → SessionStandsFor done (file_ended h))
        → ((h : History) → SessionReadsFor next h → SessionReadsFor done (file_ended h))
        → IfSome o (λ xs. ComesToEnd command.ignore_missing_entry place h before r xs (IsBehind command Begun done text) last left)
    session_end done answers counts over ended read_ended =
        file_end command.ignore_missing_entry place h before r new last o mid left (IsBehind command Begun s text) Done (over_of s) (over_of next) goes finds_none over
        (IsBehind command Begun done text) (λ h1 steps behind. behind) where
          Done : History → List Step → Type 0
          Done h2 steps = IsBehind command Begun done text (file_ended h2) steps

          finds_none : (h1 : History) (steps : List Step) → IsBehind command Begun s text h1 steps → IfSome mid (λ ys. FindsNone Done command.ignore_missing_entry h1 steps (over_of s) new ys (over_of next) last left)
          finds_none h1 steps behind = go mid (answers h1 behind.fed.goes.reads) where
            go : (o : Option (List ℕ)) → IfSome o (λ ys. NextBlock s h1 new ys (Ok (next, false)) last left)
                → IfSome o (λ ys. FindsNone Done command.ignore_missing_entry h1 steps (over_of s) new ys (over_of next) last left)
            go None gives = tt
            go (Some ys) (h2, reads, stands, (effect, found, (zs, is, read))) = record {
              next = h2;
              stands = record {
                fed = record { goes = record { reads = read_ended h2 reads; stands = λ begun. ended h2 (stands (behind.fed.goes.stands begun)) }; counts = counts ∙ behind.fed.counts };
                written = behind.written;
              };
              ys = zs;
              left_is = is;
              takes = subst (λ (o : Option Effect). Steps command.ignore_missing_entry (effect_of command.ignore_missing_entry h1) (over_of s) new ys (Ok (record { history = h2; effect = o })) (over_of next) last zs) (no_effect effect found)
                  (subst (λ (b : Bool). Steps b (effect_of b h1) (over_of s) new ys (Ok (record { history = h2; effect = effect })) (over_of next) last zs) same read);
            }

  -- a fault of the next block is the file's
  pub session_fault : (new : Reading) (o mid left : Option (List ℕ)) (text : List ℕ) (s : Session F) (fault : Fault) → ignores_of s ≡ command.ignore_missing_entry
      → IfSome o (λ xs. FileGoesOn command.ignore_missing_entry place h before r xs (IsBehind command Begun s text) (over_of s) new mid)
      → ((h : History) → SessionReadsFor s h → IfSome mid (λ ys. FaultAnswers (ignores_of s) (effect_of (ignores_of s) h) (over_of s) new ys fault left))
      → IfSome o (λ xs. TroubleGives command Begun place h before r xs text (trouble_of_fault fault) left)
  session_fault new o mid left text s fault same goes answers =
      go fault o (block_fault command.ignore_missing_entry place h before r new o mid left (IsBehind command Begun s text) (IsWritten command Begun text) (over_of s) fault goes
      (λ h1 steps behind. subst (λ (b : Bool). IfSome mid (λ ys. FaultAnswers b (effect_of b h1) (over_of s) new ys fault left)) same (answers h1 behind.fed.goes.reads)) (λ h1 steps behind. behind.written)) where
        go : (fault : Fault) (o : Option (List ℕ)) → IfSome o (λ xs. BlockFaultGives command.ignore_missing_entry place h before r xs (IsWritten command Begun text) fault left)
            → IfSome o (λ xs. TroubleGives command Begun place h before r xs text (trouble_of_fault fault) left)
        go fault None gives = tt
        go (f.Refused file line why) (Some xs) gives = gives
        go (f.Read file) (Some xs) gives = gives
        go f.NoMemory (Some xs) e = record {
          found = e.found;
          wrote = λ begun. subst (λ (l : List ℕ). StartsWith (due_reports command (histories_of (before ++ e.found))) l) (sym (e.wrote begun)) (front_all (due_reports command (histories_of (before ++ e.found))));
          more = e.more;
          all = e.all;
        }

  -- ---- a whole file
  pub told_started : (mid last : Reading) (held : HeldFile) (xs text : List ℕ) (rest after : Option (List ℕ)) (result : Result (Session F) Trouble)
      → (result ≡ Err t.Start → ⊥) → mid ≡ fresh_reading r → Starts held rest → held ≡ Holds xs → (IsErrOf result t.Read → last.ahead ≡ [])
      → IfSome (left_of mid rest) (λ xs. StartedGives command Begun place h before mid xs text result last (left_of last after))
      → FileGives command Begun place h before r xs text result last after
  told_started mid last held xs text rest after (Ok session) started is starts holds emptied gives =
      whole_end command.ignore_missing_entry place h before (fresh_reading r) last xs (IsBehind command Begun session text) after
      (told (λ m ys. ComesToEnd command.ignore_missing_entry place h before m ys (IsBehind command Begun session text) last (left_of last after)) r mid held xs rest is starts holds gives)
  told_started mid last held xs text rest after (Err (t.Refused line why)) started is starts holds emptied gives =
      told (λ m ys. HasFault command.ignore_missing_entry place h before m ys (IsWritten command Begun text) (record { line = line; why = why })) r mid held xs rest is starts holds gives
  told_started mid last held xs text rest after (Err t.Start) started is starts holds emptied gives = tt
  told_started mid last held xs text rest after (Err t.Read) started is starts holds emptied gives =
      whole_break command.ignore_missing_entry place h before (fresh_reading r) last xs (IsWritten command Begun text) after (emptied refl)
      (told (λ m ys. IsBroken command.ignore_missing_entry place h before m ys (IsWritten command Begun text) (left_of last after)) r mid held xs rest is starts holds gives)
  told_started mid last held xs text rest after (Err t.Write) started is starts holds emptied gives =
      told (λ m ys. IsShort command.ignore_missing_entry place h before m ys (IsWrittenInPart command Begun text)) r mid held xs rest is starts holds gives
  told_started mid last held xs text rest after (Err t.NoMemory) started is starts holds emptied gives =
      told (λ m ys. IsShort command.ignore_missing_entry place h before m ys (IsWrittenInPart command Begun text)) r mid held xs rest is starts holds gives

-- a report by the way that isn't written whole is the file's trouble
pub short_gives : (command : Command) (Begun : Type 0) (place : ℕ) (h : History) (before : List Step) (r : Reading) (o left : Option (List ℕ)) (text : List ℕ) (halt : Halt)
    → IfSome o (λ xs. IsShort command.ignore_missing_entry place h before r xs (IsWrittenInPart command Begun text))
    → IfSome o (λ xs. TroubleGives command Begun place h before r xs text (trouble_of_halt halt) left)
short_gives command Begun place h before r None left text halt short = tt
short_gives command Begun place h before r (Some xs) left text w.Write short = short
short_gives command Begun place h before r (Some xs) left text w.NoMemory short = short

-- ---- what a session reports by
pub alike_on : {F : Type 0} (a b c : Session F) → ReportsAlike a b → ReportsAlike b c → ReportsAlike a c
alike_on a b c first more = record { grammar = more.grammar ∙ first.grammar; options = more.options ∙ first.options; select = more.select ∙ first.select }

pub alike_same : {F : Type 0} (a : Session F) → ReportsAlike a a
alike_same a = record { grammar = refl; options = refl; select = refl }

pub reports_on : {F : Type 0} (command : Command) (a b : Session F) → ReportsAlike a b → ReportsBy command a → ReportsBy command b
reports_on command a b alike reports = alike.options ∙ reports

pub ignores_by : {F : Type 0} (command : Command) (s : Session F) → ReportsBy command s → ignores_of s ≡ command.ignore_missing_entry
ignores_by command s reports = ap (λ (o : Options). o.ignore_missing_entry) reports

-- the count of blocks behind one that was found, and whether the file is over behind none
pub counted_on : {F : Type 0} (s next : Session F) (r last : Reading) (result : Result Bool Fault) → result ≡ Ok true → SessionCounts s r (left_with_answer next result) last → blocks_of next ≡ min (blocks_of s + 1) (2 ^ 64 - 1)
counted_on s next r last result is counts = (subst (λ (a : Result Bool Fault). SessionCounts s r (left_with_answer next a) last) is counts).3

pub counted_end : {F : Type 0} (s next : Session F) (r last : Reading) (result : Result Bool Fault) → result ≡ Ok false → SessionCounts s r (left_with_answer next result) last → (blocks_of next ≡ blocks_of s) × (over_of next ≡ true)
counted_end s next r last result is counts = let c = subst (λ (a : Result Bool Fault). SessionCounts s r (left_with_answer next a) last) is counts in (c.3, c.4 refl)

pub calm_but : (before between after : ℕ) (halt : Halt) → between ≡ before → HaltHasCause between after halt → IsCalmUnless before after (trouble_of_halt halt)
calm_but before between after w.Write same rose = subst (λ (n : ℕ). Rose n after) same rose
calm_but before between after w.NoMemory same calm = calm ∙ same

-- ---- which troubles come
halted_not_start : (halt : Halt) → trouble_of_halt halt ≡ t.Start → ⊥
halted_not_start w.Write e = cc (e)
halted_not_start w.NoMemory e = cc (e)

halted_not_read : (halt : Halt) → trouble_of_halt halt ≡ t.Read → ⊥
halted_not_read w.Write e = cc (e)
halted_not_read w.NoMemory e = cc (e)

pub halted_started : (halt : Halt) (trouble : Trouble) → trouble ≡ trouble_of_halt halt → trouble ≡ t.Start → ⊥
halted_started halt trouble is e = halted_not_start halt (sym is ∙ e)

pub halted_read : (halt : Halt) (trouble : Trouble) → trouble ≡ trouble_of_halt halt → trouble ≡ t.Read → ⊥
halted_read halt trouble is e = halted_not_read halt (sym is ∙ e)

faulted_not_start : (fault : Fault) → trouble_of_fault fault ≡ t.Start → ⊥
faulted_not_start (f.Refused file line why) e = cc (e)
faulted_not_start (f.Read file) e = cc (e)
faulted_not_start f.NoMemory e = cc (e)

pub faulted_started : (fault : Fault) (trouble : Trouble) → trouble ≡ trouble_of_fault fault → trouble ≡ t.Start → ⊥
faulted_started fault trouble is e = faulted_not_start fault (sym is ∙ e)

read_of : (fault : Fault) → trouble_of_fault fault ≡ t.Read → (file : ℕ) × (fault ≡ f.Read file)
read_of (f.Refused file line why) e = absurd (cc (e))
read_of (f.Read file) e = (file, refl)
read_of f.NoMemory e = absurd (cc (e))

pub faulted_read : (fault : Fault) (trouble : Trouble) → trouble ≡ trouble_of_fault fault → trouble ≡ t.Read → (file : ℕ) × (fault ≡ f.Read file)
faulted_read fault trouble is e = read_of fault (sym is ∙ e)

calm_of : (fault : Fault) (before after : ℕ) → after ≡ before → IsCalmUnless before after (trouble_of_fault fault)
calm_of (f.Refused file line why) before after calm = calm
calm_of (f.Read file) before after calm = calm
calm_of f.NoMemory before after calm = calm

pub faulted_calm : (fault : Fault) (trouble : Trouble) (before after : ℕ) → trouble ≡ trouble_of_fault fault → after ≡ before → IsCalmUnless before after trouble
faulted_calm fault trouble before after is calm = subst (λ (t : Trouble). IsCalmUnless before after t) (sym is) (calm_of fault before after calm)

pub halted_calm : (halt : Halt) (trouble : Trouble) (before between after : ℕ) → trouble ≡ trouble_of_halt halt → between ≡ before → HaltHasCause between after halt → IsCalmUnless before after trouble
halted_calm halt trouble before between after is same cause = subst (λ (t : Trouble). IsCalmUnless before after t) (sym is) (calm_but before between after halt same cause)

pub same_trouble : {A : Type 0} (a b : Trouble) (r : Result A Trouble) → r ≡ Err a → r ≡ Err b → a ≡ b
same_trouble a b r first more = let e = sym first ∙ more in cc (e)

-- nothing is written
pub none_short : (command : Command) (Begun : Type 0) (place : ℕ) (h : History) (before : List Step) (r : Reading) (xs text : List ℕ) → IsWritten command Begun text before
    → IsShort command.ignore_missing_entry place h before r xs (IsWrittenInPart command Begun (text ++ []))
none_short command Begun place h before r xs text written = record {
  found = [];
  wrote = λ begun. subst (λ (l : List ℕ). StartsWith (due_reports command (histories_of (before ++ []))) l)
      (sym (append-nil text ∙ written begun ∙ ap (λ (l : List Step). due_reports command (histories_of l)) (sym (append-nil before)))) (front_all (due_reports command (histories_of (before ++ []))));
  more = (trail_behind command.ignore_missing_entry place h (groups_left false r true xs)).steps;
  all = refl;
}
