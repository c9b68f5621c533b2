-- What each end of a run says in which rows are written as they come.
use Rattle.std.proofs.Common.{◌≡◌, ◌≤◌, ◌<◌, ◌∙◌, [], inl, inr, ℕ, zero, suc, List, length, take, Option, Some, None, Result, Ok, Err, refl, sym, ap, subst, arith}
use Rattle.std.proofs.lemmas.List.{take_all}
use Rattle.dk_arguments.specs.declared.request.Request.{Request}
use Rattle.dk_arguments.specs.declared.request.Request.TheVariants.{Run}
use Rattle.dk_driver.specs.Files.{AreHeldFiles, file_name_at}
use Rattle.dk_driver.specs.Reads.{AtStart, Break, HasBroken, Within, held_file_at}
use Rattle.dk_events.specs.declared.ended.Ended.{Ended}
use Rattle.dk_events.specs.declared.ended.Ended.TheVariants as ended
use Rattle.dk_io.specs.Outside.{HeldFile, Absent, Rose}
use Rattle.dk_io.specs.Streams.{AddsFront, Texts, with_bytes}
use Rattle.dk_io.specs.declared.outside.Stream.TheVariants.{Report, Messages}
use Rattle.dk_program.proofs.Saying.{followed_only}
use Rattle.dk_program.proofs.Writing.{front_all, front_take, known_nothing}
use Rattle.dk_program.specs.Ending.{EndsWith}
use Rattle.dk_program.specs.Messages.{unread_line}
use Rattle.dk_program.specs.Moments.{IsCalm, Outside}
use Rattle.dk_program.specs.Outputs.{texts_followed_by}
use Rattle.dk_program.specs.Statuses.{GivesOutput}
use Rattle.dk_write.specs.Texts.{trace_text}
use Rattle.dk_table.specs.Tables.Contents.{AreReadAs, IsFrontBy, Reached, helds_of}
use Rattle.dk_table.specs.Statuses.Ends.{IsOfFile, StopEnds}
use Rattle.dk_table.specs.Streams.Progress.{EndedSays, IsStopped, StopSays, StreamSays, reached_stream}
use Rattle.dk_table.specs.Statuses.{Completes, ComesTo, IsCutShort, Outcome, Says, outcome_behind, outcome_by, outcome_of, point_of, reached_by, refused_line, told, written_by, written_of}
use Rattle.dk_table.specs.Streams.{Stream, stream_at, stream_in}
use Rattle.dk_table.specs.Tables.{config_by}
use Rattle.dk_table.specs.declared.words.command.Command.{Command}
use Rattle.dk_table.specs.declared.faults.Refusal.{Refusal}
use Rattle.dk_table.specs.declared.streaming.stops.Stop.{Stop}
use Rattle.dk_table.specs.declared.streaming.stops.Stop.TheVariants.{NoMemory, Refused, Unread, Unstarted, Write}
use Rattle.dk_table.specs.declared.words.TableArguments.{TableArguments}
use Rattle.dk_table.proofs.Contents.{helds_length, not_absent, same_contents}
use Rattle.dk_table.proofs.Parts.{none_ends}
use Rattle.dk_table.proofs.Progressed.{begins_none}
use Rattle.dk_table.proofs.Reached.{Completed, GoesOn, UpTo, Whole, reached_completed, up_to_goes, whole_goes}
use Rattle.dk_table.proofs.Saying.{comes_says, no_start}
use Rattle.dk_table.proofs.Sent.{adds_more}

-- ---- a trace, and a message behind it
told_behind : (base : Texts) (report messages : List ℕ) → with_bytes (with_bytes base Report report) Messages messages ≡ texts_followed_by base (told report messages)
told_behind base report messages = let s = known_nothing base.state in cc

-- a front of the trace was written
report_cut : (status : Ended) (request : Option (Request TableArguments)) (before after : Outside) (report messages : List ℕ)
    → ComesTo status request before after (told report messages) → AddsFront before.written after.written Report report → IsCutShort request before after
report_cut status request before after report messages comes (n, short, e) = record {
  status = status;
  output = told report messages;
  comes = comes;
  front = record {
    front = told (take n report) [];
    is_front = record { report = front_take n report short; messages = refl; state = refl; in_order = inr refl };
    written = e ∙ followed_only before.written Report (take n report);
  };
  behind = inr refl;
}

-- all of it was, and a front of the message
message_cut : (status : Ended) (request : Option (Request TableArguments)) (before after : Outside) (report messages : List ℕ)
    → ComesTo status request before after (told report messages) → (n : ℕ) → n ≤ length messages
    → after.written ≡ with_bytes (with_bytes before.written Report report) Messages (take n messages) → IsCutShort request before after
message_cut status request before after report messages comes n short e = record {
  status = status;
  output = told report messages;
  comes = comes;
  front = record {
    front = told report (take n messages);
    is_front = record { report = front_all report; messages = front_take n messages short; state = refl; in_order = inl refl };
    written = e ∙ told_behind before.written report (take n messages);
  };
  behind = inl refl;
}

-- the trace was written, and the run ends with the message
message_says : (status : Ended) (request : Option (Request TableArguments)) (before after : Outside) (report messages : List ℕ) (mid : Texts) (faults : ℕ) (result : Ended)
    → ComesTo status request before after (told report messages) → mid ≡ with_bytes before.written Report report → faults ≡ before.write_faults
    → EndsWith status Messages messages mid after.written faults after.write_faults result → Says result request before after
message_says status request before after report messages mid faults result comes so_far calm (inl (is, e, still)) =
    subst (λ (s : Ended). Says s request before after) (sym is)
    (comes_says status request before after (told report messages) comes
    (e ∙ ap (λ (t : Texts). with_bytes t Messages messages) so_far ∙ told_behind before.written report messages, still ∙ calm))
message_says status request before after report messages mid faults result comes so_far calm (inr (inl (is, rose, (n, short, e)))) =
    subst (λ (s : Ended). Says s request before after) (sym is) (
      subst (λ (k : ℕ). Rose k after.write_faults) calm rose,
      message_cut status request before after report messages comes n short (e ∙ ap (λ (t : Texts). with_bytes t Messages (take n messages)) so_far),
    )
message_says status request before after report messages mid faults result comes so_far calm (inr (inr (is, e, still))) =
    subst (λ (s : Ended). Says s request before after) (sym is) (
      still ∙ calm,
      inr (report_cut status request before after report messages comes
          (length report, omega arith, e ∙ so_far ∙ ap (with_bytes before.written Report) (sym (take_all (length report) report (omega arith))))),
    )

-- ---- a run of which rows are written as they come
module _ (a : TableArguments) (types : ℕ) (asked : a.command.types ≡ Some types) (some : 0 < types) where
  abbrev stream_of : List (List ℕ) → Stream
  stream_of contents = stream_at a.command (point_of a) types contents

  abbrev asks : Option (Request TableArguments)
  asks = Some (Run a)

  outcome_is : (contents : List (List ℕ)) → outcome_of a contents ≡ outcome_by a.files (stream_of contents)
  unfolding outcome_of
  outcome_is contents = ap (λ (o : Option ℕ). outcome_by a.files (written_by o a contents)) asked ∙ go types some
    where
      go : (n : ℕ) → 0 < n → outcome_by a.files (written_by (Some n) a contents) ≡ outcome_by a.files (stream_at a.command (point_of a) n contents)
      go zero h = absurd (omega (arith, h))
      go (suc n) h = refl

  reached_is : (contents : List (List ℕ)) (front : List ℕ) → reached_by a.command.types a contents front ≡ stream_in a.command (point_of a) types contents (Some front)
  reached_is contents front = ap (λ (o : Option ℕ). reached_by o a contents front) asked ∙ go types some
    where
      go : (n : ℕ) → 0 < n → reached_by (Some n) a contents front ≡ stream_in a.command (point_of a) n contents (Some front)
      go zero h = absurd (omega (arith, h))
      go (suc n) h = refl

  module _ (before after : Outside) where
    abbrev helds : List HeldFile
    helds = helds_of a.files before.file

    -- what the files come to
    done_comes : (contents : List (List ℕ)) → AreReadAs helds contents → (stream_of contents).refusal ≡ None
        → ComesTo ended.Done asks before after (told (trace_text (stream_of contents).written) [])
    done_comes contents read none =
        let is : outcome_of a contents ≡ outcome_behind a.files (trace_text (stream_of contents).written) None =
        outcome_is contents ∙ ap (outcome_behind a.files (trace_text (stream_of contents).written)) none in
        record { contents = contents; read = read; status_is = ap (λ (o : Outcome). o.status) (sym is); output_is = ap (λ (o : Outcome). o.output) (sym is) }

    refused_comes : (contents : List (List ℕ)) (r : Refusal) → AreReadAs helds contents → (stream_of contents).refusal ≡ Some r
        → ComesTo ended.Refused asks before after (told (trace_text (stream_of contents).written) (refused_line a.files r))
    refused_comes contents r read refused =
        let is : outcome_of a contents ≡ outcome_behind a.files (trace_text (stream_of contents).written) (Some r) =
        outcome_is contents ∙ ap (outcome_behind a.files (trace_text (stream_of contents).written)) refused in
        inl (record { contents = contents; read = read; status_is = ap (λ (o : Outcome). o.status) (sym is); output_is = ap (λ (o : Outcome). o.output) (sym is) })

    -- what was reached of them comes to
    abbrev by_reached : Reached a.command helds → Stream
    by_reached reached = reached_stream a.command (point_of a) types reached

    within_comes : (reached : Reached a.command helds) (r : Refusal) → (by_reached reached).refusal ≡ Some r
        → ComesTo ended.Refused asks before after (told (trace_text (by_reached reached).written) (refused_line a.files r))
    within_comes reached r refused =
        let is : written_of a reached ≡ by_reached reached = reached_is reached.contents reached.front in
        inr (record {
          reached = reached;
          refusal = r;
          refused = ap (λ (s : Stream). s.refusal) is ∙ refused;
          output_is = ap (λ (s : Stream). told (trace_text s.written) (refused_line a.files r)) (sym is);
        })

    unread_comes : (by : Break) (reached : Reached a.command helds) → length reached.contents < length a.files
        → HasBroken by (held_file_at helds (length reached.contents)) (Rose before.read_faults after.read_faults) → IsFrontBy by reached.front → (by_reached reached).refusal ≡ None
        → ComesTo ended.Read asks before after (told (trace_text (by_reached reached).written) (unread_line (file_name_at a.files (length reached.contents))))
    unread_comes by reached named cause own none =
        let is : written_of a reached ≡ by_reached reached = reached_is reached.contents reached.front in
        record {
          by = by;
          reached = reached;
          named = named;
          cause = cause;
          own = own;
          none = ap (λ (s : Stream). s.refusal) is ∙ none;
          output_is = ap (λ (s : Stream). told (trace_text s.written) (unread_line (file_name_at a.files (length reached.contents)))) (sym is);
        }

    -- ---- a run that is cut short
    -- a front of what all files come to
    all_cut : (contents : List (List ℕ)) → AreReadAs helds contents → AddsFront before.written after.written Report (trace_text (stream_of contents).written) → IsCutShort asks before after
    all_cut contents read front = go (stream_of contents).refusal refl
      where
        go : (o : Option Refusal) → (stream_of contents).refusal ≡ o → IsCutShort asks before after
        go None none = report_cut ended.Done asks before after (trace_text (stream_of contents).written) [] (done_comes contents read none) front
        go (Some r) refused = report_cut ended.Refused asks before after (trace_text (stream_of contents).written) (refused_line a.files r) (refused_comes contents r read refused) front

    -- or of what those come to in front of one that is absent
    up_to_cut : (reached : Reached a.command helds) → reached.front ≡ [] → length reached.contents < length helds → held_file_at helds (length reached.contents) ≡ Absent
        → AddsFront before.written after.written Report (trace_text (by_reached reached).written) → IsCutShort asks before after
    up_to_cut reached none within absent front = go (by_reached reached).refusal refl
      where
        go : (o : Option Refusal) → (by_reached reached).refusal ≡ o → IsCutShort asks before after
        go None clean =
            report_cut ended.Read asks before after (trace_text (by_reached reached).written) (unread_line (file_name_at a.files (length reached.contents)))
            (unread_comes AtStart reached (omega (arith, within, helds_length a.files before.file)) (inl absent) none clean) front
        go (Some r) refused =
            report_cut ended.Refused asks before after (trace_text (by_reached reached).written) (refused_line a.files r) (within_comes reached r refused) front

    -- what was reached goes on to such an end
    reached_cut : (reached : Reached a.command helds) → AddsFront before.written after.written Report (trace_text (by_reached reached).written) → IsCutShort asks before after
    reached_cut reached front = go (reached_completed a.command helds reached)
      where
        longer : (late : Stream) → GoesOn (by_reached reached) late → AddsFront before.written after.written Report (trace_text late.written)
        longer late g =
            subst (AddsFront before.written after.written Report) (sym g.written)
            (adds_more before.written after.written (trace_text (by_reached reached).written) g.rest front)

        go : Completed helds reached.contents reached.front → IsCutShort asks before after
        go (Whole all read e) =
            all_cut all read (longer (stream_of all) (whole_goes a.command (point_of a) types some reached.contents reached.front all reached.whole e))
        go (UpTo all read within absent e) =
            let next : Reached a.command helds = record {
              contents = all;
              front = [];
              read = read;
              next = inl refl;
              begins = begins_none (held_file_at helds (length all));
              whole = none_ends (config_by a.command.separator);
            } in
            up_to_cut next refl within absent
            (longer (stream_in a.command (point_of a) types all (Some [])) (up_to_goes a.command (point_of a) types some reached.contents reached.front all reached.whole e))

    -- ---- what is said
    module _ (mid : Texts) (faults : ℕ) (result : Ended) where
      abbrev Ends : Result (Unit {0}) Stop → Type 0
      Ends r = StopEnds a.files r mid after.written faults after.write_faults result

      -- it stopped before the last file's end
      stopped : (by : Break) (place : ℕ)
          → IsStopped a.command (point_of a) types a.files before.file (Rose before.read_faults after.read_faults) by before.written mid before.write_faults faults place
          → EndsWith ended.Read Messages (unread_line (file_name_at a.files place)) mid after.written faults after.write_faults result → Says result asks before after
      stopped by place s ends =
          message_says ended.Read asks before after (trace_text (by_reached s.reached).written) (unread_line (file_name_at a.files (length s.reached.contents))) mid faults result
          (unread_comes by s.reached (omega (arith, s.named, s.here))
          (subst (λ (n : ℕ). HasBroken by (held_file_at helds n) (Rose before.read_faults after.read_faults)) s.here s.cause) s.own s.none)
          s.written s.calm
          (subst (λ (n : ℕ). EndsWith ended.Read Messages (unread_line (file_name_at a.files n)) mid after.written faults after.write_faults result) s.here ends)

      written_cut : (report : List ℕ) → (AddsFront before.written after.written Report report → IsCutShort asks before after)
          → AddsFront before.written mid Report report → after.written ≡ mid → IsCutShort asks before after
      written_cut report cut front same = cut (subst (λ (t : Texts). AddsFront before.written t Report report) (sym same) front)

      write_says : (report : List ℕ) → (AddsFront before.written after.written Report report → IsCutShort asks before after)
          → AddsFront before.written mid Report report → Rose before.write_faults faults → Ends (Err Write) → Says result asks before after
      write_says report cut front rose (is, same, still) =
          subst (λ (s : Ended). Says s asks before after) (sym is) (subst (λ (n : ℕ). Rose before.write_faults n) (sym still) rose, written_cut report cut front same)

      memory_says : (report : List ℕ) → (AddsFront before.written after.written Report report → IsCutShort asks before after)
          → AddsFront before.written mid Report report → faults ≡ before.write_faults → Ends (Err NoMemory) → Says result asks before after
      memory_says report cut front calm (is, same, still) =
          subst (λ (s : Ended). Says s asks before after) (sym is) (still ∙ calm, inr (written_cut report cut front same))

      stop_says : (stop : Stop)
          → StopSays a.command (point_of a) types a.files before.file (Rose before.read_faults after.read_faults) before.written mid before.write_faults faults stop
          → Ends (Err stop) → Says result asks before after
      stop_says (Refused r) (reached, refused, written, calm) ends =
          message_says ended.Refused asks before after (trace_text (by_reached reached).written) (refused_line a.files r) mid faults result (within_comes reached r refused) written calm ends
      stop_says (Unstarted place) s ends = stopped AtStart place s ends
      stop_says (Unread place) s ends = stopped Within place s ends
      stop_says Write (reached, front, rose) ends = write_says (trace_text (by_reached reached).written) (reached_cut reached) front rose ends
      stop_says NoMemory (reached, front, calm) ends = memory_says (trace_text (by_reached reached).written) (reached_cut reached) front calm ends

      -- all files were read to their ends
      ended_says : (r : Result (Unit {0}) Stop) → EndedSays a.command (point_of a) types a.files before.file before.written mid before.write_faults faults r
          → Ends r → Says result asks before after
      ended_says (Ok u) (contents, read, (none, written, calm)) (is, same, still) =
          subst (λ (s : Ended). Says s asks before after) (sym is) (
            told (trace_text (stream_of contents).written) [],
            done_comes contents read none,
            (same ∙ written ∙ followed_only before.written Report (trace_text (stream_of contents).written), still ∙ calm),
          )
      ended_says (Err (Refused r)) (contents, read, (refused, written, calm)) ends =
          message_says ended.Refused asks before after (trace_text (stream_of contents).written) (refused_line a.files r) mid faults result (refused_comes contents r read refused) written calm ends
      ended_says (Err (Unstarted place)) (contents, read, w) ends = absurd w
      ended_says (Err (Unread place)) (contents, read, w) ends = absurd w
      ended_says (Err Write) (contents, read, (front, rose)) ends = write_says (trace_text (stream_of contents).written) (all_cut contents read) front rose ends
      ended_says (Err NoMemory) (contents, read, (front, calm)) ends = memory_says (trace_text (stream_of contents).written) (all_cut contents read) front calm ends

      says_by : (r : Result (Unit {0}) Stop)
          → StreamSays a.command (point_of a) types a.files before.file (Rose before.read_faults after.read_faults) before.written mid before.write_faults faults r
          → Ends r → Says result asks before after
      says_by (Ok u) s ends = ended_says (Ok u) s ends
      says_by (Err stop) (inl s) ends = stop_says stop s ends
      says_by (Err stop) (inr s) ends = ended_says (Err stop) s ends

      -- ---- completeness
      module _ (calm : IsCalm before after) (contents : List (List ℕ)) (are : AreHeldFiles helds contents) where
        abbrev Gives : Stream → Type 0
        Gives s = let o = outcome_by a.files s in GivesOutput o.status (λ output. output ≡ o.output) result before after

        -- that of the files
        gives_all : (late : Stream) → stream_of contents ≡ late → Gives late → GivesOutput (outcome_of a contents).status (λ output. output ≡ (outcome_of a contents).output) result before after
        gives_all late is given =
            subst (λ (o : Outcome). GivesOutput o.status (λ output. output ≡ o.output) result before after) (sym (outcome_is contents ∙ ap (outcome_by a.files) is)) given

        -- no write failed
        no_write : {A : Type 0} → faults ≡ before.write_faults → Rose faults after.write_faults → A
        no_write {A} same rose = absurd (calm.write (subst (λ (n : ℕ). Rose n after.write_faults) same rose))

        done_gives : (s : Stream) → s.refusal ≡ None → mid ≡ with_bytes before.written Report (trace_text s.written) → result ≡ ended.Done → after.written ≡ mid → Gives s
        done_gives s none written is same =
            subst (λ (o : Option Refusal). let out = outcome_behind a.files (trace_text s.written) o in GivesOutput out.status (λ output. output ≡ out.output) result before after) (sym none)
            (inl (is, (told (trace_text s.written) [], refl, same ∙ written ∙ followed_only before.written Report (trace_text s.written))))

        refused_gives : (s : Stream) (r : Refusal) → s.refusal ≡ Some r → mid ≡ with_bytes before.written Report (trace_text s.written) → faults ≡ before.write_faults
            → EndsWith ended.Refused Messages (refused_line a.files r) mid after.written faults after.write_faults result → Gives s
        refused_gives s r refused written same ends =
            subst (λ (o : Option Refusal). let out = outcome_behind a.files (trace_text s.written) o in GivesOutput out.status (λ output. output ≡ out.output) result before after) (sym refused)
            (go ends)
          where
            go : EndsWith ended.Refused Messages (refused_line a.files r) mid after.written faults after.write_faults result
                → GivesOutput ended.Refused (λ output. output ≡ told (trace_text s.written) (refused_line a.files r)) result before after
            go (inl (is, e, still)) = inl (
              is,
              (
                told (trace_text s.written) (refused_line a.files r),
                refl,
                e ∙ ap (λ (t : Texts). with_bytes t Messages (refused_line a.files r)) written ∙ told_behind before.written (trace_text s.written) (refused_line a.files r),
              ),
            )
            go (inr (inl (is, rose, front))) = no_write same rose
            go (inr (inr (is, e, still))) = inr is

        -- what was reached of files that are held is refused as they are
        reached_gives : (reached : Reached a.command helds) (r : Refusal) → (by_reached reached).refusal ≡ Some r → stream_of contents ≡ by_reached reached
        reached_gives reached r refused = go (reached_completed a.command helds reached)
          where
            go : Completed helds reached.contents reached.front → stream_of contents ≡ by_reached reached
            go (Whole all read e) =
                let goes = whole_goes a.command (point_of a) types some reached.contents reached.front all reached.whole e in
                ap stream_of (sym (same_contents helds all contents read are)) ∙ goes.refused r refused
            go (UpTo all read within absent e) = absurd (not_absent helds contents (length all) within are absent)

        stop_gives : (stop : Stop)
            → StopSays a.command (point_of a) types a.files before.file (Rose before.read_faults after.read_faults) before.written mid before.write_faults faults stop
            → Ends (Err stop) → GivesOutput (outcome_of a contents).status (λ output. output ≡ (outcome_of a contents).output) result before after
        stop_gives (Refused r) (reached, refused, written, same) ends =
            gives_all (by_reached reached) (reached_gives reached r refused) (refused_gives (by_reached reached) r refused written same ends)
        stop_gives (Unstarted place) s ends =
            absurd (no_start helds contents place (Rose before.read_faults after.read_faults) (omega (arith, s.named, helds_length a.files before.file)) are calm.read s.cause)
        stop_gives (Unread place) s ends = absurd (calm.read s.cause.1)
        stop_gives Write (reached, front, rose) (is, same, still) = absurd (calm.write (subst (λ (n : ℕ). Rose before.write_faults n) (sym still) rose))
        stop_gives NoMemory (reached, front, same) (is, more, still) = inr is

        ended_gives : (r : Result (Unit {0}) Stop) → EndedSays a.command (point_of a) types a.files before.file before.written mid before.write_faults faults r
            → Ends r → GivesOutput (outcome_of a contents).status (λ output. output ≡ (outcome_of a contents).output) result before after
        ended_gives (Ok u) (all, read, (none, written, still)) (is, same, kept) =
            gives_all (stream_of all) (ap stream_of (sym (same_contents helds all contents read are))) (done_gives (stream_of all) none written is same)
        ended_gives (Err (Refused r)) (all, read, (refused, written, same)) ends =
            gives_all (stream_of all) (ap stream_of (sym (same_contents helds all contents read are))) (refused_gives (stream_of all) r refused written same ends)
        ended_gives (Err (Unstarted place)) (all, read, w) ends = absurd w
        ended_gives (Err (Unread place)) (all, read, w) ends = absurd w
        ended_gives (Err Write) (all, read, (front, rose)) (is, same, still) = absurd (calm.write (subst (λ (n : ℕ). Rose before.write_faults n) (sym still) rose))
        ended_gives (Err NoMemory) (all, read, (front, kept)) (is, same, still) = inr is

        gives_by : (r : Result (Unit {0}) Stop)
            → StreamSays a.command (point_of a) types a.files before.file (Rose before.read_faults after.read_faults) before.written mid before.write_faults faults r
            → Ends r → GivesOutput (outcome_of a contents).status (λ output. output ≡ (outcome_of a contents).output) result before after
        gives_by (Ok u) s ends = ended_gives (Ok u) s ends
        gives_by (Err stop) (inl s) ends = stop_gives stop s ends
        gives_by (Err stop) (inr s) ends = ended_gives (Err stop) s ends

-- a stop at a file is at one of these
pub stops_of_file : (c : Command) (types : ℕ) (point : List ℕ) (names : List (List ℕ)) (file : List ℕ → HeldFile) (rose : Type 0) (base new : Texts) (start after : ℕ)
    (r : Result (Unit {0}) Stop) → StreamSays c point types names file rose base new start after r → IsOfFile (length names) r
stops_of_file c types point names file rose base new start after (Ok u) s = tt
stops_of_file c types point names file rose base new start after (Err (Refused r)) s = tt
stops_of_file c types point names file rose base new start after (Err (Unstarted place)) (inl s) = s.named
stops_of_file c types point names file rose base new start after (Err (Unstarted place)) (inr (contents, read, w)) = absurd w
stops_of_file c types point names file rose base new start after (Err (Unread place)) (inl s) = s.named
stops_of_file c types point names file rose base new start after (Err (Unread place)) (inr (contents, read, w)) = absurd w
stops_of_file c types point names file rose base new start after (Err Write) s = tt
stops_of_file c types point names file rose base new start after (Err NoMemory) s = tt

-- with the point's name and the files' as the run has them
pub stream_says : (a : TableArguments) (types : ℕ) (point : List ℕ) (names : List (List ℕ)) (before after : Outside) (mid : Texts) (faults : ℕ) (r : Result (Unit {0}) Stop) (result : Ended)
    → a.command.types ≡ Some types → 0 < types → point ≡ point_of a → names ≡ a.files
    → StreamSays a.command point types names before.file (Rose before.read_faults after.read_faults) before.written mid before.write_faults faults r
    → StopEnds names r mid after.written faults after.write_faults result → Says result (Some (Run a)) before after
stream_says a types point names before after mid faults r result asked some is are s ends =
    says_by a types asked some before after mid faults result r
    (subst (λ (p : List ℕ). StreamSays a.command p types a.files before.file (Rose before.read_faults after.read_faults) before.written mid before.write_faults faults r) is
    (subst (λ (l : List (List ℕ)). StreamSays a.command point types l before.file (Rose before.read_faults after.read_faults) before.written mid before.write_faults faults r) are s))
    (subst (λ (l : List (List ℕ)). StopEnds l r mid after.written faults after.write_faults result) are ends)

pub stream_completes : (a : TableArguments) (types : ℕ) (point : List ℕ) (names : List (List ℕ)) (before after : Outside) (mid : Texts) (faults : ℕ) (r : Result (Unit {0}) Stop) (result : Ended)
    → a.command.types ≡ Some types → 0 < types → point ≡ point_of a → names ≡ a.files
    → StreamSays a.command point types names before.file (Rose before.read_faults after.read_faults) before.written mid before.write_faults faults r
    → StopEnds names r mid after.written faults after.write_faults result → Completes (Some (Run a)) before after result
stream_completes a types point names before after mid faults r result asked some is are s ends = λ calm contents held.
    gives_by a types asked some before after mid faults result calm contents held r
    (subst (λ (p : List ℕ). StreamSays a.command p types a.files before.file (Rose before.read_faults after.read_faults) before.written mid before.write_faults faults r) is
    (subst (λ (l : List (List ℕ)). StreamSays a.command point types l before.file (Rose before.read_faults after.read_faults) before.written mid before.write_faults faults r) are s))
    (subst (λ (l : List (List ℕ)). StopEnds l r mid after.written faults after.write_faults result) are ends)
