-- Going on with a file: what each part of it adds.
use Rattle.std.proofs.Common.{◌≡◌, ◌<◌, ◌∙◌, ◌==◌, ◌&&◌, ◌∷◌, ◌++◌, [], inl, inr, ℕ, Bool, true, false, List, Option, None, Result, Ok, Err, append_assoc, append-nil, length, length-append, refl, sym, ap, subst, arith, if◌then◌else◌}
use Rattle.std.specs.Prelude.{◌%◌, count_by, not}
use Rattle.std.proofs.lemmas.Bool.{eqb-true}
use Rattle.csv.specs.Reading.{is_bom, strip_bom}
use Rattle.dk_driver.specs.Reads.{AtStart, HasBroken, Within, held_file_at}
use Rattle.dk_io.specs.Outside.{HeldFile}
use Rattle.dk_io.specs.Streams.{Texts, with_bytes}
use Rattle.dk_io.specs.declared.outside.Stream.TheVariants.{Report}
use Rattle.dk_write.specs.Texts.{trace_text}
use Rattle.dk_table.specs.Tables.Chunks.{EndsRow}
use Rattle.dk_table.specs.Tables.Contents.{Begins, ReadAs, helds_of}
use Rattle.dk_table.specs.Streams.Pieces.{CutsOf, FillsSays, IsGathered, OpenSays}
use Rattle.dk_table.specs.Tables.PlacedRows.{Placed}
use Rattle.dk_table.specs.Streams.Progress.{AreBehind, FileGoes, IsGoing, IsStopped, StopSays, all_rows, unopened}
use Rattle.dk_table.specs.Streams.Stages.{IsAt, IsBehind, rows_behind}
use Rattle.dk_table.specs.Streams.Stops.{Writes}
use Rattle.dk_table.specs.Streams.{Stream, end_steps, rows_stream, text_rows}
use Rattle.dk_table.specs.Tables.{are_paired, config_by, rows_in}
use Rattle.dk_table.specs.declared.streaming.advancing.Place.{Place}
use Rattle.dk_table.specs.declared.words.command.Command.{Command}
use Rattle.dk_table.specs.declared.faults.Refusal.{Refusal}
use Rattle.dk_table.specs.declared.streaming.filling.Cut.{Cut}
use Rattle.dk_table.specs.declared.streaming.filling.Filled.{Filled}
use Rattle.dk_table.specs.declared.streaming.filling.Filled.TheVariants.{Full, Ended, Failed}
use Rattle.dk_table.specs.declared.streaming.filling.OpenFault.{OpenFault}
use Rattle.dk_table.specs.declared.streaming.filling.OpenFault.TheVariants as opening
use Rattle.dk_table.specs.declared.streaming.filling.Piece.{Piece}
use Rattle.dk_table.specs.declared.streaming.stages.Stage.{Stage}
use Rattle.dk_table.specs.declared.streaming.stops.Stop.{Stop}
use Rattle.dk_table.specs.declared.streaming.stops.Stop.TheVariants.{NoMemory, Refused}
use Rattle.dk_table.specs.declared.streaming.Going.{Going}
use Rattle.dk_table.proofs.Contents.{helds_length}
use Rattle.dk_table.proofs.Gathering.{gathered_cut, gathered_more, gathered_since}
use Rattle.dk_table.proofs.Parts.{both_end, none_ends, paired_append}
use Rattle.dk_table.proofs.Progressed.{begins_none, begins_of, failed_rose, goes_last, none_rows, refused_last, stops, stops_last, stream_within, text_more, wants, whole_of, within_more}

-- ---- a mark has no quotes
mark_parts : (x y z : Bool) → (x && y && z) ≡ true → (x ≡ true) × (y ≡ true) × (z ≡ true)
mark_parts true true true h = (refl, refl, refl)
mark_parts false y z h = absurd (cc h)
mark_parts true false z h = absurd (cc h)
mark_parts true true false h = absurd (cc h)

skip_byte : (a k : ℕ) (rest : List ℕ) → (a == k) ≡ true → (k == 34) ≡ false → count_by (λ b. b == 34) (a ∷ rest) ≡ count_by (λ b. b == 34) rest
skip_byte a k rest is other =
    let none : (a == 34) ≡ false = ap (λ (n : ℕ). n == 34) (eqb-true a k is) ∙ other in rw none refl

bare_paired : (bytes : List ℕ) → are_paired (strip_bom bytes) ≡ are_paired bytes
unfolding strip_bom
bare_paired [] = refl
bare_paired (a ∷ []) = refl
bare_paired (a ∷ b ∷ []) = refl
bare_paired (a ∷ b ∷ c ∷ rest) = by (is_bom a b c) refl
  where
    by : (m : Bool) → is_bom a b c ≡ m → are_paired (if m then rest else a ∷ b ∷ c ∷ rest) ≡ are_paired (a ∷ b ∷ c ∷ rest)
    by false is = refl
    by true is =
        let (first, second, third) = mark_parts (a == 0xEF) (b == 0xBB) (c == 0xBF) is in
        let all : count_by (λ b. b == 34) (a ∷ b ∷ c ∷ rest) ≡ count_by (λ b. b == 34) rest =
        skip_byte a 0xEF (b ∷ c ∷ rest) first refl ∙ skip_byte b 0xBB (c ∷ rest) second refl ∙ skip_byte c 0xBF rest third refl in
        ap (λ (n : ℕ). n % 2 == 0) (sym all)

pub paired_behind : (bytes gone text : List ℕ) → strip_bom bytes ≡ gone ++ text
    → are_paired bytes ≡ (if are_paired text then are_paired gone else not (are_paired gone))
paired_behind bytes gone text is = sym (bare_paired bytes) ∙ ap are_paired is ∙ paired_append gone text

-- ---- a file that was started, or couldn't be
pub opened_at : (held other : HeldFile) (rest : Option (List ℕ)) (early late : Type 0) (r : Result Piece OpenFault) → other ≡ held → (late → early)
    → OpenSays other rest late r → OpenSays held rest early r
opened_at held other rest early late (Ok piece) same since h =
    gathered_since piece.filled held piece.text rest early late since (subst (λ (x : HeldFile). IsGathered piece.filled x piece.text rest late) same h)
opened_at held other rest early late (Err opening.Start) same since (inl absent) = inl (sym same ∙ absent)
opened_at held other rest early late (Err opening.Start) same since (inr rose) = inr (since rose)
opened_at held other rest early late (Err opening.NoMemory) same since h = h

-- ---- behind files that were read
module _ (c : Command) (point : List ℕ) (types : ℕ) (names : List (List ℕ)) (file : List ℕ → HeldFile) (place : ℕ) (contents : List (List ℕ))
    (stage : Stage) (base old : Texts) (start before : ℕ) (within : place < length names)
    (b : AreBehind c point types names file place contents stage base old start before) where
  abbrev none_gone : List Placed
  none_gone = all_rows c.separator 0 contents ++ text_rows c.separator (length contents) []

  none_more_rows : none_gone ≡ all_rows c.separator 0 contents
  none_more_rows =
      ap (λ (l : List Placed). all_rows c.separator 0 contents ++ l) (none_rows c.separator (length contents)) ∙ append-nil (all_rows c.separator 0 contents)

  here : length contents < length names
  here = omega (arith, b.many, within)

  written_here : old ≡ with_bytes base Report (trace_text (rows_stream c point types none_gone).written)
  written_here = b.written ∙ ap (λ (l : List Placed). with_bytes base Report (trace_text (rows_stream c point types l).written)) (sym none_more_rows)

  none_here : (rows_stream c point types none_gone).refusal ≡ None
  none_here = ap (λ (l : List Placed). (rows_stream c point types l).refusal) none_more_rows ∙ b.none

  -- a file that is started
  pub begin_file : (filled : Filled) (text : List ℕ) (rest : Option (List ℕ)) (rose : Type 0) → IsGathered filled (held_file_at (helds_of names file) place) text rest rose
      → IsGoing c point types names file rose place contents (record { place = record { stage = stage; count = 0; is_paired = true }; text = text; filled = filled }) rest base old start before
  begin_file filled text rest rose h = record {
    gone = [];
    many = b.many;
    named = here;
    read = b.read;
    complete = b.whole;
    within = record {
      whole = none_ends (config_by c.separator);
      at = subst (IsAt c point types stage) (sym none_more_rows) b.at;
      count = sym (ap length (none_rows c.separator (length contents)));
      paired = refl;
    };
    none = none_here;
    gathered = subst (λ (n : ℕ). IsGathered filled (held_file_at (helds_of names file) n) text rest rose) (sym b.many) h;
    written = written_here;
    calm = b.calm;
  }

  -- one that can't be
  unstarted : (rose : Type 0) → HasBroken AtStart (held_file_at (helds_of names file) place) rose → IsStopped c point types names file rose AtStart base old start before place
  unstarted rose cause = record {
    reached = record { contents = contents; front = []; read = b.read; next = inl refl; begins = begins_none (held_file_at (helds_of names file) (length contents)); whole = none_ends (config_by c.separator) };
    here = sym b.many;
    named = within;
    cause = cause;
    own = refl;
    none = ap (λ (s : Stream). s.refusal) (stream_within c point types contents b.whole []) ∙ none_here;
    written = written_here ∙ ap (λ (s : Stream). with_bytes base Report (trace_text s.written)) (sym (stream_within c point types contents b.whole []));
    calm = b.calm;
  }

  pub unopened_says : (fault : OpenFault) (rest : Option (List ℕ)) (rose : Type 0) → OpenSays (held_file_at (helds_of names file) place) rest rose (Err fault)
      → StopSays c point types names file rose base old start before (unopened place fault)
  unopened_says opening.Start rest rose h = unstarted rose h
  unopened_says opening.NoMemory rest rose h =
      wants c point types names file rose contents here b.read b.whole base start [] (begins_none (held_file_at (helds_of names file) (length contents))) (none_ends (config_by c.separator))
      old before written_here b.calm

-- ---- within a file
-- the same files
pub going_as : (c : Command) (point : List ℕ) (types : ℕ) (names : List (List ℕ)) (file other : List ℕ → HeldFile) (rose : Type 0) (place : ℕ) (contents : List (List ℕ))
    (going : Going) (rest : Option (List ℕ)) (base old : Texts) (start before : ℕ) → file ≡ other
    → IsGoing c point types names file rose place contents going rest base old start before → IsGoing c point types names other rose place contents going rest base old start before
going_as c point types names file other rose place contents going rest base old start before same g =
    subst (λ (f : List ℕ → HeldFile). IsGoing c point types names f rose place contents going rest base old start before) same g

module _ (c : Command) (point : List ℕ) (types : ℕ) (names : List (List ℕ)) (file : List ℕ → HeldFile) (rose : Type 0) (place : ℕ) (contents : List (List ℕ))
    (going : Going) (rest : Option (List ℕ)) (base old : Texts) (start before : ℕ)
    (g : IsGoing c point types names file rose place contents going rest base old start before) where
  abbrev held : HeldFile
  held = held_file_at (helds_of names file) (length contents)

  abbrev so_far : List Placed
  so_far = all_rows c.separator 0 contents ++ text_rows c.separator (length contents) g.gone

  abbrev next_of : List ℕ → List Placed
  next_of chunk = rows_behind c.separator place going.place.count chunk

  begun : Begins held g.gone
  begun = begins_of going.filled held g.gone going.text rest rose g.gathered

  -- memory is wanting before anything more is written
  pub none_more : StopSays c point types names file rose base old start before NoMemory
  none_more = wants c point types names file rose contents g.named g.read g.complete base start g.gone begun g.within.whole old before g.written g.calm

  same_rows : (chunk : List ℕ) → all_rows c.separator 0 contents ++ text_rows c.separator (length contents) (g.gone ++ chunk) ≡ so_far ++ next_of chunk
  same_rows chunk =
      ap (λ (l : List Placed). all_rows c.separator 0 contents ++ l) (text_more c.separator (length contents) going.place.count g.gone chunk g.within.whole g.within.count)
      ∙ sym (append_assoc (all_rows c.separator 0 contents) (text_rows c.separator (length contents) g.gone) (rows_behind c.separator (length contents) going.place.count chunk))
      ∙ ap (λ (n : ℕ). so_far ++ rows_behind c.separator n going.place.count chunk) g.many

  -- ---- whole rows that were gathered
  module _ (cut : Cut) (cuts : CutsOf c.separator going.text false cut) where
    gathered_again : IsGathered going.filled held ((g.gone ++ cut.rows) ++ cut.rest) rest rose
    gathered_again = gathered_cut going.filled held g.gone going.text cut.rows cut.rest rest rose cuts.0 g.gathered

    ends_again : EndsRow (config_by c.separator) (g.gone ++ cut.rows)
    ends_again = both_end (config_by c.separator) g.gone cut.rows g.within.whole cuts.1

    pub stops_whole : (A : Type 0) (stop : Stop) (new : Texts) (after : ℕ)
        → Writes {A = A} (trace_text (rows_stream c point types (so_far ++ next_of cut.rows)).written) (rows_stream c point types (so_far ++ next_of cut.rows)).refusal base new start after (Err stop)
        → StopSays c point types names file rose base new start after stop
    stops_whole A stop new after h =
        stops c point types names file rose contents g.named g.read g.complete base start (g.gone ++ cut.rows)
        (begins_of going.filled held (g.gone ++ cut.rows) cut.rest rest rose gathered_again) ends_again A stop new after
        (subst (λ (l : List Placed). Writes {A = A} (trace_text (rows_stream c point types l).written) (rows_stream c point types l).refusal base new start after (Err stop)) (sym (same_rows cut.rows)) h)

    pub goes_whole : (next : Place) (new : Texts) (after : ℕ)
        → Writes {A = Place} (trace_text (rows_stream c point types (so_far ++ next_of cut.rows)).written) (rows_stream c point types (so_far ++ next_of cut.rows)).refusal base new start after (Ok next)
        → IsBehind c point types place going.place cut.rows next (so_far ++ next_of cut.rows)
        → IsGoing c point types names file rose place contents (record { place = next; text = cut.rest; filled = going.filled }) rest base new start after
    goes_whole next new after (none, is, calm) behind = record {
      gone = g.gone ++ cut.rows;
      many = g.many;
      named = g.named;
      read = g.read;
      complete = g.complete;
      within = within_more c point types contents g.gone cut.rows going.place next g.within cuts.1
          (subst (λ (n : ℕ). IsBehind c point types n going.place cut.rows next (so_far ++ rows_behind c.separator n going.place.count cut.rows)) (sym g.many) behind);
      none = ap (λ (l : List Placed). (rows_stream c point types l).refusal) (same_rows cut.rows) ∙ none;
      gathered = gathered_again;
      written = is ∙ ap (λ (l : List Placed). with_bytes base Report (trace_text (rows_stream c point types l).written)) (sym (same_rows cut.rows));
      calm = calm;
    }

  -- ---- more is gathered
  pub goes_on : (filled : Filled) (text : List ℕ) (left : Option (List ℕ)) (early late : Type 0) → going.filled ≡ Full → FillsSays going.text text rest left late filled → (late → early)
      → IsGoing c point types names file early place contents (record { place = going.place; text = text; filled = filled }) left base old start before
  goes_on filled text left early late full fills since = record {
    gone = g.gone;
    many = g.many;
    named = g.named;
    read = g.read;
    complete = g.complete;
    within = g.within;
    none = g.none;
    gathered = gathered_since filled held (g.gone ++ text) left early late since
        (gathered_more filled held g.gone going.text text rest left rose late (subst (λ (f : Filled). IsGathered f held (g.gone ++ going.text) rest rose) full g.gathered) fills);
    written = g.written;
    calm = g.calm;
  }

  -- ---- a read failed
  pub has_failed : going.filled ≡ Failed → HasBroken Within held rose
  has_failed failed = failed_rose held (g.gone ++ going.text) rest rose (subst (λ (f : Filled). IsGathered f held (g.gone ++ going.text) rest rose) failed g.gathered)

  pub unread_says : HasBroken Within held rose → IsStopped c point types names file rose Within base old start before place
  unread_says cause = record {
    reached = record {
      contents = contents;
      front = g.gone;
      read = g.read;
      next = inr (omega (arith, g.named, helds_length names file));
      begins = begun;
      whole = g.within.whole;
    };
    here = sym g.many;
    named = omega (arith, g.many, g.named);
    cause = subst (λ (n : ℕ). HasBroken Within (held_file_at (helds_of names file) n) rose) g.many cause;
    own = tt;
    none = ap (λ (s : Stream). s.refusal) (stream_within c point types contents g.complete g.gone) ∙ g.none;
    written = g.written ∙ ap (λ (s : Stream). with_bytes base Report (trace_text s.written)) (sym (stream_within c point types contents g.complete g.gone));
    calm = g.calm;
  }

  -- ---- the file's last rows
  module _ (bytes : List ℕ) (own_read : ReadAs held bytes) (whole_is : strip_bom bytes ≡ g.gone ++ going.text) (chunk : List ℕ) (all : chunk ≡ going.text) where
    same_next : next_of chunk ≡ rows_behind c.separator (length contents) going.place.count going.text
    same_next = ap (λ (t : List ℕ). next_of t) all ∙ ap (λ (n : ℕ). rows_behind c.separator n going.place.count going.text) (sym g.many)

    same_now : so_far ++ next_of chunk ≡ so_far ++ rows_behind c.separator (length contents) going.place.count going.text
    same_now = ap (λ (l : List Placed). so_far ++ l) same_next

    stops_end : (A : Type 0) (stop : Stop) (new : Texts) (after : ℕ)
        → Writes {A = A} (trace_text (rows_stream c point types (so_far ++ next_of chunk)).written) (rows_stream c point types (so_far ++ next_of chunk)).refusal base new start after (Err stop)
        → StopSays c point types names file rose base new start after stop
    stops_end A stop new after h =
        stops_last c point types names file rose contents g.named g.read g.complete base start g.gone going.text bytes own_read whole_is g.within.whole going.place.count g.within.count A stop new after
        (subst (λ (l : List Placed). Writes {A = A} (trace_text (rows_stream c point types l).written) (rows_stream c point types l).refusal base new start after (Err stop)) same_now h)

    same_end : (next : Place) → IsBehind c point types place going.place chunk next (so_far ++ next_of chunk)
        → end_steps (length contents) (length (rows_in c.separator (length contents) bytes)) (are_paired bytes) ≡ end_steps place next.count next.is_paired
    same_end next (at, count, paired) =
        let own : rows_in c.separator (length contents) bytes ≡ text_rows c.separator (length contents) g.gone ++ rows_behind c.separator (length contents) going.place.count going.text =
        ap (text_rows c.separator (length contents)) whole_is ∙ text_more c.separator (length contents) going.place.count g.gone going.text g.within.whole g.within.count in
        let many : length (rows_in c.separator (length contents) bytes) ≡ next.count =
        omega (
          arith,
          count,
          g.within.count,
          ap length own,
          ap length same_next,
          length-append (text_rows c.separator (length contents) g.gone) (rows_behind c.separator (length contents) going.place.count going.text),
        ) in
        let quotes : are_paired bytes ≡ next.is_paired =
        paired_behind bytes g.gone going.text whole_is ∙ ap (λ (t : List ℕ). if are_paired t then are_paired g.gone else not (are_paired g.gone)) (sym all)
        ∙ ap (λ (b : Bool). if are_paired chunk then b else not b) (sym g.within.paired) ∙ sym paired in
        ap (λ (n : ℕ). end_steps n (length (rows_in c.separator (length contents) bytes)) (are_paired bytes)) g.many
        ∙ ap (λ (n : ℕ). end_steps place n (are_paired bytes)) many ∙ ap (end_steps place next.count) quotes

    refused_end : (next : Place) (refusal : Refusal) (new : Texts) (after : ℕ)
        → Writes {A = Place} (trace_text (rows_stream c point types (so_far ++ next_of chunk)).written) (rows_stream c point types (so_far ++ next_of chunk)).refusal base new start after (Ok next)
        → IsBehind c point types place going.place chunk next (so_far ++ next_of chunk) → end_steps place next.count next.is_paired ≡ Err refusal ∷ []
        → StopSays c point types names file rose base new start after (Refused refusal)
    refused_end next refusal new after (none, is, calm) behind refused =
        refused_last c point types names file rose contents g.named g.read g.complete base start g.gone going.text bytes own_read whole_is g.within.whole going.place.count g.within.count refusal new after
        (same_end next behind ∙ refused) (ap (λ (l : List Placed). (rows_stream c point types l).refusal) (sym same_now) ∙ none)
        (is ∙ ap (λ (l : List Placed). with_bytes base Report (trace_text (rows_stream c point types l).written)) same_now) calm

    goes_end : (next : Place) (new : Texts) (after : ℕ)
        → Writes {A = Place} (trace_text (rows_stream c point types (so_far ++ next_of chunk)).written) (rows_stream c point types (so_far ++ next_of chunk)).refusal base new start after (Ok next)
        → IsBehind c point types place going.place chunk next (so_far ++ next_of chunk) → end_steps place next.count next.is_paired ≡ []
        → FileGoes c point types names file rose place contents base new start after (Ok next.stage)
    goes_end next new after (none, is, calm) behind ends =
        goes_last c point types names file rose contents g.named g.read g.complete base start g.gone going.text bytes own_read whole_is g.within.whole going.place.count g.within.count next.stage new after place
        g.many (same_end next behind ∙ ends) (subst (IsAt c point types next.stage) same_now behind.0) (ap (λ (l : List Placed). (rows_stream c point types l).refusal) (sym same_now) ∙ none)
        (is ∙ ap (λ (l : List Placed). with_bytes base Report (trace_text (rows_stream c point types l).written)) same_now) calm

  -- The file ends here, and all that was gathered is its rows.
  module _ (ended : going.filled ≡ Ended) (cut : Cut) (cuts : CutsOf c.separator going.text true cut) where
    last_bytes : (bytes : List ℕ) × ReadAs held bytes × (strip_bom bytes ≡ g.gone ++ going.text)
    last_bytes = whole_of held (g.gone ++ going.text) rest rose (subst (λ (f : Filled). IsGathered f held (g.gone ++ going.text) rest rose) ended g.gathered)

    pub stops_ended : (A : Type 0) (stop : Stop) (new : Texts) (after : ℕ)
        → Writes {A = A} (trace_text (rows_stream c point types (so_far ++ next_of cut.rows)).written) (rows_stream c point types (so_far ++ next_of cut.rows)).refusal base new start after (Err stop)
        → StopSays c point types names file rose base new start after stop
    stops_ended A stop new after h = let (bytes, own_read, whole_is) = last_bytes in stops_end bytes own_read whole_is cut.rows cuts.0 A stop new after h

    pub refused_ended : (next : Place) (refusal : Refusal) (new : Texts) (after : ℕ)
        → Writes {A = Place} (trace_text (rows_stream c point types (so_far ++ next_of cut.rows)).written) (rows_stream c point types (so_far ++ next_of cut.rows)).refusal base new start after (Ok next)
        → IsBehind c point types place going.place cut.rows next (so_far ++ next_of cut.rows) → end_steps place next.count next.is_paired ≡ Err refusal ∷ []
        → StopSays c point types names file rose base new start after (Refused refusal)
    refused_ended next refusal new after h behind refused =
        let (bytes, own_read, whole_is) = last_bytes in refused_end bytes own_read whole_is cut.rows cuts.0 next refusal new after h behind refused

    pub goes_ended : (next : Place) (new : Texts) (after : ℕ)
        → Writes {A = Place} (trace_text (rows_stream c point types (so_far ++ next_of cut.rows)).written) (rows_stream c point types (so_far ++ next_of cut.rows)).refusal base new start after (Ok next)
        → IsBehind c point types place going.place cut.rows next (so_far ++ next_of cut.rows) → end_steps place next.count next.is_paired ≡ []
        → FileGoes c point types names file rose place contents base new start after (Ok next.stage)
    goes_ended next new after h behind ends = let (bytes, own_read, whole_is) = last_bytes in goes_end bytes own_read whole_is cut.rows cuts.0 next new after h behind ends
