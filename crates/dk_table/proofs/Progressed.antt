-- What is known behind each file, and within one.
use Rattle.std.proofs.Common.{◌≡◌, ◌<◌, ◌+◌, ◌∙◌, ◌∷◌, ◌++◌, [], inl, inr, ℕ, zero, suc, Bool, false, List, Option, Some, None, Ok, Err, append_assoc, append-nil, length, length-append, not, refl, sym, ap, subst, take, arith, if◌then◌else◌}
use Rattle.std.proofs.lemmas.List.{take_all}
use Rattle.csv.specs.Reading.{records, strip_bom}
use Rattle.dk_driver.specs.Reads.{HasBroken, Within, held_file_at}
use Rattle.dk_io.specs.Outside.{HeldFile, Untold, Absent, Holds}
use Rattle.dk_io.specs.Streams.{AddsFront, Texts, with_bytes}
use Rattle.dk_io.specs.declared.outside.Stream.TheVariants.{Report}
use Rattle.dk_write.specs.Texts.{trace_text}
use Rattle.dk_table.specs.Tables.Chunks.{EndsRow}
use Rattle.dk_table.specs.Tables.Contents.{AreReadAs, Begins, ReadAs, Reached, helds_of}
use Rattle.dk_table.specs.Streams.Pieces.{IsGathered}
use Rattle.dk_table.specs.Tables.PlacedRows.{Placed}
use Rattle.dk_table.specs.Streams.Progress.{AreWhole, FileGoes, HasFirst, IsWithin, StopSays, all_rows, reached_stream}
use Rattle.dk_table.specs.Streams.Stages.{IsAt, IsBehind, rows_behind}
use Rattle.dk_table.specs.Streams.Stops.{Writes}
use Rattle.dk_table.specs.Streams.{Step, Stream, all_steps, end_steps, first_cells, first_rows, names_in, next_rows, rows_steps, rows_stream, stream_in, stream_with, text_rows}
use Rattle.dk_table.specs.Tables.{are_paired, config_by, names_by, placed_from, rows_in}
use Rattle.dk_table.specs.declared.words.command.Command.{Command}
use Rattle.dk_table.specs.declared.faults.Refusal.{Refusal}
use Rattle.dk_table.specs.declared.streaming.filling.Filled.{Filled}
use Rattle.dk_table.specs.declared.streaming.filling.Filled.TheVariants.{Full, Ended, Failed}
use Rattle.dk_table.specs.declared.streaming.stages.Stage.{Stage}
use Rattle.dk_table.specs.declared.streaming.stops.Stop.{Stop}
use Rattle.dk_table.specs.declared.streaming.stops.Stop.TheVariants.{NoMemory, Refused, Unread, Unstarted, Write}
use Rattle.dk_table.specs.declared.streaming.advancing.Place.{Place}
use Rattle.dk_table.proofs.AllRecords.{placed_length}
use Rattle.dk_table.proofs.Contents.{helds_length, read_next}
use Rattle.dk_table.proofs.Grown.{refusal_stays, refused_at_end, written_grows}
use Rattle.dk_table.proofs.Parts.{both_end, no_records, none_ends, paired_append, rows_append}
use Rattle.dk_table.proofs.Sent.{adds_more}
use Rattle.dk_table.proofs.Streamed.{first_stays, steps_apart}

-- ---- rows of parts
-- the rows behind those of whole rows
pub text_more : (separator file count : ℕ) (gone bytes : List ℕ) → EndsRow (config_by separator) gone → count ≡ length (text_rows separator file gone)
    → text_rows separator file (gone ++ bytes) ≡ text_rows separator file gone ++ rows_behind separator file count bytes
text_more separator file count gone bytes ends counted =
    let cfg = config_by separator in
    let same : 1 + length (records cfg gone) ≡ count + 1 = omega (arith, counted, placed_length file 1 (records cfg gone)) in
    rows_append cfg file 1 gone bytes ends ∙ ap (λ (n : ℕ). text_rows separator file gone ++ placed_from file n (records cfg bytes)) same

-- no rows
pub none_rows : (separator file : ℕ) → text_rows separator file [] ≡ []
none_rows separator file = ap (placed_from file 1) (no_records (config_by separator))

pub all_more : (separator n : ℕ) (contents : List (List ℕ)) (bytes : List ℕ)
    → all_rows separator n (contents ++ bytes ∷ []) ≡ all_rows separator n contents ++ rows_in separator (n + length contents) bytes
all_more separator n [] bytes =
    let same : n ≡ n + 0 = omega arith in append-nil (rows_in separator n bytes) ∙ ap (λ (k : ℕ). rows_in separator k bytes) same
all_more separator n (b ∷ contents) bytes =
    let same : n + 1 + length contents ≡ n + length (b ∷ contents) = omega arith in
    ap (λ (l : List Placed). rows_in separator n b ++ l)
    (all_more separator (n + 1) contents bytes ∙ ap (λ (k : ℕ). all_rows separator (n + 1) contents ++ rows_in separator k bytes) same)
    ∙ sym (append_assoc (rows_in separator n b) (all_rows separator (n + 1) contents) (rows_in separator (n + length (b ∷ contents)) bytes))

module _ (c : Command) (names : List (List ℕ)) where
  steps_more : (n : ℕ) (contents : List (List ℕ)) (bytes : List ℕ)
      → all_steps c names n (contents ++ bytes ∷ []) ≡ all_steps c names n contents
      ++ (rows_steps c.has_header names (rows_in c.separator (n + length contents) bytes) ++ end_steps (n + length contents) (length (rows_in c.separator (n + length contents) bytes)) (are_paired bytes))
  steps_more n [] bytes =
      let same : n ≡ n + 0 = omega arith in
      append-nil (rows_steps c.has_header names (rows_in c.separator n bytes) ++ end_steps n (length (rows_in c.separator n bytes)) (are_paired bytes))
      ∙ ap (λ (k : ℕ). rows_steps c.has_header names (rows_in c.separator k bytes) ++ end_steps k (length (rows_in c.separator k bytes)) (are_paired bytes)) same
  steps_more n (b ∷ contents) bytes =
      let same : n + 1 + length contents ≡ n + length (b ∷ contents) = omega arith in
      let own = rows_steps c.has_header names (rows_in c.separator n b) ++ end_steps n (length (rows_in c.separator n b)) (are_paired b) in
      ap (λ l. own ++ l)
      (steps_more (n + 1) contents bytes
      ∙ ap (λ (k : ℕ). all_steps c names (n + 1) contents ++ (rows_steps c.has_header names (rows_in c.separator k bytes) ++ end_steps k (length (rows_in c.separator k bytes)) (are_paired bytes))) same)
      ∙ sym (append_assoc own (all_steps c names (n + 1) contents)
      (rows_steps c.has_header names (rows_in c.separator (n + length (b ∷ contents)) bytes) ++ end_steps (n + length (b ∷ contents)) (length (rows_in c.separator (n + length (b ∷ contents)) bytes)) (are_paired bytes)))

pub all_last : (separator : ℕ) (contents : List (List ℕ)) (bytes : List ℕ)
    → all_rows separator 0 (contents ++ bytes ∷ []) ≡ all_rows separator 0 contents ++ rows_in separator (length contents) bytes
all_last separator contents bytes =
    let same : 0 + length contents ≡ length contents = omega arith in
    all_more separator 0 contents bytes ∙ ap (λ (k : ℕ). all_rows separator 0 contents ++ rows_in separator k bytes) same

steps_last : (c : Command) (names : List (List ℕ)) (contents : List (List ℕ)) (bytes : List ℕ)
    → all_steps c names 0 (contents ++ bytes ∷ []) ≡ all_steps c names 0 contents
    ++ (rows_steps c.has_header names (rows_in c.separator (length contents) bytes) ++ end_steps (length contents) (length (rows_in c.separator (length contents) bytes)) (are_paired bytes))
steps_last c names contents bytes =
    let same : 0 + length contents ≡ length contents = omega arith in
    steps_more c names 0 contents bytes
    ∙ ap (λ (k : ℕ). all_steps c names 0 contents ++ (rows_steps c.has_header names (rows_in c.separator k bytes) ++ end_steps k (length (rows_in c.separator k bytes)) (are_paired bytes))) same

-- ---- names
cells_first : (separator : ℕ) (contents : List (List ℕ)) (next : Option (List ℕ)) → HasFirst separator contents
    → first_cells (first_rows separator contents next) ≡ first_cells (all_rows separator 0 contents ++ next_rows separator (length contents) next)
cells_first separator [] next some = refl
cells_first separator (bytes ∷ more) next some =
    let own : List Placed = rows_in separator 0 bytes in
    let behind : List Placed = all_rows separator 1 more ++ next_rows separator (length (bytes ∷ more)) next in
    sym (ap first_cells (append_assoc own (all_rows separator 1 more) (next_rows separator (length (bytes ∷ more)) next)) ∙ first_stays own behind some)

cells_last : (separator : ℕ) (contents : List (List ℕ)) (bytes : List ℕ) (next : Option (List ℕ)) → HasFirst separator contents
    → first_cells (first_rows separator (contents ++ bytes ∷ []) next) ≡ first_cells (all_rows separator 0 contents ++ rows_in separator (length contents) bytes)
cells_last separator [] bytes next some = refl
cells_last separator (b ∷ more) bytes next some =
    let own : List Placed = rows_in separator 0 b in
    let behind : List Placed = all_rows separator 1 more ++ rows_in separator (length (b ∷ more)) bytes in
    sym (ap first_cells (append_assoc own (all_rows separator 1 more) (rows_in separator (length (b ∷ more)) bytes)) ∙ first_stays own behind some)

-- ---- streams of what was reached
module _ (c : Command) (point : List ℕ) (types : ℕ) (contents : List (List ℕ)) (whole : AreWhole c contents) where
  abbrev rows : List Placed
  rows = all_rows c.separator 0 contents

  -- within a file
  pub stream_within : (gone : List ℕ) → stream_in c point types contents (Some gone) ≡ rows_stream c point types (rows ++ text_rows c.separator (length contents) gone)
  stream_within gone =
      let own : List Placed = text_rows c.separator (length contents) gone in
      let h : Bool = c.has_header in
      let names : names_in c contents (Some gone) ≡ names_by h (first_cells (rows ++ own)) = ap (names_by h) (cells_first c.separator contents (Some gone) whole.first) in
      ap (λ (ns : List (List ℕ)). stream_with point ns types false (all_steps c ns 0 contents ++ rows_steps h ns own)) names
      ∙ ap (λ l. stream_with point (names_by h (first_cells (rows ++ own))) types false (l ++ rows_steps h (names_by h (first_cells (rows ++ own))) own)) (whole.steps (names_by h (first_cells (rows ++ own))))
      ∙ ap (stream_with point (names_by h (first_cells (rows ++ own))) types false) (sym (steps_apart h (names_by h (first_cells (rows ++ own))) rows own))

  -- behind a file that is read to its end, whether it can end so or not
  pub stream_last : (bytes : List ℕ) → let own = rows_in c.separator (length contents) bytes in let names = names_by c.has_header (first_cells (rows ++ own)) in
      stream_in c point types (contents ++ bytes ∷ []) (Some [])
      ≡ stream_with point names types false (rows_steps c.has_header names (rows ++ own) ++ end_steps (length contents) (length own) (are_paired bytes))
  stream_last bytes =
      let own : List Placed = rows_in c.separator (length contents) bytes in
      let h : Bool = c.has_header in
      let ns : List (List ℕ) = names_by h (first_cells (rows ++ own)) in
      let last = end_steps (length contents) (length own) (are_paired bytes) in
      let next : List Placed = text_rows c.separator (length (contents ++ bytes ∷ [])) [] in
      ap (λ (l : List (List ℕ)). stream_with point l types false (all_steps c l 0 (contents ++ bytes ∷ []) ++ rows_steps h l next)) (ap (names_by h) (cells_last c.separator contents bytes (Some []) whole.first))
      ∙ ap (λ (l : List Placed). stream_with point ns types false (all_steps c ns 0 (contents ++ bytes ∷ []) ++ rows_steps h ns l)) (none_rows c.separator (length (contents ++ bytes ∷ [])))
      ∙ ap (stream_with point ns types false) (append-nil (all_steps c ns 0 (contents ++ bytes ∷ [])) ∙ steps_last c ns contents bytes
      ∙ ap (λ l. l ++ (rows_steps h ns own ++ last)) (whole.steps ns)
      ∙ sym (append_assoc (rows_steps h ns rows) (rows_steps h ns own) last) ∙ ap (λ l. l ++ last) (sym (steps_apart h ns rows own)))

  -- a file that can end so
  pub whole_more : (bytes : List ℕ) → end_steps (length contents) (length (rows_in c.separator (length contents) bytes)) (are_paired bytes) ≡ [] → AreWhole c (contents ++ bytes ∷ [])
  whole_more bytes ends = record {
    steps = λ names.
        steps_last c names contents bytes
        ∙ ap (λ l. l ++ (rows_steps c.has_header names own ++ end_steps (length contents) (length own) (are_paired bytes))) (whole.steps names)
        ∙ ap (λ l. rows_steps c.has_header names rows ++ (rows_steps c.has_header names own ++ l)) ends
        ∙ ap (λ l. rows_steps c.has_header names rows ++ l) (append-nil (rows_steps c.has_header names own))
        ∙ sym (steps_apart c.has_header names rows own) ∙ ap (rows_steps c.has_header names) (sym (all_last c.separator contents bytes));
    first = first_more contents whole.first ends;
  }
    where
      own : List Placed
      own = rows_in c.separator (length contents) bytes

      some_row : (file count : ℕ) (paired : Bool) → end_steps file count paired ≡ [] → 0 < count
      some_row file zero paired e = absurd (cc e)
      some_row file (suc n) paired e = omega arith

      first_more : (l : List (List ℕ)) → HasFirst c.separator l → end_steps (length l) (length (rows_in c.separator (length l) bytes)) (are_paired bytes) ≡ [] → HasFirst c.separator (l ++ bytes ∷ [])
      first_more [] some e = some_row 0 (length (rows_in c.separator 0 bytes)) (are_paired bytes) e
      first_more (b ∷ more) some e = some

-- ---- what was gone through
pub within_more : (c : Command) (point : List ℕ) (types : ℕ) (contents : List (List ℕ)) (gone chunk : List ℕ) (place next : Place) → IsWithin c point types contents gone place
    → EndsRow (config_by c.separator) chunk
    → IsBehind c point types (length contents) place chunk next
    ((all_rows c.separator 0 contents ++ text_rows c.separator (length contents) gone) ++ rows_behind c.separator (length contents) place.count chunk)
    → IsWithin c point types contents (gone ++ chunk) next
within_more c point types contents gone chunk place next within ends (at, count, paired) =
    let file : ℕ = length contents in
    let rows : List Placed = all_rows c.separator 0 contents in
    let own : List Placed = rows_behind c.separator file place.count chunk in
    let more : text_rows c.separator file (gone ++ chunk) ≡ text_rows c.separator file gone ++ own = text_more c.separator file place.count gone chunk within.whole within.count in
    record {
      whole = both_end (config_by c.separator) gone chunk within.whole ends;
      at = subst (IsAt c point types next.stage) (append_assoc rows (text_rows c.separator file gone) own ∙ ap (λ (l : List Placed). rows ++ l) (sym more)) at;
      count = count ∙ omega (arith, within.count, ap length more, length-append (text_rows c.separator file gone) own);
      paired = paired ∙ ap (λ (b : Bool). if are_paired chunk then b else not b) within.paired ∙ sym (paired_append gone chunk);
    }

-- ---- how a file begins
pub begins_of : (filled : Filled) (held : HeldFile) (gone text : List ℕ) (rest : Option (List ℕ)) (rose : Type 0) → IsGathered filled held (gone ++ text) rest rose → Begins held gone
begins_of Full Untold gone text rest rose h = tt
begins_of Full Absent gone text rest rose h = absurd h
begins_of Full (Holds bytes) gone text rest rose (left, is, e) = (text ++ left, e ∙ append_assoc gone text left)
begins_of Ended Untold gone text rest rose h = tt
begins_of Ended Absent gone text rest rose h = absurd h
begins_of Ended (Holds bytes) gone text rest rose e = (text, e)
begins_of Failed Untold gone text rest rose h = tt
begins_of Failed Absent gone text rest rose h = absurd h
begins_of Failed (Holds bytes) gone text rest rose (why, (left, e)) = (text ++ left, e ∙ append_assoc gone text left)

pub begins_none : (held : HeldFile) → Begins held []
begins_none Untold = tt
begins_none Absent = refl
begins_none (Holds bytes) = (strip_bom bytes, refl)

pub marked : (text : List ℕ) → strip_bom (0xEF ∷ 0xBB ∷ 0xBF ∷ text) ≡ text
unfolding strip_bom
marked text = refl

-- a file that was read to its end has bytes
pub whole_of : (held : HeldFile) (text : List ℕ) (rest : Option (List ℕ)) (rose : Type 0) → IsGathered Ended held text rest rose → (bytes : List ℕ) × ReadAs held bytes × (strip_bom bytes ≡ text)
whole_of Untold text rest rose h = (0xEF ∷ 0xBB ∷ 0xBF ∷ text, tt, marked text)
whole_of Absent text rest rose h = absurd h
whole_of (Holds bytes) text rest rose e = (bytes, refl, e)

pub failed_rose : (held : HeldFile) (text : List ℕ) (rest : Option (List ℕ)) (rose : Type 0) → IsGathered Failed held text rest rose → HasBroken Within held rose
failed_rose Untold text rest rose h = (λ e. absurd (cc e), h)
failed_rose Absent text rest rose h = absurd h
failed_rose (Holds bytes) text rest rose h = (λ e. absurd (cc e), h.0)

-- ---- stops
pub adds_all : (base new : Texts) (due : List ℕ) → new ≡ with_bytes base Report due → AddsFront base new Report due
adds_all base new due is = (length due, omega arith, is ∙ ap (with_bytes base Report) (sym (take_all (length due) due (omega arith))))

module _ (c : Command) (point : List ℕ) (types : ℕ) (names : List (List ℕ)) (file : List ℕ → HeldFile) (rose : Type 0) (base new : Texts) (start after : ℕ)
    (reached : Reached c (helds_of names file)) where
  -- a stop of rows that all come to what was reached
  pub stop_says : (A : Type 0) (stop : Stop) (s : Stream) (rest : List ℕ)
      → ((r : Refusal) → s.refusal ≡ Some r → reached_stream c point types reached ≡ s)
      → trace_text (reached_stream c point types reached).written ≡ trace_text s.written ++ rest
      → Writes {A = A} (trace_text s.written) s.refusal base new start after (Err stop) → StopSays c point types names file rose base new start after stop
  stop_says A (Refused r) s rest known grows (some, is, still) =
      let same : reached_stream c point types reached ≡ s = known r some in
      (reached, ap (λ (t : Stream). t.refusal) same ∙ some, is ∙ ap (λ (t : Stream). with_bytes base Report (trace_text t.written)) (sym same), still)
  stop_says A (Unstarted place) s rest known grows h = absurd h
  stop_says A (Unread place) s rest known grows h = absurd h
  stop_says A Write s rest known grows (front, rises) =
      (reached, subst (AddsFront base new Report) (sym grows) (adds_more base new (trace_text s.written) rest front), rises)
  stop_says A NoMemory s rest known grows (front, still) =
      (reached, subst (AddsFront base new Report) (sym grows) (adds_more base new (trace_text s.written) rest front), still)

  -- memory that is wanting between two chunks
  pub none_says : new ≡ with_bytes base Report (trace_text (reached_stream c point types reached).written) → after ≡ start → StopSays c point types names file rose base new start after NoMemory
  none_says is still = (reached, adds_all base new (trace_text (reached_stream c point types reached).written) is, still)

-- ---- rows of a file that are gone through
-- streams of several parts
pub grows_within : (c : Command) (point : List ℕ) (types : ℕ) (rows own : List Placed) (r : Refusal) → (rows_stream c point types rows).refusal ≡ Some r → 0 < length rows
    → rows_stream c point types (rows ++ own) ≡ rows_stream c point types rows
grows_within c point types rows own r some first =
    let h : Bool = c.has_header in
    let ns : List (List ℕ) = names_by h (first_cells rows) in
    ap (λ (cells : List (List ℕ)). stream_with point (names_by h cells) types false (rows_steps h (names_by h cells) (rows ++ own))) (first_stays rows own first)
    ∙ ap (stream_with point ns types false) (steps_apart h ns rows own)
    ∙ refusal_stays point ns types (rows_steps h ns rows) false (rows_steps h ns own) r some

module _ (c : Command) (point : List ℕ) (types : ℕ) (names : List (List ℕ)) (file : List ℕ → HeldFile) (rose : Type 0) (contents : List (List ℕ))
    (named : length contents < length names) (read : AreReadAs (take (length contents) (helds_of names file)) contents) (whole : AreWhole c contents)
    (base : Texts) (start : ℕ) where
  abbrev held : HeldFile
  held = held_file_at (helds_of names file) (length contents)

  abbrev behind_all : List ℕ → List Placed
  behind_all gone = all_rows c.separator 0 contents ++ text_rows c.separator (length contents) gone

  -- what was reached within this file
  pub reach : (gone : List ℕ) → Begins held gone → EndsRow (config_by c.separator) gone → Reached c (helds_of names file)
  reach gone begins ends = record {
    contents = contents;
    front = gone;
    read = read;
    next = inr (omega (arith, named, helds_length names file));
    begins = begins;
    whole = ends;
  }

  module _ (gone : List ℕ) (begins : Begins held gone) (ends : EndsRow (config_by c.separator) gone) where
    stream_reached : stream_in c point types contents (Some gone) ≡ rows_stream c point types (behind_all gone)
    stream_reached = stream_within c point types contents whole gone

    -- a stop within it
    pub stops : (A : Type 0) (stop : Stop) (new : Texts) (after : ℕ)
        → Writes {A = A} (trace_text (rows_stream c point types (behind_all gone)).written) (rows_stream c point types (behind_all gone)).refusal base new start after (Err stop)
        → StopSays c point types names file rose base new start after stop
    unfolding reach
    stops A stop new after h =
        stop_says c point types names file rose base new start after (reach gone begins ends) A stop (rows_stream c point types (behind_all gone)) []
        (λ r some. stream_reached) (ap (λ (s : Stream). trace_text s.written) stream_reached ∙ sym (append-nil (trace_text (rows_stream c point types (behind_all gone)).written))) h

    pub wants : (new : Texts) (after : ℕ) → new ≡ with_bytes base Report (trace_text (rows_stream c point types (behind_all gone)).written) → after ≡ start
        → StopSays c point types names file rose base new start after NoMemory
    unfolding reach
    wants new after is still =
        none_says c point types names file rose base new start after (reach gone begins ends) (is ∙ ap (λ (s : Stream). with_bytes base Report (trace_text s.written)) (sym stream_reached)) still

  -- ---- the file's end
  module _ (gone text bytes : List ℕ) (own_read : ReadAs held bytes) (whole_is : strip_bom bytes ≡ gone ++ text) (ends : EndsRow (config_by c.separator) gone)
      (count : ℕ) (counted : count ≡ length (text_rows c.separator (length contents) gone)) where
    abbrev all_now : List Placed
    all_now = behind_all gone ++ rows_behind c.separator (length contents) count text

    abbrev own_rows : List Placed
    own_rows = rows_in c.separator (length contents) bytes

    own_is : own_rows ≡ text_rows c.separator (length contents) gone ++ rows_behind c.separator (length contents) count text
    own_is = ap (text_rows c.separator (length contents)) whole_is ∙ text_more c.separator (length contents) count gone text ends counted

    now_rows : all_now ≡ all_rows c.separator 0 contents ++ own_rows
    now_rows =
        append_assoc (all_rows c.separator 0 contents) (text_rows c.separator (length contents) gone) (rows_behind c.separator (length contents) count text)
        ∙ ap (λ (l : List Placed). all_rows c.separator 0 contents ++ l) (sym own_is)

    now_all : all_now ≡ all_rows c.separator 0 (contents ++ bytes ∷ [])
    now_all = now_rows ∙ sym (all_last c.separator contents bytes)

    abbrev names_now : List (List ℕ)
    names_now = names_by c.has_header (first_cells (all_rows c.separator 0 contents ++ own_rows))

    abbrev steps_now : List Step
    steps_now = rows_steps c.has_header names_now (all_rows c.separator 0 contents ++ own_rows)

    abbrev last : List Step
    last = end_steps (length contents) (length own_rows) (are_paired bytes)

    read_all : AreReadAs (take (length (contents ++ bytes ∷ [])) (helds_of names file)) (contents ++ bytes ∷ [])
    read_all =
        let one : suc (length contents) ≡ length (contents ++ bytes ∷ []) = omega (arith, length-append contents (bytes ∷ [])) in
        subst (λ (n : ℕ). AreReadAs (take n (helds_of names file)) (contents ++ bytes ∷ [])) one
        (read_next (helds_of names file) contents (length contents) bytes (omega (arith, named, helds_length names file)) read own_read)

    last_reached : Reached c (helds_of names file)
    last_reached = record {
      contents = contents ++ bytes ∷ [];
      front = [];
      read = read_all;
      next = inl refl;
      begins = begins_none (held_file_at (helds_of names file) (length (contents ++ bytes ∷ [])));
      whole = none_ends (config_by c.separator);
    }

    stream_now : rows_stream c point types all_now ≡ stream_with point names_now types false steps_now
    stream_now = ap (rows_stream c point types) now_rows

    pub stops_last : (A : Type 0) (stop : Stop) (new : Texts) (after : ℕ)
        → Writes {A = A} (trace_text (rows_stream c point types all_now).written) (rows_stream c point types all_now).refusal base new start after (Err stop)
        → StopSays c point types names file rose base new start after stop
    unfolding last_reached
    stops_last A stop new after h =
        let grown = written_grows point names_now types steps_now false last in
        stop_says c point types names file rose base new start after last_reached A stop (rows_stream c point types all_now) grown.0
        (λ r some.
        stream_last c point types contents whole bytes
        ∙ refusal_stays point names_now types steps_now false last r (ap (λ (s : Stream). s.refusal) (sym stream_now) ∙ some) ∙ sym stream_now)
        (ap (λ (s : Stream). trace_text s.written) (stream_last c point types contents whole bytes) ∙ grown.1 ∙ ap (λ (s : Stream). trace_text s.written ++ grown.0) (sym stream_now))
        h

    pub wants_last : (new : Texts) (after : ℕ) → AddsFront base new Report (trace_text (rows_stream c point types all_now).written) → after ≡ start
        → StopSays c point types names file rose base new start after NoMemory
    wants_last new after front still = stops_last (Unit {0}) NoMemory new after (front, still)

    pub refused_last : (refusal : Refusal) (new : Texts) (after : ℕ) → last ≡ Err refusal ∷ [] → (rows_stream c point types all_now).refusal ≡ None
        → new ≡ with_bytes base Report (trace_text (rows_stream c point types all_now).written) → after ≡ start → StopSays c point types names file rose base new start after (Refused refusal)
    unfolding last_reached
    refused_last refusal new after is none written still =
        let same : stream_in c point types (contents ++ bytes ∷ []) (Some []) ≡ record { written = (rows_stream c point types all_now).written; refusal = Some refusal } =
        stream_last c point types contents whole bytes
        ∙ ap (λ (l : List Step). stream_with point names_now types false (steps_now ++ l)) is
        ∙ refused_at_end point names_now types steps_now refusal (ap (λ (s : Stream). s.refusal) (sym stream_now) ∙ none)
        ∙ ap (λ (s : Stream). record { written = s.written; refusal = Some refusal }) (sym stream_now) in
        (last_reached, ap (λ (s : Stream). s.refusal) same, written ∙ ap (λ (s : Stream). with_bytes base Report (trace_text s.written)) (sym same), still)

    pub goes_last : (stage : Stage) (new : Texts) (after place : ℕ) → length contents ≡ place → last ≡ [] → IsAt c point types stage all_now
        → (rows_stream c point types all_now).refusal ≡ None
        → new ≡ with_bytes base Report (trace_text (rows_stream c point types all_now).written) → after ≡ start
        → FileGoes c point types names file rose place contents base new start after (Ok stage)
    goes_last stage new after place many is at none written still = (
      bytes,
      record {
        many = omega (arith, many, length-append contents (bytes ∷ []));
        read = read_all;
        whole = whole_more c point types contents whole bytes is;
        none = ap (λ (l : List Placed). (rows_stream c point types l).refusal) (sym now_all) ∙ none;
        at = subst (IsAt c point types stage) now_all at;
        written = written ∙ ap (λ (l : List Placed). with_bytes base Report (trace_text (rows_stream c point types l).written)) now_all;
        calm = still;
      },
    )
