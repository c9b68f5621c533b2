-- What was reached of the files, and what follows it.
use Rattle.std.proofs.Common.{◌≡◌, ◌<◌, ◌⊎◌, ◌+◌, ◌∙◌, ◌∷◌, ◌++◌, [], inl, inr, ℕ, Bool, true, false, List, Option, Some, None, append_assoc, append-nil, length, take, refl, sym, ap, arith}
use Rattle.std.proofs.lemmas.List.{take_all}
use Rattle.csv.specs.Reading.{strip_bom}
use Rattle.dk_driver.specs.Reads.{held_file_at}
use Rattle.dk_io.specs.Outside.{HeldFile, Untold, Absent, Holds}
use Rattle.dk_write.specs.Texts.{trace_text}
use Rattle.dk_table.specs.Tables.Chunks.{EndsRow}
use Rattle.dk_table.specs.Tables.Contents.{AreReadAs, Begins, ReadAs, Reached}
use Rattle.dk_table.specs.Tables.PlacedRows.{Placed}
use Rattle.dk_table.specs.Streams.Stages.{rows_behind}
use Rattle.dk_table.specs.Streams.{Step, Stream, all_steps, end_steps, file_steps, first_cells, first_refusal, names_in, nothing, rows_steps, stream_at, stream_in, stream_with, text_rows}
use Rattle.dk_table.specs.Tables.{are_paired, config_by, names_by, rows_in}
use Rattle.dk_table.specs.declared.words.command.Command.{Command}
use Rattle.dk_table.specs.declared.faults.Refusal.{Refusal}
use Rattle.dk_table.proofs.Grown.{refusal_stays, written_grows}
use Rattle.dk_table.proofs.Progressed.{marked, none_rows, text_more}
use Rattle.dk_table.proofs.Streamed.{first_stays, steps_apart, written_nothing}

-- ---- the files behind
-- These are the same files, or files more behind them, the first of which begins so.
pub data Extends (contents : List (List ℕ)) (front : List ℕ) (all : List (List ℕ)) : Type 0 where
  Same : front ≡ [] → all ≡ contents → Extends contents front all
  More : (bytes : List ℕ) (more : List (List ℕ)) (rest : List ℕ) → strip_bom bytes ≡ front ++ rest → all ≡ contents ++ bytes ∷ more → Extends contents front all

-- Files that could be read behind those that were: to the last, or up to one that is absent.
pub data Completed (helds : List HeldFile) (contents : List (List ℕ)) (front : List ℕ) : Type 0 where
  Whole : (all : List (List ℕ)) → AreReadAs helds all → Extends contents front all → Completed helds contents front
  UpTo : (all : List (List ℕ)) → AreReadAs (take (length all) helds) all → length all < length helds → held_file_at helds (length all) ≡ Absent → Extends contents front all
      → Completed helds contents front

-- one that could be read as a file that begins so
record Filled (held : HeldFile) (front : List ℕ) : Type 0 where
  bytes : List ℕ
  read : ReadAs held bytes
  rest : List ℕ
  begins : strip_bom bytes ≡ front ++ rest

untold_filled : (front : List ℕ) → Filled Untold front
untold_filled front = record { bytes = 0xEF ∷ 0xBB ∷ 0xBF ∷ front; read = tt; rest = []; begins = marked front ∙ sym (append-nil front) }

holds_filled : (bytes front : List ℕ) → Begins (Holds bytes) front → Filled (Holds bytes) front
holds_filled bytes front (rest, is) = record { bytes = bytes; read = refl; rest = rest; begins = is }

-- one file more in front
behind : (held : HeldFile) (bytes : List ℕ) (helds : List HeldFile) (contents : List (List ℕ)) (front : List ℕ) → ReadAs held bytes → Completed helds contents front
    → Completed (held ∷ helds) (bytes ∷ contents) front
behind held bytes helds contents front own (Whole all read e) = Whole (bytes ∷ all) (own, read) (one_more e)
  where
    one_more : Extends contents front all → Extends (bytes ∷ contents) front (bytes ∷ all)
    one_more (Same none is) = Same none (ap (λ (l : List (List ℕ)). bytes ∷ l) is)
    one_more (More b more rest begins is) = More b more rest begins (ap (λ (l : List (List ℕ)). bytes ∷ l) is)
behind held bytes helds contents front own (UpTo all read within absent e) = UpTo (bytes ∷ all) (own, read) (omega (arith, within)) absent (one_more e)
  where
    one_more : Extends contents front all → Extends (bytes ∷ contents) front (bytes ∷ all)
    one_more (Same none is) = Same none (ap (λ (l : List (List ℕ)). bytes ∷ l) is)
    one_more (More b more rest begins is) = More b more rest begins (ap (λ (l : List (List ℕ)). bytes ∷ l) is)

-- this file, which begins so, and others behind it
begun : (held : HeldFile) (helds : List HeldFile) (front : List ℕ) → Filled held front → Completed helds [] [] → Completed (held ∷ helds) [] front
begun held helds front f (Whole all read e) = Whole (f.bytes ∷ all) (f.read, read) (More f.bytes all f.rest f.begins refl)
begun held helds front f (UpTo all read within absent e) = UpTo (f.bytes ∷ all) (f.read, read) (omega (arith, within)) absent (More f.bytes all f.rest f.begins refl)

any_behind : (helds : List HeldFile) → Completed helds [] []
any_behind [] = Whole [] tt (Same refl refl)
any_behind (Untold ∷ helds) = begun Untold helds [] (untold_filled []) (any_behind helds)
any_behind (Absent ∷ helds) = UpTo [] tt (omega arith) refl (Same refl refl)
any_behind (Holds bytes ∷ helds) = begun (Holds bytes) helds [] (holds_filled bytes [] (strip_bom bytes, refl)) (any_behind helds)

completed : (helds : List HeldFile) (contents : List (List ℕ)) (front : List ℕ) → AreReadAs (take (length contents) helds) contents
    → (front ≡ []) ⊎ (length contents < length helds) → Begins (held_file_at helds (length contents)) front → Completed helds contents front
completed [] [] front read (inl none) begins = Whole [] tt (Same none refl)
completed [] [] front read (inr within) begins = absurd (omega (arith, within))
completed (Untold ∷ helds) [] front read next begins = begun Untold helds front (untold_filled front) (any_behind helds)
completed (Absent ∷ helds) [] front read next begins = UpTo [] tt (omega arith) refl (Same begins refl)
completed (Holds bytes ∷ helds) [] front read next begins = begun (Holds bytes) helds front (holds_filled bytes front begins) (any_behind helds)
completed [] (bytes ∷ contents) front read next begins = absurd read
completed (held ∷ helds) (bytes ∷ contents) front read next begins = behind held bytes helds contents front read.0 (completed helds contents front read.1 (fewer next) begins)
  where
    fewer : (front ≡ []) ⊎ (length (bytes ∷ contents) < length (held ∷ helds)) → (front ≡ []) ⊎ (length contents < length helds)
    fewer (inl none) = inl none
    fewer (inr within) = inr (omega (arith, within))

pub reached_completed : (c : Command) (helds : List HeldFile) (reached : Reached c helds) → Completed helds reached.contents reached.front
reached_completed c helds reached = completed helds reached.contents reached.front reached.read reached.next reached.begins

-- ---- their rows
abbrev reached_steps : Command → List (List ℕ) → ℕ → List (List ℕ) → List ℕ → List Step
reached_steps c names n contents front = all_steps c names n contents ++ rows_steps c.has_header names (text_rows c.separator (n + length contents) front)

steps_behind : (c : Command) (names : List (List ℕ)) (n : ℕ) (contents : List (List ℕ)) (front bytes : List ℕ) (more : List (List ℕ)) (rest : List ℕ)
    → EndsRow (config_by c.separator) front → strip_bom bytes ≡ front ++ rest
    → (steps : List Step) × (all_steps c names n (contents ++ bytes ∷ more) ≡ reached_steps c names n contents front ++ steps)
steps_behind c names n [] front bytes more rest ends begins =
    let h : Bool = c.has_header in
    let same : n ≡ n + 0 = omega arith in
    let own : List Placed = text_rows c.separator n front in
    let others : List Placed = rows_behind c.separator n (length own) rest in
    let rows : rows_in c.separator n bytes ≡ own ++ others =
    ap (text_rows c.separator n) begins ∙ text_more c.separator n (length own) front rest ends refl in
    let last : List Step = end_steps n (length (rows_in c.separator n bytes)) (are_paired bytes) in
    let next : List Step = all_steps c names (n + 1) more in
    let a : List Step = rows_steps h names own in
    let b : List Step = rows_steps h names others in (
      b ++ (last ++ next),
      append_assoc (rows_steps h names (rows_in c.separator n bytes)) last next
          ∙ ap (λ (l : List Step). l ++ (last ++ next)) (ap (rows_steps h names) rows ∙ steps_apart h names own others)
          ∙ append_assoc a b (last ++ next)
          ∙ ap (λ (k : ℕ). rows_steps h names (text_rows c.separator k front) ++ (b ++ (last ++ next))) same,
    )
steps_behind c names n (first ∷ contents) front bytes more rest ends begins =
    let (steps, is) = steps_behind c names (n + 1) contents front bytes more rest ends begins in
    let same : n + 1 + length contents ≡ n + length (first ∷ contents) = omega arith in
    let own : List Step = file_steps c names n first in
    let others : List Step = all_steps c names (n + 1) contents in
    let h : Bool = c.has_header in (
      steps,
      ap (λ (l : List Step). own ++ l) is
          ∙ sym (append_assoc own (reached_steps c names (n + 1) contents front) steps)
          ∙ ap (λ (l : List Step). l ++ steps) (sym (append_assoc own others (rows_steps h names (text_rows c.separator (n + 1 + length contents) front)))
          ∙ ap (λ (k : ℕ). (own ++ others) ++ rows_steps h names (text_rows c.separator k front)) same),
    )

-- ---- streams of what goes on
-- What is refused stays so, and what is written stays in front.
pub record GoesOn (early late : Stream) : Type 0 where
  pub refused : (refusal : Refusal) → early.refusal ≡ Some refusal → late ≡ early
  pub rest : List ℕ
  pub written : trace_text late.written ≡ trace_text early.written ++ rest

nothing_goes : (early late : Stream) → early ≡ nothing → GoesOn early late
nothing_goes early late none = record {
  refused = λ refusal some. let absent : nothing.refusal ≡ Some refusal = ap (λ (s : Stream). s.refusal) (sym none) ∙ some in absurd (cc absent);
  rest = trace_text late.written;
  written = ap (λ (s : Stream). trace_text s.written ++ trace_text late.written) (sym none);
}

steps_go : (point : List ℕ) (names : List (List ℕ)) (types : ℕ) (front more : List Step) (ended : Bool) (early late : Stream)
    → early ≡ stream_with point names types false front → late ≡ stream_with point names types ended (front ++ more) → GoesOn early late
steps_go point names types front more ended early late first last =
    let grown = written_grows point names types front ended more in
    record {
      refused = λ refusal some. last ∙ refusal_stays point names types front ended more refusal (ap (λ (s : Stream). s.refusal) (sym first) ∙ some) ∙ sym first;
      rest = grown.0;
      written = ap (λ (s : Stream). trace_text s.written) last ∙ grown.1 ∙ ap (λ (s : Stream). trace_text s.written ++ grown.0) (sym first);
    }

-- ---- of files
module _ (c : Command) (point : List ℕ) (types : ℕ) (some : 0 < types) where
  -- the streams of these steps
  early_by : (names : List (List ℕ)) (contents : List (List ℕ)) (front : List ℕ)
      → stream_with point names types false (all_steps c names 0 contents ++ rows_steps c.has_header names (text_rows c.separator (length contents) front))
      ≡ stream_with point names types false (reached_steps c names 0 contents front)
  early_by names contents front =
      let same : length contents ≡ 0 + length contents = omega arith in
      ap (λ (k : ℕ). stream_with point names types false (all_steps c names 0 contents ++ rows_steps c.has_header names (text_rows c.separator k front))) same

  early_none : (names : List (List ℕ)) (front : List ℕ) → text_rows c.separator 0 front ≡ []
      → stream_with point names types false (rows_steps c.has_header names (text_rows c.separator 0 front)) ≡ nothing
  early_none names front none =
      let bare : first_refusal (take types []) ≡ None = ap first_refusal (take_all types [] (omega arith)) in
      ap (λ (l : List Placed). stream_with point names types false (rows_steps c.has_header names l)) none ∙ written_nothing point names types [] bare some

  -- files that are read, and none or nothing of the next
  module _ (next : Option (List ℕ)) (ended : Bool) where
    abbrev late_by : List (List ℕ) → List (List ℕ) → Stream
    late_by names all = stream_with point names types ended (all_steps c names 0 all)

    more_goes : (late : Stream) (contents : List (List ℕ)) (front bytes : List ℕ) (more : List (List ℕ)) (rest : List ℕ)
        → EndsRow (config_by c.separator) front → strip_bom bytes ≡ front ++ rest
        → late ≡ late_by (names_in c (contents ++ bytes ∷ more) next) (contents ++ bytes ∷ more)
        → GoesOn (stream_in c point types contents (Some front)) late
    more_goes late (first ∷ contents) front bytes more rest ends begins is =
        let names : List (List ℕ) = names_in c (first ∷ contents) (Some front) in
        let (steps, apart) = steps_behind c names 0 (first ∷ contents) front bytes more rest ends begins in
        steps_go point names types (reached_steps c names 0 (first ∷ contents) front) steps ended (stream_in c point types (first ∷ contents) (Some front)) late
        (early_by names (first ∷ contents) front) (is ∙ ap (stream_with point names types ended) apart)
    more_goes late [] front bytes more rest ends begins is = go (text_rows c.separator 0 front) refl
      where
        go : (rows : List Placed) → text_rows c.separator 0 front ≡ rows → GoesOn (stream_in c point types [] (Some front)) late
        go [] none = nothing_goes (stream_in c point types [] (Some front)) late (early_none (names_in c [] (Some front)) front none)
        go (row ∷ rows) are =
            let names : List (List ℕ) = names_in c [] (Some front) in
            let own : List Placed = text_rows c.separator 0 front in
            let others : List Placed = rows_behind c.separator 0 (length own) rest in
            let many : 0 < length own = omega (arith, ap length are) in
            let all : rows_in c.separator 0 bytes ≡ own ++ others = ap (text_rows c.separator 0) begins ∙ text_more c.separator 0 (length own) front rest ends refl in
            let named : names_in c (bytes ∷ more) next ≡ names =
            ap (λ (l : List Placed). names_by c.has_header (first_cells l)) all ∙ ap (names_by c.has_header) (first_stays own others many) in
            let (steps, apart) = steps_behind c names 0 [] front bytes more rest ends begins in
            steps_go point names types (reached_steps c names 0 [] front) steps ended (stream_in c point types [] (Some front)) late
            (early_by names [] front) (is ∙ ap (λ (ns : List (List ℕ)). late_by ns (bytes ∷ more)) named ∙ ap (stream_with point names types ended) apart)

    -- the same files
    same_goes : (late : Stream) (contents : List (List ℕ)) (front : List ℕ) → front ≡ [] → 0 < length contents
        → late ≡ late_by (names_in c contents next) contents → GoesOn (stream_in c point types contents (Some front)) late
    same_goes late [] front none many is = absurd (omega (arith, many))
    same_goes late (first ∷ contents) front none many is =
        let all : List (List ℕ) = first ∷ contents in
        let names : List (List ℕ) = names_in c all next in
        let steps : List Step = all_steps c names 0 all in
        steps_go point names types steps [] ended (stream_in c point types all (Some front)) late
        (ap (λ (l : List ℕ). stream_with point names types false (steps ++ rows_steps c.has_header names (text_rows c.separator (length all) l))) none
        ∙ ap (λ (l : List Placed). stream_with point names types false (steps ++ rows_steps c.has_header names l)) (none_rows c.separator (length all))
        ∙ ap (stream_with point names types false) (append-nil steps))
        (is ∙ ap (stream_with point names types ended) (sym (append-nil steps)))

  none_goes : (late : Stream) (front : List ℕ) → front ≡ [] → GoesOn (stream_in c point types [] (Some front)) late
  none_goes late front none =
      nothing_goes (stream_in c point types [] (Some front)) late
      (early_none (names_in c [] (Some front)) front (ap (text_rows c.separator 0) none ∙ none_rows c.separator 0))

  -- all files
  at_by : (all : List (List ℕ)) → 0 < length all → stream_at c point types all ≡ late_by None true (names_in c all None) all
  at_by [] many = absurd (omega (arith, many))
  at_by (first ∷ more) many = ap (stream_with point (names_in c (first ∷ more) None) types true) (append-nil (all_steps c (names_in c (first ∷ more) None) 0 (first ∷ more)))

  some_last : (contents : List (List ℕ)) (bytes : List ℕ) (more : List (List ℕ)) → 0 < length (contents ++ bytes ∷ more)
  some_last [] bytes more = omega arith
  some_last (first ∷ contents) bytes more = omega arith

  pub whole_goes : (contents : List (List ℕ)) (front : List ℕ) (all : List (List ℕ)) → EndsRow (config_by c.separator) front → Extends contents front all
      → GoesOn (stream_in c point types contents (Some front)) (stream_at c point types all)
  whole_goes contents front all ends (More bytes more rest begins is) =
      more_goes None true (stream_at c point types all) contents front bytes more rest ends begins
      (ap (stream_at c point types) is ∙ at_by (contents ++ bytes ∷ more) (some_last contents bytes more))
  whole_goes [] front all ends (Same none is) = none_goes (stream_at c point types all) front none
  whole_goes (first ∷ contents) front all ends (Same none is) =
      let many : 0 < length (first ∷ contents) = omega arith in
      same_goes None true (stream_at c point types all) (first ∷ contents) front none many (ap (stream_at c point types) is ∙ at_by (first ∷ contents) many)

  -- files in front of one that can't be started
  up_to_by : (all : List (List ℕ)) → stream_in c point types all (Some []) ≡ late_by (Some []) false (names_in c all (Some [])) all
  up_to_by all =
      let names : List (List ℕ) = names_in c all (Some []) in
      ap (λ (l : List Placed). stream_with point names types false (all_steps c names 0 all ++ rows_steps c.has_header names l)) (none_rows c.separator (length all))
      ∙ ap (stream_with point names types false) (append-nil (all_steps c names 0 all))

  pub up_to_goes : (contents : List (List ℕ)) (front : List ℕ) (all : List (List ℕ)) → EndsRow (config_by c.separator) front → Extends contents front all
      → GoesOn (stream_in c point types contents (Some front)) (stream_in c point types all (Some []))
  up_to_goes contents front all ends (More bytes more rest begins is) =
      more_goes (Some []) false (stream_in c point types all (Some [])) contents front bytes more rest ends begins
      (ap (λ (l : List (List ℕ)). stream_in c point types l (Some [])) is ∙ up_to_by (contents ++ bytes ∷ more))
  up_to_goes [] front all ends (Same none is) = none_goes (stream_in c point types all (Some [])) front none
  up_to_goes (first ∷ contents) front all ends (Same none is) =
      let many : 0 < length (first ∷ contents) = omega arith in
      same_goes (Some []) false (stream_in c point types all (Some [])) (first ∷ contents) front none many
      (ap (λ (l : List (List ℕ)). stream_in c point types l (Some [])) is ∙ up_to_by (first ∷ contents))
