-- A text as the only file of a run.
use Rattle.std.proofs.Common.{◌≡◌, ◌<◌, ◌+◌, ◌-◌, ℕ, Bool, false, true, List, [], ◌∷◌, ◌++◌, flat_map, length, map, Result, Ok, Err, refl, sym, ap, ◌∙◌, subst}
use Rattle.dk_base.specs.Reading.{LineFault}
use Rattle.dk_decl.specs.Headers.{awaits_word, is_implicit}
use Rattle.dk_lines.specs.Left.{lined}
use Rattle.dk_points.specs.Table.{Point}
use Rattle.dk_blocks.specs.Blocks.{groups_of}
use Rattle.dk_blocks.specs.History.{History, effect_of, file_ended, no_history}
use Rattle.dk_driver.proofs.Trails.{trail_ends}
use Rattle.dk_driver.specs.Files.{FaultAt}
use Rattle.dk_driver.specs.Trails.{Outset, Trail, line_limit, then_files, trail_of_files}
use Rattle.dk_run.specs.Courses.{course_of, first_start}
use Rattle.dk_turns.specs.Blocks.{Block, sample_blocks}
use Rattle.dk_turns.specs.Turns.{in_rounds, turns_of}
use Rattle.dk_recorders.specs.Laws.{AreAlike, ComesToAlike, OrderOfBlocksDoesNotMatter, OrderOfRecordsDoesNotMatter, TurnsDoNotMatter, history_behind, history_of}
use Rattle.dk_recorders.specs.Recorders.{AreRecorders, text_by_file, text_in_order}
use Rattle.dk_recorders.specs.Interleaving.{IsInterleaved}
use Rattle.dk_recorders.proofs.Telling.{order_of_own_samples}
use Rattle.dk_recorders.proofs.Mixed.{Alike, mixed_blocks}
use Rattle.dk_recorders.proofs.Ordered.{ordered_text, read_text}
use Rattle.dk_recorders.proofs.Rounds.{in_rounds_interleave, one_by_one_interleave}

-- what a run over one file comes to
abbrev of_file : Result History LineFault → Result History FaultAt
of_file (Ok h) = Ok (file_ended h)
of_file (Err fault) = Err (record { file = 0; line = fault.line; why = fault.why })

history_is : (start : Outset) (ignores : Bool) (text : List ℕ)
    → history_behind start ignores text ≡ of_file (read_text ignores line_limit start.room start.history text)
unfolding course_of
history_is start ignores text =
    ap (λ (r : Result History LineFault). (then_files 0 r after).end)
    (trail_ends ignores 0 (effect_of ignores start.history) (groups_of (lined line_limit start.room 0 true text)))
    ∙ by (read_text ignores line_limit start.room start.history text)
  where
    after : History → Trail FaultAt
    after next = trail_of_files ignores (start.room - length text) (file_ended next) (0 + 1) []

    by : (r : Result History LineFault) → (then_files 0 r (λ next. trail_of_files ignores (start.room - length text) (file_ended next) (0 + 1) [])).end ≡ of_file r
    by (Ok h) = refl
    by (Err fault) = refl

-- between two files
ended_alike : (h others : History) → Alike h others → AreAlike (file_ended h) (file_ended others)
unfolding file_ended
ended_alike h others alike = record { table = alike.table; word = ap is_implicit alike.header; grammar = alike.grammar; samples = alike.samples }

ended_table : (j h : History) → file_ended j ≡ h → h.table ≡ j.table
unfolding file_ended
ended_table j h same = ap (λ (g : History). g.table) (sym same)

ended_text : (start : Outset) (ignores : Bool) (text : List ℕ) (h j i : History) → file_ended j ≡ h
    → read_text ignores line_limit start.room start.history text ≡ Ok i → Alike j i → ComesToAlike (history_behind start ignores text) h
ended_text start ignores text h j i same read alike =
    let others : History = file_ended i in
    let alike_now : AreAlike h others = subst (λ (g : History). AreAlike g others) same (ended_alike j i alike) in
    (others, history_is start ignores text ∙ ap of_file read, alike_now, order_of_own_samples h others alike_now)

pub order_of_records : OrderOfRecordsDoesNotMatter
order_of_records start ignores files first second h word one two e are =
    by (read_text ignores line_limit start.room start.history (text_in_order files first)) refl (sym (history_is start ignores (text_in_order files first)) ∙ e)
  where
    by : (r : Result History LineFault) → read_text ignores line_limit start.room start.history (text_in_order files first) ≡ r → of_file r ≡ Ok h
        → ComesToAlike (history_behind start ignores (text_in_order files second)) h
    by (Err fault) is f = absurd (cc f)
    by (Ok j) is f =
        let same : file_ended j ≡ h = cc f in
        let now : AreRecorders j.table files = subst (λ (ps : List Point). AreRecorders ps files) (ended_table j h same) are in
        let ordered = ordered_text ignores line_limit start.room start.history files first second j word one two is now in
        ended_text start ignores (text_in_order files second) h j ordered.0 same ordered.1 ordered.2

-- ---- turns
by_file : (files : List (List ℕ)) → IsInterleaved (flat_map sample_blocks files) (map sample_blocks files)
by_file files = subst (λ (bs : List Block). IsInterleaved bs (map sample_blocks files)) (flattened files) (one_by_one_interleave (map sample_blocks files))
  where
    flattened : (fs : List (List ℕ)) → flat_map (λ (list : List Block). list) (map sample_blocks fs) ≡ flat_map sample_blocks fs
    flattened [] = refl
    flattened (f ∷ fs) = ap (λ (bs : List Block). sample_blocks f ++ bs) (flattened fs)

turns_are : (n : ℕ) (files : List (List ℕ)) → text_in_order files (in_rounds n (map sample_blocks files)) ≡ turns_of n files
unfolding text_in_order turns_of
turns_are n files = refl

pub turns_behind : TurnsDoNotMatter
turns_behind start ignores n files h word some e are =
    subst (λ (text : List ℕ). ComesToAlike (history_behind start ignores text) h) (turns_are n files)
    (order_of_records start ignores files (flat_map sample_blocks files) (in_rounds n (map sample_blocks files)) h word (by_file files)
    (in_rounds_interleave n (map sample_blocks files) some) e are)

no_word_at_first : awaits_word first_start.history.header ≡ false
unfolding no_history
no_word_at_first = refl

-- from no samples on, where exits without an entry are refused
pub turns_do_not_matter : (n : ℕ) (files : List (List ℕ)) (h : History) → 0 < n → history_of (text_by_file files) ≡ Ok h → AreRecorders h.table files
    → ComesToAlike (history_of (turns_of n files)) h
turns_do_not_matter n files h some e are = turns_behind first_start false n files h no_word_at_first some e are

-- ---- blocks
blocks_alike : (h other : History) → Alike h other → AreAlike h other
blocks_alike h other alike = record { table = alike.table; word = ap is_implicit alike.header; grammar = alike.grammar; samples = alike.samples }

pub order_of_blocks : OrderOfBlocksDoesNotMatter
order_of_blocks ignores before after recorders first second one two are e =
    let here = mixed_blocks ignores before after recorders first second one two are e in
    let alike : AreAlike after here.0 = blocks_alike after here.0 here.2 in
    (here.0, here.1, alike, order_of_own_samples after here.0 alike)
