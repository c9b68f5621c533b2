-- What engines keep, held against bytes.
use Rattle.std.specs.Prelude.{◌≡◌, ◌<◌, ◌+◌, ◌==◌, ◌++◌, ◌∷◌, [], ℕ, Bool, List, Option, Some, None, flat_map, length, refl, take, if◌then◌else◌}
use Rattle.std.specs.Fmt.{decimal}
use Rattle.std.specs.List.{enumerate_from}
use Rattle.std.specs.Str.{bytes_eq}
use Rattle.std.proofs.Common.{◌∙◌, ap, append_assoc, arith, get_or, sym}
use Rattle.std.proofs.lemmas.Bool.{ne_eqb}
use Rattle.std.proofs.lemmas.List.{flat_map_more}
use Rattle.dk_engine.specs.Reading.Levels.{Whole}
use Rattle.dk_engine.specs.Saved.{parts_of}
use Rattle.dk_engine.specs.declared.kept.Kept.{Kept}
use Rattle.dk_state.specs.Kept.{class_line, known_line, opening_lines, parts_lines, pattern_line, slot_line}
use Rattle.dk_state.specs.Lines.{state_line}
use Rattle.dk_state.specs.Matching.{is_end, left_behind}
use Rattle.dk_state.specs.Saved.{kept_lines}
use Rattle.dk_state.proofs.Engines.{kept_by, kept_more}
use Rattle.dk_state.proofs.Passing.{ends_behind, left_behind_both}

-- one engine more
pub engine_more_passed : (engines : List Whole) (i : ℕ) (engine : Whole) (start left next : Option (List ℕ)) → i < length engines → engine ≡ get_or engines i engine
    → left ≡ left_behind (flat_map kept_lines (enumerate_from 0 (kept_by (take i engines)))) start → next ≡ left_behind (kept_lines (i, engine.kept)) left
    → next ≡ left_behind (flat_map kept_lines (enumerate_from 0 (kept_by (take (i + 1) engines)))) start
engine_more_passed engines i engine start left next l here so_far step =
    step ∙ ap (left_behind (kept_lines (i, engine.kept))) so_far
    ∙ sym (left_behind_both (flat_map kept_lines (enumerate_from 0 (kept_by (take i engines)))) (kept_lines (i, engine.kept)) start)
    ∙ ap (λ t. left_behind t start)
    (flat_map_more kept_lines [] (enumerate_from 0 (kept_by (take i engines))) (i, engine.kept)
    ∙ ap (flat_map kept_lines) (sym (kept_more engines i engine l here)))

-- three pieces, one after another
pub three_passed : (a b c : List ℕ) (left : Option (List ℕ)) → left_behind c (left_behind b (left_behind a left)) ≡ left_behind (a ++ (b ++ c)) left
three_passed a b c left = sym (left_behind_both a (b ++ c) left ∙ left_behind_both b c (left_behind a left))

-- the lines of an engine, of which the first two pieces are passed at once
pub engine_passed : (samples classes patterns known slots end : List ℕ) (left : Option (List ℕ))
    → left_behind end (left_behind slots (left_behind known (left_behind patterns (left_behind (samples ++ classes) left))))
    ≡ left_behind (samples ++ (classes ++ (patterns ++ (known ++ (slots ++ end))))) left
engine_passed samples classes patterns known slots end left =
    three_passed known slots end (left_behind patterns (left_behind (samples ++ classes) left))
    ∙ three_passed (samples ++ classes) patterns (known ++ (slots ++ end)) left
    ∙ ap (λ t. left_behind t left) (append_assoc samples classes (patterns ++ (known ++ (slots ++ end))))

-- an engine that keeps nothing of samples has no lines
pub none_passed : (point : ℕ) (kept : Kept) (start : Option (List ℕ)) → kept.samples ≡ 0 → start ≡ left_behind (kept_lines (point, kept)) start
none_passed point kept start none = nothing start ∙ ap (λ (b : Bool). left_behind (if b then [] else parts_lines point (parts_of kept)) start) (sym (ap (λ n. n == 0) none))
  where
    nothing : (left : Option (List ℕ)) → left ≡ left_behind [] left
    nothing None = refl
    nothing (Some bytes) = refl

-- the pieces in which the lines of an engine that keeps samples are passed
pub kept_passed : (point : ℕ) (kept : Kept) (start opened patterned told slotted next : Option (List ℕ)) → 0 < kept.samples
    → opened ≡ left_behind (opening_lines point (parts_of kept)) start
    → patterned ≡ left_behind (flat_map pattern_line (parts_of kept).patterns) opened
    → told ≡ left_behind (flat_map known_line (parts_of kept).known) patterned
    → slotted ≡ left_behind (flat_map slot_line (parts_of kept).slots) told
    → next ≡ left_behind (state_line "end" []) slotted
    → next ≡ left_behind (kept_lines (point, kept)) start
kept_passed point kept start opened patterned told slotted next some first second third fourth last =
    let parts = parts_of kept in
    let samples = state_line "samples" (decimal point ∷ decimal parts.samples ∷ []) in
    let patterns = flat_map pattern_line parts.patterns in
    let known = flat_map known_line parts.known in
    let slots = flat_map slot_line parts.slots in
    last ∙ ap (left_behind (state_line "end" [])) (fourth ∙ ap (left_behind slots) (third ∙ ap (left_behind known) (second ∙ ap (left_behind patterns) first)))
    ∙ engine_passed samples (flat_map class_line parts.classes) patterns known slots (state_line "end" []) start
    ∙ ap (λ (none : Bool). left_behind (if none then [] else parts_lines point parts) start) (sym (ne_eqb kept.samples 0 (omega arith)))

-- the pieces in which a state's text is passed: the lines in front of the engines are passed at once
pub state_passed : (a b c declared kept end bytes : List ℕ)
    → is_end (left_behind end (left_behind kept (left_behind ((a ++ (b ++ c)) ++ declared) (Some bytes)))) ≡ bytes_eq (a ++ (b ++ (c ++ (declared ++ (kept ++ end))))) bytes
state_passed a b c declared kept end bytes =
    ap is_end (three_passed ((a ++ (b ++ c)) ++ declared) kept end (Some bytes))
    ∙ ends_behind (((a ++ (b ++ c)) ++ declared) ++ (kept ++ end)) bytes
    ∙ ap (λ t. bytes_eq t bytes) (in_front a b c declared (kept ++ end))
  where
    in_front : (a b c declared behind : List ℕ) → ((a ++ (b ++ c)) ++ declared) ++ behind ≡ a ++ (b ++ (c ++ (declared ++ behind)))
    in_front a b c declared behind = simp append_assoc
