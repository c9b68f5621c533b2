use Rattle.std.proofs.Common.{◌≡◌, ◌∙◌, ◌++◌, ℕ, Bool, List, ap, chars, flat_map, sym}
use Rattle.std.proofs.lemmas.Bool.{false_from_ne_true}
use Rattle.std.proofs.lemmas.Result.{on_ok_weaker}
use Rattle.std.proofs.lemmas.Str.{IsUtf8-from_is_utf8, is_utf8-from_IsUtf8}
use Rattle.std.specs.Prelude.{if◌then◌else◌}
use Rattle.std.specs.Str.{IsUtf8, is_utf8}
use Rattle.dk_page.specs.Showing.{shown, shown_byte, shown_char}
use Rattle.dk_page.proofs.showing.push_shown.Goals as goal

-- a text, and what isn't one
by_chars : (stop bytes : List ℕ) → IsUtf8 bytes → flat_map (shown_char stop) (chars bytes) ≡ shown stop bytes
by_chars stop bytes is =
    sym (ap (λ (b : Bool). if b then flat_map (shown_char stop) (chars bytes) else flat_map (shown_byte stop) bytes) (is_utf8-from_IsUtf8 bytes is))

by_bytes : (stop bytes : List ℕ) → (IsUtf8 bytes → ⊥) → flat_map (shown_byte stop) bytes ≡ shown stop bytes
by_bytes stop bytes isnt =
    sym (ap (λ (b : Bool). if b then flat_map (shown_char stop) (chars bytes) else flat_map (shown_byte stop) bytes)
    (false_from_ne_true (is_utf8 bytes) (λ is. isnt (IsUtf8-from_is_utf8 bytes is))))

pub returns-in-Ok : goal.returns-in-Ok
returns-in-Ok c =
    on_ok_weaker c.push_chars.result
    (λ pushed. pushed ∙ ap (λ (t : List ℕ). c.args.text.now ++ flat_map (shown_char c.args.stop.now) (chars t)) c.in-Ok.ensures.cases.0
    ∙ ap (λ (t : List ℕ). c.args.text.now ++ t) (by_chars c.args.stop.now c.args.said.now c.in-Ok.ensures.cases.1)) c.push_chars.ensures

pub returns-in-Err : goal.returns-in-Err
returns-in-Err c =
    on_ok_weaker c.push_bytes.result
    (λ pushed. pushed ∙ ap (λ (t : List ℕ). c.args.text.now ++ t) (by_bytes c.args.stop.now c.args.said.now c.in-Err.ensures.cases.0)) c.push_bytes.ensures
