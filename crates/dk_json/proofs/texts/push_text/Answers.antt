use Rattle.std.proofs.Common.{◌≡◌, ◌∙◌, ℕ, List, ap, map, sym}
use Rattle.std.proofs.lemmas.Bool.{false_from_ne_true}
use Rattle.std.proofs.lemmas.Result.{on_ok_weaker}
use Rattle.std.proofs.lemmas.Str.{IsUtf8-from_is_utf8, is_utf8-from_IsUtf8}
use Rattle.std.specs.Prelude.{if◌then◌else◌}
use Rattle.std.specs.Str.{IsUtf8, is_utf8}
use Rattle.json.specs.Json.{array, string}
use Rattle.json.specs.Tree.{json_tokens}
use Rattle.dk_json.specs.Texts.{natural_json, text_json}
use Rattle.dk_json.specs.Trees.{items_of}
use Rattle.dk_json.proofs.Adding.{the_same, wrote}
use Rattle.dk_json.proofs.texts.push_text.Goals as goal

text_is_string : (bytes : List ℕ) → IsUtf8 bytes → string bytes ≡ text_json bytes
text_is_string bytes is = sym (ap (λ b. if b then string bytes else array (items_of (map natural_json bytes))) (is_utf8-from_IsUtf8 bytes is))

text_is_array : (bytes : List ℕ) → (IsUtf8 bytes → ⊥) → array (items_of (map natural_json bytes)) ≡ text_json bytes
text_is_array bytes isnt =
    sym (ap (λ b. if b then string bytes else array (items_of (map natural_json bytes)))
    (false_from_ne_true (is_utf8 bytes) (λ is. isnt (IsUtf8-from_is_utf8 bytes is))))

pub returns-in_ok-string-in-Ok : goal.returns-in_ok-string-in-Ok
returns-in_ok-string-in-Ok c =
    the_same (ap (λ (s : List ℕ). json_tokens (string s)) c.in-Ok.ensures.cases.0 ∙ ap json_tokens (text_is_string c.args.bytes.now c.in-Ok.ensures.cases.1))
    (wrote c.in_ok-string-in-Ok.ensures)

pub returns-in-Err : goal.returns-in-Err
returns-in-Err c =
    on_ok_weaker c.push_items.result (the_same (ap json_tokens (text_is_array c.args.bytes.now c.in-Err.ensures.cases.0))) c.push_items.ensures
