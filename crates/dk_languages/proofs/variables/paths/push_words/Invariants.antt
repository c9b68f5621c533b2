use Rattle.std.proofs.Common.{◌≡◌, ◌++◌, map, take}
use Rattle.std.specs.Prelude.{if◌then◌else◌}
use Rattle.dk_languages.specs.Bases.Paths.{is_word_byte}
use Rattle.dk_languages.proofs.variables.paths.push_words.Given as goal

abbrev pub invariant-loop-byte : goal.invariant-loop-byte
invariant-loop-byte l = l.text ≡ l.fn.text ++ map (λ b. if is_word_byte b then b else l.other) (take l.byte-index l.bytes)
