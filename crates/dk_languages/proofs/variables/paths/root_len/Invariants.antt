use Rattle.std.proofs.Common.{◌≡◌, ◌+◌, drop}
use Rattle.std.specs.List.{prefix_len}
use Rattle.dk_languages.specs.Bases.Paths.{is_word_byte}
use Rattle.dk_languages.proofs.variables.paths.root_len.Given as goal

abbrev pub invariant-loop-place : goal.invariant-loop-place
invariant-loop-place l = l.place + prefix_len is_word_byte (drop l.place l.path) ≡ prefix_len is_word_byte l.path
