use Rattle.std.proofs.Common.{◌≡◌, map, take, false}
use Rattle.dk_arguments.specs.Requests.{is_one_of}
use Rattle.dk_arguments.proofs.among.is_one_of.Given as goal

abbrev pub invariant-loop-word : goal.invariant-loop-word
invariant-loop-word l = is_one_of (map (λ word. word.now) (take l.word-index l.words)) l.text ≡ false
