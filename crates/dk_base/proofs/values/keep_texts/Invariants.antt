use Rattle.std.proofs.Common.{◌≡◌, map, take}
use Rattle.dk_base.proofs.values.keep_texts.Given as goal

abbrev pub invariant-loop-text : goal.invariant-loop-text
invariant-loop-text l = l.kept ≡ map (λ t. t.now) (take l.text-index l.texts)
