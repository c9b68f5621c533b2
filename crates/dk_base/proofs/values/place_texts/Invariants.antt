use Rattle.std.proofs.Common.{◌≡◌, map, take}
use Rattle.dk_base.proofs.values.place_texts.Given as goal

abbrev pub invariant-loop-text : goal.invariant-loop-text
invariant-loop-text l = map (λ t. t.now) l.placed.items ≡ take l.text-index l.texts
