use Rattle.std.proofs.Common.{◌≡◌, drop, map}
use Rattle.dk_languages.specs.Bases.Roots.{is_one_of}
use Rattle.dk_languages.proofs.variables.roots.is_one_of.Given as goal

abbrev pub invariant-loop-other : goal.invariant-loop-other
invariant-loop-other l = is_one_of (map (λ w. w.now) (drop l.other-index l.words)) l.word ≡ is_one_of (map (λ w. w.now) l.words) l.word
