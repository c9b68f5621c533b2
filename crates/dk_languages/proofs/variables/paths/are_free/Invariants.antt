use Rattle.std.proofs.Common.{◌≡◌, drop, map, not}
use Rattle.std.specs.List.{list_all}
use Rattle.dk_languages.specs.Bases.Roots.{is_keyword}
use Rattle.dk_languages.proofs.variables.paths.are_free.Given as goal

abbrev pub invariant-loop-word : goal.invariant-loop-word
invariant-loop-word l =
    list_all (λ w. not (is_keyword l.language w)) (map (λ w. w.now) (drop l.word-index l.words))
    ≡ list_all (λ w. not (is_keyword l.language w)) (map (λ w. w.now) l.words)
