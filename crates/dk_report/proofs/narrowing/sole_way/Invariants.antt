use Rattle.std.specs.Prelude.{◌≡◌, filter, take}
use Rattle.std.specs.Option.{option_map, option_to_list}
use Rattle.dk_report.specs.Narrowing.{brings_samples}
use Rattle.dk_report.proofs.narrowing.sole_way.Given as goal

abbrev pub invariant-loop-way : goal.invariant-loop-way
invariant-loop-way l = option_to_list (option_map (λ way. way.now) l.sole) ≡ filter (brings_samples l.engines) (take l.way-index l.ways)
