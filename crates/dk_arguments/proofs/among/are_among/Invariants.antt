use Rattle.std.proofs.Common.{◌≡◌, map, take, true}
use Rattle.std.specs.List.{list_all}
use Rattle.dk_arguments.specs.Descriptions.{argument_of}
use Rattle.dk_arguments.specs.Requests.{is_among}
use Rattle.dk_arguments.proofs.among.are_among.Given as goal

abbrev pub invariant-loop-argument : goal.invariant-loop-argument
invariant-loop-argument l = list_all (is_among l.matches) (map argument_of (take l.argument-index l.description.arguments.now)) ≡ true
