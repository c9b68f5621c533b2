use Rattle.std.proofs.Common.{◌≡◌, map, take}
use Rattle.clap.specs.Words.{app_of}
use Rattle.dk_arguments.specs.Commands.{app_with, rule_for}
use Rattle.dk_arguments.specs.Descriptions.{argument_of}
use Rattle.dk_arguments.proofs.clap_command.clap_command.Given as goal

abbrev pub invariant-loop-argument : goal.invariant-loop-argument
invariant-loop-argument l =
    app_of l.command ≡ app_with l.description.name.now (map rule_for (map argument_of (take l.argument-index l.description.arguments.now)))
