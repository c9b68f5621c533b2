use Rattle.std.proofs.Common.{◌≤◌, ◌<◌, ◌∙◌, ap, arith, List, length, map}
use Rattle.std.proofs.lemmas.List.{take_all}
use Rattle.dk_arguments.specs.Commands.{app_with, rule_for}
use Rattle.dk_arguments.specs.Descriptions.{argument_of}
use Rattle.dk_arguments.specs.declared.description.Argument.{Argument}
use Rattle.dk_arguments.proofs.Building.{command_more}
use Rattle.dk_arguments.proofs.clap_command.clap_command.Goals as goal

pub loop-argument-preserved : goal.loop-argument-preserved
loop-argument-preserved c =
    let within : c.loop-argument.argument-index < length c.args.description.now.arguments.now = omega arith in
    command_more c.args.description.now.name.now c.args.description.now.arguments.now c.loop-argument.argument-index _ _ _ _ within
    c.loop-argument.invariant c.clap_argument.ensures.rule c.in_ok-command.ensures

pub returns : goal.returns
returns c =
    let all : length c.args.description.now.arguments.now ≤ c.loop-argument.argument-index = omega arith in
    c.loop-argument.invariant
    ∙ ap (λ (l : List Argument). app_with c.args.description.now.name.now (map rule_for (map argument_of l)))
    (take_all c.loop-argument.argument-index c.args.description.now.arguments.now all)
