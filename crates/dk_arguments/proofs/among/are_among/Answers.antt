use Rattle.std.proofs.Common.{◌<◌, ◌∙◌, ap, arith, sym, [], length, map}
use Rattle.std.proofs.lemmas.List.{get_or-map, length-map}
use Rattle.std.proofs.lemmas.List.Folds.{list_all_at}
use Rattle.dk_arguments.specs.Descriptions.{Argument, argument_of, flag}
use Rattle.dk_arguments.specs.Requests.{is_among}
use Rattle.dk_arguments.proofs.among.are_among.Goals as goal

pub returns-then-not-is_among : goal.returns-then-not-is_among
returns-then-not-is_among c =
    let i = c.loop-argument.argument-index in
    let none : Argument = record { name = []; form = flag } in
    let within : c.loop-argument.argument-index < length c.args.description.now.arguments.now = omega arith in
    sym (list_all_at (is_among c.args.matches.now) (map argument_of c.args.description.now.arguments.now) i none
    (omega (arith, within, length-map c.args.description.now.arguments.now argument_of))
    (ap (is_among c.args.matches.now) (get_or-map argument_of c.args.description.now.arguments.now i _ none within)
    ∙ (sym c.is_among.ensures ∙ c.if-not-is_among.true)))
