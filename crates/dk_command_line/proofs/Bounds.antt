-- The numbers of a run are within their bounds.
use Rattle.std.proofs.Common.{◌≡◌, Some, IfSome, codes, refl, subst, arith}
use Rattle.clap.specs.Words.{Text}
use Rattle.dk_arguments.specs.Commands.{rows_of}
use Rattle.dk_arguments.specs.Descriptions.{largest_count}
use Rattle.dk_arguments.specs.Laws.{IsWithin, Takes, Wanted}
use Rattle.dk_arguments.proofs.Bounds.{or_default, takes_from, within_bounds as numbers_are_within}
use Rattle.dk_arguments.proofs.Meaning.{runs_are_meant}
use Rattle.dk_command_line.specs.Laws.{NumbersAreWithinBounds}
use Rattle.dk_command_line.specs.Requests.{command_of, daikon, request_of}
use Rattle.dk_command_line.specs.declared.command.Command.{Command}

abbrev up_to_most : Text → Wanted
up_to_most name = record { name = name; low = 1; high = largest_count }

takes_least : Takes (up_to_most (codes "min-samples")) daikon
takes_least = takes_from daikon (up_to_most (codes "min-samples")) refl refl refl

takes_every : Takes (up_to_most (codes "every")) daikon
takes_every = takes_from daikon (up_to_most (codes "every")) refl refl refl

pub within_bounds : NumbersAreWithinBounds
unfolding request_of
within_bounds words command e =
    let is = runs_are_meant daikon (λ rows. Some (command_of rows)) words command e in
    let same : command_of (rows_of daikon words) ≡ command = cc (is.is) in
    subst (λ (c : Command). IsWithin 1 largest_count c.least × IfSome c.every (IsWithin 1 largest_count)) same (
      or_default 1 largest_count 5 _ (omega arith, omega arith) (numbers_are_within daikon (up_to_most (codes "min-samples")) words takes_least is.none),
      numbers_are_within daikon (up_to_most (codes "every")) words takes_every is.none,
    )
