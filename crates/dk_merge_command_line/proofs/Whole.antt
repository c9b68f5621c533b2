-- A run's numbers are within their bounds, and it has a file.
use Rattle.std.proofs.Common.{◌≡◌, ◌<◌, List, Some, IfSome, arith, codes, length, refl, subst, true}
use Rattle.clap.specs.Words.{Text}
use Rattle.dk_arguments.specs.Commands.{rows_of}
use Rattle.dk_arguments.specs.Descriptions.{largest_count, positionals}
use Rattle.dk_arguments.specs.Laws.{IsMeant, IsWithin, Takes, Wanted}
use Rattle.dk_arguments.specs.declared.request.Request.TheVariants.{Run}
use Rattle.dk_arguments.proofs.Bounds.{or_default, takes_from, within_bounds}
use Rattle.dk_arguments.proofs.Meaning.{runs_are_meant}
use Rattle.dk_arguments.proofs.Required.{required_are_given}
use Rattle.dk_merge_command_line.specs.Laws.{NumbersAreWithinBounds, SomeFileIsNamed}
use Rattle.dk_merge_command_line.specs.Requests.{command_of, dk_merge, request_of}
use Rattle.dk_merge_command_line.specs.declared.command.Command.{Command}

meant : (words : List Text) (command : Command) → request_of words ≡ Some (Run command) → IsMeant dk_merge (λ rows. Some (command_of rows)) words command
unfolding request_of
meant words command e = runs_are_meant dk_merge (λ rows. Some (command_of rows)) words command e

same : (words : List Text) (command : Command) → IsMeant dk_merge (λ rows. Some (command_of rows)) words command → command_of (rows_of dk_merge words) ≡ command
same words command is = cc (is.is)

abbrev up_to_most : Text → Wanted
up_to_most name = record { name = name; low = 1; high = largest_count }

takes_least : Takes (up_to_most (codes "min-samples")) dk_merge
takes_least = takes_from dk_merge (up_to_most (codes "min-samples")) refl refl refl

takes_turns : Takes (up_to_most (codes "turns")) dk_merge
takes_turns = takes_from dk_merge (up_to_most (codes "turns")) refl refl refl

pub numbers_within : NumbersAreWithinBounds
numbers_within words command e =
    let is = meant words command e in
    subst (λ (c : Command). IsWithin 1 largest_count c.least × IfSome c.turns (IsWithin 1 largest_count)) (same words command is) (
      or_default 1 largest_count 5 _ (omega arith, omega arith) (within_bounds dk_merge (up_to_most (codes "min-samples")) words takes_least is.none),
      within_bounds dk_merge (up_to_most (codes "turns")) words takes_turns is.none,
    )

pub file_named : SomeFileIsNamed
file_named words command e =
    let is = meant words command e in
    subst (λ (c : Command). 0 < length c.files) (same words command is)
    (required_are_given dk_merge words is.none 2 (record { name = codes "file"; form = positionals true }) (omega arith) refl)
