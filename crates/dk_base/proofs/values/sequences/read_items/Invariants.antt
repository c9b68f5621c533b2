use Rattle.std.proofs.Common.{◌≡◌, length, map}
use Rattle.dk_base.specs.Pieces.{pieces}
use Rattle.dk_base.specs.Values.Sequences.{all_of}
use Rattle.dk_base.specs.declared.splitting.Cut.TheVariants.{AtBlanksOutsideQuotes}
use Rattle.dk_base.proofs.Gathering.{gathered}
use Rattle.dk_base.proofs.values.sequences.read_items.Given as goal

abbrev pub invariant-items : goal.invariant-items
invariant-items g l =
    gathered l.is_missing l.items.items (map g.T.Element.item_of (pieces AtBlanksOutsideQuotes l.left))
    ≡ all_of (map g.T.Element.item_of (pieces AtBlanksOutsideQuotes l.text))

abbrev pub decreases-items : goal.decreases-items
decreases-items g l = length l.left
