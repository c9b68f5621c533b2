use Rattle.std.proofs.Common.{◌≡◌, length, map}
use Rattle.dk_base.specs.Values.Items.{str_item}
use Rattle.dk_base.specs.Pieces.{pieces}
use Rattle.dk_base.specs.Values.Sequences.{all_of}
use Rattle.dk_base.specs.declared.splitting.Cut.TheVariants.{AtBlanksOutsideQuotes}
use Rattle.dk_base.proofs.Gathering.{gathered}
use Rattle.dk_base.proofs.values.sequences.read_texts.Given as goal

abbrev pub invariant-items : goal.invariant-items
invariant-items l =
    gathered l.is_missing (map (λ t. t.now) l.items.items) (map str_item (pieces AtBlanksOutsideQuotes l.left))
    ≡ all_of (map str_item (pieces AtBlanksOutsideQuotes l.text))

abbrev pub decreases-items : goal.decreases-items
decreases-items l = length l.left
