use Rattle.std.specs.Prelude.{◌≡◌, map}
use Rattle.std.proofs.Common.{◌∙◌, ap, subst, sym}
use Rattle.dk_base.specs.Values.{values_of}
use Rattle.dk_classes.specs.Classes.{IsSplit}
use Rattle.dk_join.proofs.Splitting.{joined_by_split}
use Rattle.dk_join.specs.Tallies.{leader_value}
use Rattle.dk_join.proofs.leaders.joined_leaders.Goals as goal

pub returns : goal.returns
returns c =
    let first = c.args.first.now in
    let second = c.args.second.now in
    let classes = c.in_ok-classes.classes in
    let told : values_of c.as_slice.result.now ≡ map leader_value second = ap values_of c.as_slice.ensures.value ∙ c.in_ok-values.ensures in
    joined_by_split first second classes (c.requires.first ∙ sym c.requires.second) (subst (λ s. IsSplit first s classes) told c.in_ok-classes.ensures.exact)
