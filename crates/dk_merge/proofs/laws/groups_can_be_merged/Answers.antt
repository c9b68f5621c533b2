use Rattle.dk_merge.proofs.Groups.{groups_can_be_merged}
use Rattle.dk_merge.proofs.laws.groups_can_be_merged.Goals as goal

pub returns : goal.returns
returns c = groups_can_be_merged
