use Rattle.dk_base.specs.Values.{value_of}
use Rattle.dk_grammar.proofs.Sweeping.{whole_one}
use Rattle.dk_grammar.proofs.sweep.is_whole_one.Goals as goal

pub returns : goal.returns
returns c = whole_one c.args.kind (value_of c.args.x) c.requires c.is_of.ensures
