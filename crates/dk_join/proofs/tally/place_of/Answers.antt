use Rattle.std.proofs.Common.{◌∙◌, Vec, Global}
use Rattle.dk_base.specs.declared.kinds.VarId.{VarId}
use Rattle.dk_presence.specs.Patterns.{same_vars}
use Rattle.dk_presence.proofs.Placing.{pointwise_same}
use Rattle.dk_join.proofs.Keys.{position_keys}
use Rattle.dk_join.proofs.tally.place_of.Goals as goal

pub returns : goal.returns
returns c = c.get_index_of.ensures.index ∙ position_keys (λ (k : Vec VarId Global). k.items) (same_vars c.args.present.now) _ (λ k. pointwise_same c.args.present.now k.items) c.args.places.now.keys
