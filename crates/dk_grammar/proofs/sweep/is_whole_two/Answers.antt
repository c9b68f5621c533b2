use Rattle.std.proofs.Common.{[], ◌∷◌, refl}
use Rattle.dk_base.specs.Values.{value_of}
use Rattle.dk_grammar.proofs.Sweeping.{lacks, whole_two}
use Rattle.dk_grammar.proofs.sweep.is_whole_two.Goals as goal

pub returns-then-is_of : goal.returns-then-is_of
returns-then-is_of c = whole_two c.args.first c.args.second (value_of c.args.x) (value_of c.args.y) c.requires (c.is_of.ensures.0 c.if-is_of.true) c.is_of-then-is_of.ensures

pub returns-else-is_of : goal.returns-else-is_of
returns-else-is_of c =
    lacks (c.args.first ∷ c.args.second ∷ []) (value_of c.args.x ∷ value_of c.args.y ∷ []) c.requires 0 c.args.first refl c.is_of.ensures c.if-is_of.false
