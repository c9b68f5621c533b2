use Rattle.std.proofs.Common.{[], ◌∷◌, refl}
use Rattle.dk_base.specs.Values.{value_of}
use Rattle.dk_grammar.proofs.Sweeping.{lacks, whole_three}
use Rattle.dk_grammar.proofs.sweep.is_whole_three.Goals as goal

pub returns-then-is_of-2 : goal.returns-then-is_of-2
returns-then-is_of-2 c =
    whole_three c.args.first c.args.second c.args.third (value_of c.args.x) (value_of c.args.y) (value_of c.args.z) c.requires
    (c.is_of.ensures.0 c.if-is_of.true) (c.is_of-then-is_of.ensures.0 c.if-is_of-2.true) c.is_of-then-is_of-2.ensures

pub returns-else-is_of-2 : goal.returns-else-is_of-2
returns-else-is_of-2 c =
    lacks (c.args.first ∷ c.args.second ∷ c.args.third ∷ []) (value_of c.args.x ∷ value_of c.args.y ∷ value_of c.args.z ∷ []) c.requires 1 c.args.second refl
    c.is_of-then-is_of.ensures c.if-is_of-2.false

pub returns-else-is_of : goal.returns-else-is_of
returns-else-is_of c =
    lacks (c.args.first ∷ c.args.second ∷ c.args.third ∷ []) (value_of c.args.x ∷ value_of c.args.y ∷ value_of c.args.z ∷ []) c.requires 0 c.args.first refl
    c.is_of.ensures c.if-is_of.false
