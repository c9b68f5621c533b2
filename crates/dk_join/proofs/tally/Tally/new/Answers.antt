use Rattle.std.proofs.Common.{ap, sym, subst, ◌∙◌, Vec, Global, map}
use Rattle.dk_base.specs.declared.kinds.VarId.{VarId}
use Rattle.dk_presence.specs.Patterns.{AreHeld, held_patterns}
use Rattle.dk_presence.proofs.Placing.{held_none}
use Rattle.dk_join.proofs.tally.Tally.new.Goals as goal

pub invariant_of-result : goal.invariant_of-result
invariant_of-result c =
    (subst AreHeld (sym c.new.ensures.items) held_none, ap (map (λ (k : Vec VarId Global). k.items)) c.new-2.ensures.empty ∙ sym (ap held_patterns c.new.ensures.items))
