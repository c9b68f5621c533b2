use Rattle.std.proofs.Common.{ap, subst, ◌∙◌, List}
use Rattle.dk_presence.specs.declared.held.Held.{Held}
use Rattle.dk_presence.specs.Patterns.{AreHeld, counted_by}
use Rattle.dk_presence.proofs.Sums.{count_is}
use Rattle.dk_presence.proofs.presence.Presence.count.Goals as goal

pub returns-clause-stands : goal.returns-clause-stands
returns-clause-stands c = λ all samples are has.
    c.sum_of.ensures ∙ (ap (λ (hs : List Held). counted_by hs c.args.leaders.now) (c.as_slice.ensures.value ∙ c.self.view_is)
    ∙ count_is all samples c.args.self.now (subst AreHeld c.self.view_is c.self.invariant.0) are c.args.leaders.now has)
