use Rattle.std.proofs.Common.{sym, ◌∙◌}
use Rattle.std.proofs.lemmas.Simd.{map-map}
use Rattle.dk_filters.specs.Found.{by_partner}
use Rattle.dk_filters.specs.Parents.{parent_shown}
use Rattle.dk_filters.proofs.found.PointFacts.of.Goals as goal

pub returns : goal.returns
returns g c =
    let partners = c.in_ok-partners.ensures ∙ sym (map-map (by_partner c.args.vars.now) (parent_shown g.P.Answers.answered g.P.Answers.counted g.P.Answers.agreeing) c.args.parents.now) in
    λ i. record { firsts = c.in_ok-firsts.ensures i; one_values = c.in_ok-one_values.ensures i; partners = partners i }
