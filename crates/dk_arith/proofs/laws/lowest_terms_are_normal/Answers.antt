use Rattle.dk_arith.proofs.LowestTerms.{lowest_is}
use Rattle.dk_arith.proofs.laws.lowest_terms_are_normal.Goals as goal

pub returns-clause-normal : goal.returns-clause-normal
returns-clause-normal c = λ k some. (lowest_is k.0 k.1 k.2 some).normal

pub returns-clause-parts : goal.returns-clause-parts
returns-clause-parts c = λ k some. let low = lowest_is k.0 k.1 k.2 some in (low.first, low.second, low.third)
