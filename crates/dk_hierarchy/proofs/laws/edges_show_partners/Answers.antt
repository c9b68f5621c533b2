use Rattle.dk_hierarchy.proofs.Edges.{agreement, counts, fits_through}
use Rattle.dk_hierarchy.proofs.laws.edges_show_partners.Goals as goal

pub returns-clause-fit : goal.returns-clause-fit
returns-clause-fit c = fits_through

pub returns-clause-count : goal.returns-clause-count
returns-clause-count c = counts

pub returns-clause-agreement : goal.returns-clause-agreement
returns-clause-agreement c = agreement
