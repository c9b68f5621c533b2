use Rattle.std.specs.Prelude.{Contains}
use Rattle.std.proofs.lemmas.List.Elements.{Contains-get_or}
use Rattle.dk_suppress.proofs.Agreeing.{agreeing_suppressed}
use Rattle.dk_suppress.proofs.Asking.{suppressed_alike}
use Rattle.dk_suppress.proofs.laws.suppression_is_of_lower_rank.Goals as goal

pub returns-clause-rank : goal.returns-clause-rank
returns-clause-rank c = λ grammar infos f g row vars admitted same. suppressed_alike grammar infos (Contains vars) f g row same vars admitted (λ k d l. Contains-get_or vars k d l)

pub returns-clause-alike : goal.returns-clause-alike
returns-clause-alike c = agreeing_suppressed
