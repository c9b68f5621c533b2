use Rattle.std.specs.Prelude.{Contains}
use Rattle.std.proofs.lemmas.List.Elements.{Contains-get_or}
use Rattle.dk_template.proofs.WrittenTuples.{written_all, written_is_written}
use Rattle.dk_template.proofs.laws.written_orders_are_written.Goals as goal

pub returns-clause-written : goal.returns-clause-written
returns-clause-written c = written_is_written

pub returns-clause-variables : goal.returns-clause-variables
returns-clause-variables c = λ row tuple. written_all (Contains tuple) row tuple (λ k d l. Contains-get_or tuple k d l)
