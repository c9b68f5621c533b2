use Rattle.std.proofs.lemmas.Result.{IfOk-weaker}
use Rattle.dk_base.specs.Values.{value_of}
use Rattle.dk_base.proofs.Written.{read_is_written}
use Rattle.dk_base.proofs.values.parsing.parse_value.Goals as goal

pub returns-clause-of_kind : goal.returns-clause-of_kind
returns-clause-of_kind c = IfOk-weaker _ _ _ (λ view e. (read_is_written c.args.kind c.args.text.now (value_of view) e).0) c.value_in.ensures.value

pub returns-clause-written : goal.returns-clause-written
returns-clause-written c = IfOk-weaker _ _ _ (λ view e. (read_is_written c.args.kind c.args.text.now (value_of view) e).1) c.value_in.ensures.value
