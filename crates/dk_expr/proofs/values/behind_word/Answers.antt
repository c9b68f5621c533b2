use Rattle.dk_expr.proofs.Words.{front_read, rest_read}
use Rattle.dk_expr.proofs.values.behind_word.Goals as goal

pub returns-clause-read : goal.returns-clause-read
returns-clause-read c = rest_read c.args.word.now c.args.bytes.now c.strip_prefix.result c.strip_prefix.ensures.cases

pub returns-clause-front : goal.returns-clause-front
returns-clause-front c = front_read c.args.word.now c.args.bytes.now c.strip_prefix.result c.strip_prefix.ensures.cases
