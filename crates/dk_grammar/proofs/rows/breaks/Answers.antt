use Rattle.dk_base.specs.Values.{values_of}
use Rattle.dk_grammar.proofs.Breaking.{breaks_where, holds_is_proper}
use Rattle.dk_grammar.proofs.rows.breaks.Goals as goal

pub stays-requires-clause-state : goal.stays-requires-clause-state
stays-requires-clause-state c = holds_is_proper c.requires.plain

pub returns : goal.returns
returns c = breaks_where c.args.row c.requires.row c.requires.plain (values_of c.args.tuple.now) c.stays.ensures
