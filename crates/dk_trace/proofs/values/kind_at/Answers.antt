use Rattle.std.proofs.Common.{length, refl, sym}
use Rattle.std.proofs.lemmas.Bool.{ltb-true}
use Rattle.std.proofs.lemmas.Option.{slice_get_read}
use Rattle.dk_trace.proofs.Left.{goes_on_named}
use Rattle.dk_trace.proofs.values.kind_at.Goals as goal

pub returns-in-Some-clause-goes_on : goal.returns-in-Some-clause-goes_on
returns-in-Some-clause-goes_on c =
    goes_on_named c.args.vars.now c.args.index c.in-Some.var.now (record { number = c.args.line; bytes = c.args.bytes.now }) c.named_kind.result c.requires
    (slice_get_read c.args.vars.now (length c.args.vars.now) c.args.index c.in-Some.var.now refl (ltb-true _ _ (sym c.in-Some.ensures.lookup.0)) c.in-Some.ensures.lookup.1)
    c.named_kind.ensures
