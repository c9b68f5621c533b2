use Rattle.std.proofs.Common.{inl, inr}
use Rattle.dk_program.proofs.Saying.{unread_by}
use Rattle.dk_program.proofs.telling.tell_fault.Goals as goal

pub returns-in-Start : goal.returns-in-Start
returns-in-Start g c =
    unread_by c.args.names.now c.args.fault c.in-Start.place c.name_at-in-Start.result.now _ _ _ _ c.tell_unread.result (inl c.in-Start.is) c.name_at-in-Start.ensures c.tell_unread.ensures

pub returns-in-Read : goal.returns-in-Read
returns-in-Read g c =
    unread_by c.args.names.now c.args.fault c.in-Read.place c.name_at-in-Read.result.now _ _ _ _ c.tell_unread-in-Read.result (inr c.in-Read.is) c.name_at-in-Read.ensures c.tell_unread-in-Read.ensures
