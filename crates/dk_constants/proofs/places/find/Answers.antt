use Rattle.std.proofs.Common.{sym}
use Rattle.dk_constants.specs.Known.{none_known}
use Rattle.dk_constants.proofs.Gaps.{absent_in_gap, found_at}
use Rattle.dk_constants.proofs.places.find.Goals as goal

pub returns-in-Ok : goal.returns-in-Ok
returns-in-Ok c = found_at c.args.known.now c.requires c.args.v c.in-Ok.place c.in-Ok.ensures.found c.index-known-place.result

pub returns-in-Err : goal.returns-in-Err
returns-in-Err c = sym (absent_in_gap c.args.known.now (c.args.v, none_known.1) c.in-Err.field-0 c.in-Err.ensures.absent)
