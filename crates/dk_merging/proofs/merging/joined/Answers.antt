use Rattle.std.specs.Prelude.{All, Err, List, refl}
use Rattle.std.proofs.Common.{ap, subst}
use Rattle.std.proofs.lemmas.Result.{err_from_is_err_and}
use Rattle.dk_engine.specs.Reading.Levels.{Whole}
use Rattle.dk_join.specs.declared.joining.JoinFault.{JoinFault}
use Rattle.dk_merging.specs.Engines.{IsSound}
use Rattle.dk_merging.specs.Numbers.{AreWithin}
use Rattle.dk_merging.proofs.MergedStates.{join_fault_made}
use Rattle.dk_merging.proofs.merging.joined.Goals as goal

pub engines_of_both-requires : goal.engines_of_both-requires
engines_of_both-requires c = c.requires.alike

pub returns : goal.returns
returns c =
    let lent = c.as_slice.ensures in
    record {
      head = refl;
      each = c.in_ok-engines.ensures.both;
      within = subst AreWithin lent c.read_engines.ensures.within;
      sound = subst (λ (es : List Whole). All IsSound es) lent c.read_engines.ensures.sound;
    }

pub returns-in_err-engines : goal.returns-in_err-engines
returns-in_err-engines c =
    let fault = err_from_is_err_and c.from_residual.result c.from_residual.ensures.1 in
    rw fault.1 (join_fault_made c.args.one c.args.other c.in_err-engines.field-0.0 fault.0 (λ e. c.in_err-engines.ensures.none (ap (λ (f : JoinFault). Err f) e)) fault.2)
