use Rattle.std.proofs.Common.{◌∙◌, ◌<◌, FitsSigned, arith, rules}
use Rattle.std.specs.Prelude.{length}
use Rattle.std.specs.Int.{w64}
use Rattle.std.proofs.lemmas.Int.{to_z-of_z}
use Rattle.std.proofs.lemmas.List.{length-set}
use Rattle.std.proofs.lemmas.Option.{none-some, same_Some}
use Rattle.dk_expr.proofs.Pushed.{more_fit, more_written, written_at}
use Rattle.dk_expr.proofs.values.ints_of.Goals as goal

pub returns-in_err-ints-clause-read : goal.returns-in_err-ints-clause-read
returns-in_err-ints-clause-read c ks fit few are =
    let own = written_at c.args.texts.now ks c.loop-place.place c.index-texts-place.result c.as_slice.result.now are fit c.loop-place-test.true c.index-texts-place.is c.as_slice.ensures in
    absurd (none-some _ (c.in_err-ints.ensures.read _ own.1 own.2))

pub loop-place-preserved : goal.loop-place-preserved
loop-place-preserved c =
    let x = c.in_ok-ints.field-0 in
    let fits : FitsSigned w64 x = search rules in
    let three : c.loop-place.place < length c.loop-place.ints = omega (arith, c.loop-place.invariant.three) in
    record {
      three = length-set c.loop-place.ints c.loop-place.place _ ∙ c.loop-place.invariant.three;
      read = λ ks fit are.
          let own = written_at c.args.texts.now ks c.loop-place.place c.index-texts-place.result c.as_slice.result.now are fit c.loop-place-test.true c.index-texts-place.is c.as_slice.ensures in
          more_written c.loop-place.ints ks c.loop-place.place _ three own.0 (to_z-of_z w64 x fits ∙ same_Some _ _ (c.in_ok-ints.ensures.read _ own.1 own.2)) (c.loop-place.invariant.read ks fit are);
      within = more_fit c.loop-place.ints c.loop-place.place _ x three (to_z-of_z w64 x fits) c.in_ok-ints.ensures.within c.loop-place.invariant.within;
    }
