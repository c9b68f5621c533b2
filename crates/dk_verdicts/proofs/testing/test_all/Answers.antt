use Rattle.std.proofs.Common.{◌≡◌, arith, slice_get, Some}
use Rattle.dk_base.specs.Values.{values_of}
use Rattle.dk_verdicts.proofs.Tested.{claim_within, got_value, none_tested, one_tested, still_fits, still_going}
use Rattle.dk_verdicts.proofs.testing.test_all.Goals as goal

pub loop-check-init : goal.loop-check-init
loop-check-init c = let s = c.args.sample.now in none_tested s.file s.line (values_of s.values.now) c.args.findings.now.items c.requires.going

pub index_mut-requires : goal.index_mut-requires
index_mut-requires c =
    let s = c.args.sample.now in
    let at : slice_get c.args.checks.now c.loop-check.check-index ≡ Some c.check-item.result = got_value c.args.checks.now c.loop-check.check-index c.check-item.result (omega arith) c.check-item.is in
    let within = claim_within s.file s.line (values_of s.values.now) c.args.findings.now.items c.requires.going c.args.checks.now c.requires.fit c.loop-check.check-index c.loop-check.findings.items c.loop-check.invariant c.check-item.result at in
    omega (arith, within, c.loop-check.findings.ok.0)

pub take-requires-clause-going : goal.take-requires-clause-going
take-requires-clause-going c =
    let s = c.args.sample.now in
    let at : slice_get c.args.checks.now c.loop-check.check-index ≡ Some c.check-item.result = got_value c.args.checks.now c.loop-check.check-index c.check-item.result (omega arith) c.check-item.is in
    let within = claim_within s.file s.line (values_of s.values.now) c.args.findings.now.items c.requires.going c.args.checks.now c.requires.fit c.loop-check.check-index c.loop-check.findings.items c.loop-check.invariant c.check-item.result at in
    still_going s.file s.line (values_of s.values.now) c.args.findings.now.items c.requires.going c.args.checks.now c.requires.fit c.loop-check.check-index c.loop-check.findings.items c.loop-check.invariant c.check-item.result at
    c.index_mut.result.now (got_value c.loop-check.findings.items c.check-item.result.claim c.index_mut.result.now within c.index_mut.ensures.value)

pub take-requires-clause-fits : goal.take-requires-clause-fits
take-requires-clause-fits c =
    let s = c.args.sample.now in
    let at : slice_get c.args.checks.now c.loop-check.check-index ≡ Some c.check-item.result = got_value c.args.checks.now c.loop-check.check-index c.check-item.result (omega arith) c.check-item.is in
    let within = claim_within s.file s.line (values_of s.values.now) c.args.findings.now.items c.requires.going c.args.checks.now c.requires.fit c.loop-check.check-index c.loop-check.findings.items c.loop-check.invariant c.check-item.result at in
    still_fits s.file s.line (values_of s.values.now) c.args.findings.now.items c.requires.going c.args.checks.now c.requires.fit c.loop-check.check-index c.loop-check.findings.items c.loop-check.invariant c.check-item.result at
    c.index_mut.result.now (got_value c.loop-check.findings.items c.check-item.result.claim c.index_mut.result.now within c.index_mut.ensures.value)

pub loop-check-preserved : goal.loop-check-preserved
loop-check-preserved c =
    let s = c.args.sample.now in
    let at : slice_get c.args.checks.now c.loop-check.check-index ≡ Some c.check-item.result = got_value c.args.checks.now c.loop-check.check-index c.check-item.result (omega arith) c.check-item.is in
    let within = claim_within s.file s.line (values_of s.values.now) c.args.findings.now.items c.requires.going c.args.checks.now c.requires.fit c.loop-check.check-index c.loop-check.findings.items c.loop-check.invariant c.check-item.result at in
    one_tested s.file s.line (values_of s.values.now) c.args.findings.now.items c.requires.going c.args.checks.now c.requires.fit c.loop-check.check-index c.loop-check.findings.items c.loop-check.invariant c.check-item.result at
    c.index_mut.result.now (got_value c.loop-check.findings.items c.check-item.result.claim c.index_mut.result.now within c.index_mut.ensures.value) c.take.new.self c.in_ok-take.ensures
