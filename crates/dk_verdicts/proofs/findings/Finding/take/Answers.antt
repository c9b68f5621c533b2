use Rattle.std.proofs.Common.{subst, sym, List}
use Rattle.dk_base.specs.Values.{values_of}
use Rattle.dk_base.specs.declared.kinds.VarId.{VarId}
use Rattle.dk_instances.specs.Fits.{tuple_in}
use Rattle.dk_verdicts.proofs.Taken.{takes_kept, takes_missing, takes_violated}
use Rattle.dk_verdicts.specs.Tests.{CanGoOn, Fits, Takes, Tells, tuples_by}
use Rattle.dk_verdicts.specs.declared.findings.Finding.{Finding}
use Rattle.dk_verdicts.specs.declared.findings.Finding.TheVariants.{Holds, Violated}
use Rattle.dk_verdicts.specs.declared.testing.Outcome.{Outcome}
use Rattle.dk_verdicts.proofs.findings.Finding.take.Goals as goal

pub returns-in-Missing : goal.returns-in-Missing
returns-in-Missing c =
    let s = c.args.sample.now in
    let sample = values_of s.values.now in
    let check = c.args.check.now in
    let a = c.in-Holds.assertion in
    let b = c.test_values.new.assertion in
    let told = subst (λ (o : Outcome). Tells a (tuple_in check.vars sample) o b) c.in-Missing.is
    (subst (λ (vs : List VarId). Tells a (tuple_in vs sample) c.in_ok-test_values.field-0 b) c.as_slice.ensures.items c.in_ok-test_values.ensures) in
    subst (λ (f : Finding). Takes s.file s.line (tuples_by sample check) f (Holds c.in-Holds.point b c.in-Holds.tuples)) (sym c.in-Holds.is)
    (takes_missing s.file s.line sample check c.in-Holds.point a c.in-Holds.tuples (subst CanGoOn c.in-Holds.is c.requires.going) (subst (Fits sample check) c.in-Holds.is c.requires.fits) b told)

pub returns-in-Kept : goal.returns-in-Kept
returns-in-Kept c =
    let s = c.args.sample.now in
    let sample = values_of s.values.now in
    let check = c.args.check.now in
    let a = c.in-Holds.assertion in
    let b = c.test_values.new.assertion in
    let told = subst (λ (o : Outcome). Tells a (tuple_in check.vars sample) o b) c.in-Kept.is
    (subst (λ (vs : List VarId). Tells a (tuple_in vs sample) c.in_ok-test_values.field-0 b) c.as_slice.ensures.items c.in_ok-test_values.ensures) in
    subst (λ (f : Finding). Takes s.file s.line (tuples_by sample check) f (Holds c.in-Holds.point b c.saturating_add.result)) (sym c.in-Holds.is)
    (subst (λ n. Takes s.file s.line (tuples_by sample check) (Holds c.in-Holds.point a c.in-Holds.tuples) (Holds c.in-Holds.point b n)) (sym c.saturating_add.ensures)
    (takes_kept s.file s.line sample check c.in-Holds.point a c.in-Holds.tuples (subst CanGoOn c.in-Holds.is c.requires.going) (subst (Fits sample check) c.in-Holds.is c.requires.fits) b told))

pub returns-in-Violated : goal.returns-in-Violated
returns-in-Violated c =
    let s = c.args.sample.now in
    let sample = values_of s.values.now in
    let check = c.args.check.now in
    let a = c.in-Holds.assertion in
    let b = c.test_values.new.assertion in
    let told = subst (λ (o : Outcome). Tells a (tuple_in check.vars sample) o b) c.in-Violated.is
    (subst (λ (vs : List VarId). Tells a (tuple_in vs sample) c.in_ok-test_values.field-0 b) c.as_slice.ensures.items c.in_ok-test_values.ensures) in
    subst (λ (f : Finding). Takes s.file s.line (tuples_by sample check) f (Violated s.file s.line)) (sym c.in-Holds.is)
    (takes_violated s.file s.line sample check c.in-Holds.point a c.in-Holds.tuples (subst CanGoOn c.in-Holds.is c.requires.going) (subst (Fits sample check) c.in-Holds.is c.requires.fits) b told)
