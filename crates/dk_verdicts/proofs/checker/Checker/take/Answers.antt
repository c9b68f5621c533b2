use Rattle.std.proofs.Common.{◌≡◌, ◌<◌, ◌∙◌, ap, arith, length, refl, slice_get, sym, List, Some}
use Rattle.dk_base.specs.Values.{values_of}
use Rattle.dk_verdicts.proofs.Checked.{all_fit, all_going}
use Rattle.dk_verdicts.proofs.Growth.{findings_on}
use Rattle.dk_verdicts.proofs.Lines.{on_ok}
use Rattle.dk_verdicts.proofs.Recorded.{kept_up_behind, stands_behind, with_checks}
use Rattle.dk_verdicts.proofs.Tested.{got_value}
use Rattle.dk_verdicts.specs.Checks.{AreChecksOf}
use Rattle.dk_verdicts.specs.declared.checker.Checker.{Checker}
use Rattle.dk_verdicts.specs.declared.checks.Check.{Check}
use Rattle.dk_verdicts.proofs.checker.Checker.take.Goals as goal

pub test_all-requires-clause-going : goal.test_all-requires-clause-going
test_all-requires-clause-going c =
    let ps = c.args.points.now in
    let now : Checker = c.make_checks.new.self in
    let ready = with_checks ps c.keep_up.new.self now c.in_ok-keep_up.ensures.kept_up c.in_ok-keep_up.ensures.known c.in_ok-make_checks.ensures.others c.in_ok-make_checks.ensures.checks in
    all_going ps now.findings.items (findings_on ps now ready.kept_up)

pub test_all-requires-clause-fit : goal.test_all-requires-clause-fit
test_all-requires-clause-fit c =
    let ps = c.args.points.now in
    let now : Checker = c.make_checks.new.self in
    let ready = with_checks ps c.keep_up.new.self now c.in_ok-keep_up.ensures.kept_up c.in_ok-keep_up.ensures.known c.in_ok-make_checks.ensures.others c.in_ok-make_checks.ensures.checks in
    let checks : AreChecksOf ps now.findings.items now.checks.items = c.in_ok-make_checks.ensures.checks in
    let own : List Check = c.as_slice-checks.result.now in
    let within : c.args.point.0 < length now.checks.items = let long = checks.long in omega (arith, long, c.requires.point) in
    let here : slice_get now.checks.items c.args.point.0 ≡ Some own = got_value now.checks.items c.args.point.0 c.index.result.now within c.index.ensures ∙ ap Some (sym c.as_slice-checks.ensures) in
    all_fit ps c.args.point.0 (values_of c.args.values.now) c.requires.sample now.findings.items now.checks.items (findings_on ps now ready.kept_up) checks own here

pub returns-clause-kept_up : goal.returns-clause-kept_up
returns-clause-kept_up c =
    let ps = c.args.points.now in
    let now : Checker = c.make_checks.new.self in
    let ready = with_checks ps c.keep_up.new.self now c.in_ok-keep_up.ensures.kept_up c.in_ok-keep_up.ensures.known c.in_ok-make_checks.ensures.others c.in_ok-make_checks.ensures.checks in
    let checks : AreChecksOf ps now.findings.items now.checks.items = c.in_ok-make_checks.ensures.checks in
    let own : List Check = c.as_slice-checks.result.now in
    let within : c.args.point.0 < length now.checks.items = let long = checks.long in omega (arith, long, c.requires.point) in
    let here : slice_get now.checks.items c.args.point.0 ≡ Some own = got_value now.checks.items c.args.point.0 c.index.result.now within c.index.ensures ∙ ap Some (sym c.as_slice-checks.ensures) in
    let next : Checker = record now { findings = c.test_all.new.findings } in
    on_ok c.test_all.result _ _
    (λ taken. kept_up_behind ps now next c.args.file c.args.line c.args.point.0 (values_of c.args.values.now) own ready.kept_up ready.long checks here refl taken)
    c.test_all.ensures

pub returns-clause-stands : goal.returns-clause-stands
returns-clause-stands c =
    let ps = c.args.points.now in
    let now : Checker = c.make_checks.new.self in
    let ready = with_checks ps c.keep_up.new.self now c.in_ok-keep_up.ensures.kept_up c.in_ok-keep_up.ensures.known c.in_ok-make_checks.ensures.others c.in_ok-make_checks.ensures.checks in
    let checks : AreChecksOf ps now.findings.items now.checks.items = c.in_ok-make_checks.ensures.checks in
    let own : List Check = c.as_slice-checks.result.now in
    let within : c.args.point.0 < length now.checks.items = let long = checks.long in omega (arith, long, c.requires.point) in
    let here : slice_get now.checks.items c.args.point.0 ≡ Some own = got_value now.checks.items c.args.point.0 c.index.result.now within c.index.ensures ∙ ap Some (sym c.as_slice-checks.ensures) in
    let next : Checker = record now { findings = c.test_all.new.findings } in
    on_ok c.test_all.result _ _
    (λ taken rs base derived stands.
    stands_behind ps now next c.args.file c.args.line c.args.point.0 (values_of c.args.values.now) own ready.kept_up ready.long checks here refl taken c.requires.point base derived rs
    (ready.stands rs (c.in_ok-keep_up.ensures.stands rs stands)))
    c.test_all.ensures
