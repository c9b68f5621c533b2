use Rattle.std.proofs.Common.{◌≡◌, ◌∙◌, ap, arith, length, refl, subst, sym, List, ℕ, Option}
use Rattle.std.specs.Prelude.{IfNone, IfSome}
use Rattle.dk_base.specs.declared.kinds.VarInfo.{VarInfo}
use Rattle.dk_expr.specs.Reads.{HasNone, IsRead}
use Rattle.dk_expr.specs.declared.assertions.Assertion.{Assertion}
use Rattle.dk_graph.specs.Names.{place_of}
use Rattle.dk_hierarchy.proofs.TableEngines.{vars_are, vars_few}
use Rattle.dk_hierarchy.specs.Samples.{all_vars_of}
use Rattle.dk_points.specs.Table.{names}
use Rattle.dk_verdicts.proofs.Asserted.{read_admitted, read_testable}
use Rattle.dk_verdicts.proofs.Checked.{some_same}
use Rattle.dk_verdicts.proofs.Rereading.{listed_before, listed_behind}
use Rattle.dk_verdicts.proofs.reading.read_claim.Goals as goal

pub read_at-requires-clause-few : goal.read_at-requires-clause-few
read_at-requires-clause-few c =
    let e = c.index-engines-point.result in
    let few = vars_few c.args.points.now c.args.engines.now c.requires.engines c.in-Some.point.0 e c.in-Some.ensures.within c.index-engines-point.is in
    let same = ap length c.vars-vars.ensures in
    omega (arith, few, same)

pub read_at-requires-clause-last : goal.read_at-requires-clause-last
read_at-requires-clause-last c =
    let ps = c.args.points.now in
    let e = c.index-engines-point.result in
    let vars : c.vars-vars.result.now ≡ all_vars_of ps c.in-Some.point.0 = c.vars-vars.ensures ∙ vars_are ps c.args.engines.now c.requires.engines c.in-Some.point.0 e c.in-Some.ensures.within c.index-engines-point.is in
    listed_before ps c.vars-vars.result.now c.in-Some.point c.args.last.now vars c.requires.last

pub returns-in-Some-2-clause-found : goal.returns-in-Some-2-clause-found
returns-in-Some-2-clause-found c =
    let ps = c.args.points.now in
    let e = c.index-engines-point.result in
    let vars : c.vars-vars.result.now ≡ all_vars_of ps c.in-Some.point.0 = c.vars-vars.ensures ∙ vars_are ps c.args.engines.now c.requires.engines c.in-Some.point.0 e c.in-Some.ensures.within c.index-engines-point.is in
    let got = subst (λ (o : Option Assertion). IfSome o (λ a. IsRead c.vars-vars.result.now c.as_slice-in-Some.result.now a)) c.in-Some-2.is c.in_ok-assertion-in-Some.ensures.read in (
      record {
        named = sym (c.in-Some.ensures.place ∙ ap (place_of (names ps)) c.as_slice.ensures);
        is_read = subst (λ (infos : List VarInfo). IsRead infos c.args.claim.now.text c.in-Some-2.assertion) vars
            (subst (λ (text : List ℕ). IsRead c.vars-vars.result.now text c.in-Some-2.assertion) c.as_slice-in-Some.ensures got);
      },
      c.if-point-known.true,
      refl,
    )

pub returns-in-Some-2-clause-is_of : goal.returns-in-Some-2-clause-is_of
returns-in-Some-2-clause-is_of c =
    let ps = c.args.points.now in
    let e = c.index-engines-point.result in
    let vars : c.vars-vars.result.now ≡ all_vars_of ps c.in-Some.point.0 = c.vars-vars.ensures ∙ vars_are ps c.args.engines.now c.requires.engines c.in-Some.point.0 e c.in-Some.ensures.within c.index-engines-point.is in
    let got = subst (λ (o : Option Assertion). IfSome o (λ a. IsRead c.vars-vars.result.now c.as_slice-in-Some.result.now a)) c.in-Some-2.is c.in_ok-assertion-in-Some.ensures.read in
    let read = subst (λ (infos : List VarInfo). IsRead infos c.as_slice-in-Some.result.now c.in-Some-2.assertion) vars got in (
      record {
        within = c.in-Some.ensures.within;
        vars = read_admitted (all_vars_of ps c.in-Some.point.0) c.as_slice-in-Some.result.now c.in-Some-2.assertion read;
        testable = read_testable (all_vars_of ps c.in-Some.point.0) c.as_slice-in-Some.result.now c.in-Some-2.assertion read;
      },
      refl,
    )

pub returns-in-None-clause-found : goal.returns-in-None-clause-found
returns-in-None-clause-found c q named past =
    let ps = c.args.points.now in
    let e = c.index-engines-point.result in
    let vars : c.vars-vars.result.now ≡ all_vars_of ps c.in-Some.point.0 = c.vars-vars.ensures ∙ vars_are ps c.args.engines.now c.requires.engines c.in-Some.point.0 e c.in-Some.ensures.within c.index-engines-point.is in
    let here : c.in-Some.point.0 ≡ q = some_same c.in-Some.point.0 q (c.in-Some.ensures.place ∙ ap (place_of (names ps)) c.as_slice.ensures ∙ named) in
    let none = subst (λ (o : Option Assertion). IfNone o (HasNone c.vars-vars.result.now c.as_slice-in-Some.result.now)) c.in-None.is c.in_ok-assertion-in-Some.ensures.none in
    subst (λ (n : ℕ). HasNone (all_vars_of ps n) c.args.claim.now.text) here
    (subst (λ (infos : List VarInfo). HasNone infos c.args.claim.now.text) vars
    (subst (λ (text : List ℕ). HasNone c.vars-vars.result.now text) c.as_slice-in-Some.ensures none))

pub returns-in-Some-2-clause-last : goal.returns-in-Some-2-clause-last
returns-in-Some-2-clause-last c =
    let ps = c.args.points.now in
    let e = c.index-engines-point.result in
    let vars : c.vars-vars.result.now ≡ all_vars_of ps c.in-Some.point.0 = c.vars-vars.ensures ∙ vars_are ps c.args.engines.now c.requires.engines c.in-Some.point.0 e c.in-Some.ensures.within c.index-engines-point.is in
    listed_behind ps c.vars-vars.result.now c.in-Some.point c.read_at.new.last vars c.in_ok-assertion-in-Some.ensures.last

pub returns-in-None-clause-last : goal.returns-in-None-clause-last
returns-in-None-clause-last c =
    let ps = c.args.points.now in
    let e = c.index-engines-point.result in
    let vars : c.vars-vars.result.now ≡ all_vars_of ps c.in-Some.point.0 = c.vars-vars.ensures ∙ vars_are ps c.args.engines.now c.requires.engines c.in-Some.point.0 e c.in-Some.ensures.within c.index-engines-point.is in
    listed_behind ps c.vars-vars.result.now c.in-Some.point c.read_at.new.last vars c.in_ok-assertion-in-Some.ensures.last
