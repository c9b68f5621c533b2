use Rattle.std.proofs.Common.{◌≡◌, ◌∙◌, ◌∷◌, ◌++◌, [], ap, subst, List}
use Rattle.dk_base.specs.Values.{values_of}
use Rattle.dk_base.specs.declared.kinds.VarInfo.{VarInfo}
use Rattle.dk_base.specs.declared.values.Value.{Value}
use Rattle.dk_derive.specs.Values.{values_by_form}
use Rattle.dk_hierarchy.specs.Standing.{EngineStandsFor}
use Rattle.dk_core.proofs.Asking.{if_on}
use Rattle.dk_core.proofs.Feeding.{sample_given}
use Rattle.dk_core.proofs.Keeping.{engine_fed}
use Rattle.dk_core.proofs.kept.feed.Goals as goal

pub feed-requires : goal.feed-requires
feed-requires c =
    let base : List Value = values_of c.args.base.now in
    let sample : List Value = values_of c.in_ok-sample.sample.now in
    let is : sample ≡ values_by_form c.args.engine.now.infos base = c.in_ok-sample.ensures.values ∙ ap (λ (vars : List VarInfo). values_by_form vars base) c.vars.ensures in
    sample_given c.args.engine.now.infos base sample c.requires.derived c.requires.fits.0 is (c.in_ok-sample.ensures.written c.requires.fits.1)

pub returns-clause-stands : goal.returns-clause-stands
returns-clause-stands c =
    let base : List Value = values_of c.args.base.now in
    let sample : List Value = values_of c.in_ok-sample.sample.now in
    let is : sample ≡ values_by_form c.args.engine.now.infos base = c.in_ok-sample.ensures.values ∙ ap (λ (vars : List VarInfo). values_by_form vars base) c.vars.ensures in
    let own = sample_given c.args.engine.now.infos base sample c.requires.derived c.requires.fits.0 is (c.in_ok-sample.ensures.written c.requires.fits.1) in
    if_on c.feed.result _ _ c.feed.ensures.stands
    (λ fed samples stands. subst (λ (s : List Value). EngineStandsFor c.feed.new.self (samples ++ s ∷ [])) is
    (engine_fed c.args.engine.now c.feed.new.self samples sample c.feed.ensures.grammar c.feed.ensures.infos own (fed samples) stands))
