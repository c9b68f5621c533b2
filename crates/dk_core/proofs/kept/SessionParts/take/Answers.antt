use Rattle.std.proofs.Common.{◌≡◌, ◌∙◌, ◌<◌, arith, length, refl, slice_get, slice_set, subst, sym, Some, Result, Ok}
use Rattle.std.proofs.lemmas.List.Elements.{All-set}
use Rattle.dk_base.specs.Values.{values_of}
use Rattle.dk_base.specs.declared.faults.Fault.{Fault}
use Rattle.dk_engine.specs.Reading.Levels.{Whole}
use Rattle.dk_blocks.specs.Finding.{FoundFits, outcome_of}
use Rattle.dk_blocks.specs.History.{Nothing, Samples}
use Rattle.dk_blocks.specs.Standing.{ReaderStandsFor, left_behind, points_of as points_in}
use Rattle.dk_blocks.specs.declared.found.Found.{Found}
use Rattle.dk_core.proofs.Keeping.{all_get, engines_still, got}
use Rattle.dk_core.proofs.Taking.{base_fits, engine_derived, nothing_taken, sample_taken}
use Rattle.dk_core.specs.Keeping.{Keeping}
use Rattle.dk_core.specs.Taking.{EnginesWere, TakenAs}
use Rattle.dk_core.proofs.kept.SessionParts.take.Goals as goal
use Rattle.dk_core.proofs.kept.SessionParts.take.Goals.{in-Ok, in-Err}

pub feed-requires-clause-derived : goal.feed-requires-clause-derived
feed-requires-clause-derived c =
    let k : Keeping = record { reader = c.self.inside.reader; grammar = c.self.inside.grammar; engines = c.self.inside.engines.items } in
    let fits = subst (λ (f : Found). FoundFits (points_in k.reader) (Some f)) c.in-Sample.is (subst (λ (x : Keeping). FoundFits (points_in x.reader) (Some c.args.found)) (sym c.self.view_is) c.requires) in
    let at : slice_get k.engines c.in-Sample.point.0 ≡ Some c.index_mut.result.now =
    got k.engines c.in-Sample.point.0 c.index_mut.result.now (omega (arith, fits.0, c.self.invariant.engines.long)) c.index_mut.ensures.value in
    engine_derived (points_in k.reader) k.engines c.in-Sample.point.0 c.index_mut.result.now c.self.invariant.engines at

pub feed-requires-clause-fits : goal.feed-requires-clause-fits
feed-requires-clause-fits c =
    let k : Keeping = record { reader = c.self.inside.reader; grammar = c.self.inside.grammar; engines = c.self.inside.engines.items } in
    let fits = subst (λ (f : Found). FoundFits (points_in k.reader) (Some f)) c.in-Sample.is (subst (λ (x : Keeping). FoundFits (points_in x.reader) (Some c.args.found)) (sym c.self.view_is) c.requires) in
    let at : slice_get k.engines c.in-Sample.point.0 ≡ Some c.index_mut.result.now =
    got k.engines c.in-Sample.point.0 c.index_mut.result.now (omega (arith, fits.0, c.self.invariant.engines.long)) c.index_mut.ensures.value in
    base_fits (points_in k.reader) k.engines c.in-Sample.point.0 c.index_mut.result.now (values_of c.in-Sample.values.now) c.self.invariant.engines at fits.1

pub invariant_of-self : goal.invariant_of-self
invariant_of-self c =
    let k : Keeping = record { reader = c.self.inside.reader; grammar = c.self.inside.grammar; engines = c.self.inside.engines.items } in
    let fits = subst (λ (f : Found). FoundFits (points_in k.reader) (Some f)) c.in-Sample.is (subst (λ (x : Keeping). FoundFits (points_in x.reader) (Some c.args.found)) (sym c.self.view_is) c.requires) in
    let at : slice_get k.engines c.in-Sample.point.0 ≡ Some c.index_mut.result.now =
    got k.engines c.in-Sample.point.0 c.index_mut.result.now (omega (arith, fits.0, c.self.invariant.engines.long)) c.index_mut.ensures.value in
    let P : Whole → Type 0 = λ e. e.grammar ≡ k.grammar in
    record {
      engines = engines_still (points_in k.reader) k.engines c.in-Sample.point.0 c.index_mut.result.now c.feed.new.engine at c.feed.ensures.grammar c.feed.ensures.infos c.self.invariant.engines;
      grammar = All-set P k.engines c.in-Sample.point.0 c.feed.new.engine (c.feed.ensures.grammar ∙ all_get P k.engines c.in-Sample.point.0 c.index_mut.result.now c.self.invariant.grammar at) c.self.invariant.grammar;
    }

pub returns-in-Nothing-clause-gives : goal.returns-in-Nothing-clause-gives
returns-in-Nothing-clause-gives c h now stands =
    subst (λ (f : Found). TakenAs c.args.self.now h (Ok c.args.self.now) (outcome_of now (Some f))) (sym c.in-Nothing.is)
    (now, stands, (Nothing, refl, λ were adds grammar. nothing_taken c.args.self.now h now were adds grammar stands))

pub returns-in-Declaration-clause-gives : goal.returns-in-Declaration-clause-gives
returns-in-Declaration-clause-gives c h now stands =
    subst (λ (f : Found). TakenAs c.args.self.now h (left_behind c.declare.new.self c.declare.result) (outcome_of now (Some f))) (sym c.in-Declaration.is) (c.declare.ensures.gives h now stands)

pub returns-after-feed-clause-gives : goal.returns-after-feed-clause-gives
returns-after-feed-clause-gives c h now stands =
    let k : Keeping = record { reader = c.self.inside.reader; grammar = c.self.inside.grammar; engines = c.self.inside.engines.items } in
    let p = c.in-Sample.point in
    let fits = subst (λ (f : Found). FoundFits (points_in k.reader) (Some f)) c.in-Sample.is (subst (λ (x : Keeping). FoundFits (points_in x.reader) (Some c.args.found)) (sym c.self.view_is) c.requires) in
    let there : p.0 < length k.engines = omega (arith, fits.0, c.self.invariant.engines.long) in
    let at : slice_get k.engines p.0 ≡ Some c.index_mut.result.now = got k.engines p.0 c.index_mut.result.now there c.index_mut.ensures.value in
    let holds : ReaderStandsFor k.reader now = subst (λ (x : Keeping). ReaderStandsFor x.reader now) (sym c.self.view_is) stands in
    let P : Result Unit Fault → Type 0 = λ r. TakenAs c.args.self.now h (left_behind (record k { engines = slice_set k.engines p.0 c.feed.new.engine }) r) (outcome_of now (Some c.args.found)) in
    elim c.match-feed.branch [
      | in-Ok w ↦ subst P (sym w.result-is)
          (subst (λ (f : Found). TakenAs c.args.self.now h (Ok (record k { engines = slice_set k.engines p.0 c.feed.new.engine })) (outcome_of now (Some f))) (sym c.in-Sample.is) (
            now,
            holds,
            (
              Samples p.0 _ (values_of c.in-Sample.values.now),
              refl,
              λ were adds grammar.
                  let own : EnginesWere k h = subst (λ (x : Keeping). EnginesWere x h) (sym c.self.view_is) were in
                  sample_taken k p.0 c.index_mut.result.now c.feed.new.engine (values_of c.in-Sample.values.now) h now own c.self.invariant.engines at there w.in-Ok.ensures.stands adds grammar holds,
            ),
          ))
      | in-Err w ↦ subst P (sym w.result-is) tt
    ]
