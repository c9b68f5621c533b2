use Rattle.std.specs.Prelude.{◌≡◌, ◌<◌, ◌+◌, ◌∷◌, Some, None, drop, length, slice_get}
use Rattle.std.proofs.Common.{◌∙◌, ap, arith, get_or, inl, inr, length-drop, subst, sym}
use Rattle.std.proofs.lemmas.List.{drop_more, length_push}
use Rattle.std.proofs.lemmas.Option.{slice_get-get_or}
use Rattle.std.proofs.lemmas.Result.{err_from_is_err_and}
use Rattle.dk_engine.specs.Reading.Levels.{Whole}
use Rattle.dk_graph.proofs.Places.{some-injective}
use Rattle.dk_hierarchy.proofs.TableEngines.{AreFirst, all_engines, one_more}
use Rattle.dk_state.specs.Loading.{AreLoadedAs, AreSaved, IsEngineAt, IsLoadedAs, saved_blocks}
use Rattle.dk_state.specs.Spelling.{IsSavedAt, saved_parts}
use Rattle.dk_state.proofs.Blocks.{got_push, loads_err}
use Rattle.dk_state.proofs.Loads.{more_saved}
use Rattle.dk_state.proofs.loading.engines.Goals as goal

pub loop-p-preserved : goal.loop-p-preserved
loop-p-preserved c =
    let ps = c.args.points.now in
    let g = c.args.grammar in
    let before = c.loop-p.engines in
    let p = c.loop-p.p in
    let engine = c.in_ok-engine.engine in
    let inv = c.loop-p.invariant in
    let within : p < length ps = omega (arith, c.loop-p-test.true, c.len-p-end.ensures.len) in
    let at : IsEngineAt ps g (length before) engine = subst (λ n. IsEngineAt ps g n engine) (sym inv.long) c.in_ok-engine.ensures.engine in
    let pushed = c.in_ok-push.ensures.ok in
    record {
      first = subst (AreFirst ps g) (sym pushed) (one_more ps g before engine inv.first at);
      long = omega (arith, ap length pushed, length_push before engine, inv.long);
      saved = subst (AreSaved g ps) (sym pushed) (more_saved g ps before engine inv.saved (subst (λ n. IsSavedAt g ps n (saved_parts engine.kept)) (sym inv.long) c.in_ok-engine.ensures.saved));
      read = λ saved as_many each is.
          let so_far = inv.read saved as_many each is in
          let inside : p < length saved = omega (arith, within, as_many) in
          let own = get_or saved p None in
          let here : slice_get saved p ≡ Some own = slice_get-get_or saved p None inside in
          let left = drop (p + 1) saved in
          let parted : drop p saved ≡ own ∷ left = drop_more saved p None inside in
          let step = c.in_ok-engine.ensures.read own left (each p own here) (omega (arith, length-drop (p + 1) saved, as_many, c.len-p-end.ensures.few)) (so_far.0 ∙ ap (saved_blocks p) parted) in (
            step.1,
            λ q other e there got. elim (got_push before engine q e (ap (λ es. slice_get es q) (sym pushed) ∙ got)) as (λ _. IsLoadedAs g ps q other e) [
              | inl old ↦ so_far.1 q other e there old
              | inr last ↦
                  let same : q ≡ p = last.0 ∙ inv.long in
                  let as_own : own ≡ other = some-injective (sym here ∙ ap (slice_get saved) (sym same) ∙ there) in
                  subst (λ n. IsLoadedAs g ps n other e) (sym same) (subst (λ o. IsLoadedAs g ps p o e) as_own (subst (IsLoadedAs g ps p own) last.1 step.0))
            ],
          );
    }

pub returns-in_err-engine-clause-read : goal.returns-in_err-engine-clause-read
returns-in_err-engine-clause-read c saved as_many each is =
    let ps = c.args.points.now in
    let g = c.args.grammar in
    let p = c.loop-p.p in
    let inv = c.loop-p.invariant in
    let within : p < length ps = omega (arith, c.loop-p-test.true, c.len-p-end.ensures.len) in
    let so_far = inv.read saved as_many each is in
    let inside : p < length saved = omega (arith, within, as_many) in
    let own = get_or saved p None in
    let here : slice_get saved p ≡ Some own = slice_get-get_or saved p None inside in
    let left = drop (p + 1) saved in
    let parted : drop p saved ≡ own ∷ left = drop_more saved p None inside in
    let step = c.in_err-engine.ensures.read own left (each p own here) (omega (arith, length-drop (p + 1) saved, as_many, c.len-p-end.ensures.few)) (so_far.0 ∙ ap (saved_blocks p) parted) in
    let fault = err_from_is_err_and c.from_residual.result c.from_residual.ensures.1 in
    rw (fault.1, fault.2) (loads_err (λ (e : Whole). IsLoadedAs g ps p own e × (c.next_engine.new.front ≡ saved_blocks (p + 1) left)) (AreLoadedAs g ps saved) c.in_err-engine.field-0.0 step)

pub returns-clause-engines : goal.returns-clause-engines
returns-clause-engines c =
    let many = c.len-p-end.ensures.len in
    all_engines c.args.points.now c.args.grammar c.loop-p.engines c.loop-p.invariant.first (omega (arith, c.loop-p.invariant.long, many, c.loop-p-test.false, c.loop-p.auto.p-end))

pub returns-clause-grammar : goal.returns-clause-grammar
returns-clause-grammar c k d l = (c.loop-p.invariant.first.each k (get_or c.loop-p.engines k d) (slice_get-get_or c.loop-p.engines k d l)).2
