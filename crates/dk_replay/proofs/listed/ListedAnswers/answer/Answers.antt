use Rattle.std.specs.Prelude.{List}
use Rattle.std.proofs.Common.{ap, subst, sym, ◌∙◌}
use Rattle.dk_base.specs.Values.{values_of}
use Rattle.dk_base.specs.declared.values.View.{View}
use Rattle.dk_engine.proofs.Readings.{row_is}
use Rattle.dk_grammar.specs.Runs.{with_sample}
use Rattle.dk_instances.proofs.Fitting.{fit_of_none}
use Rattle.dk_instances.specs.Laws.{IsSample}
use Rattle.dk_template.proofs.ProperStates.{proper_laws}
use Rattle.dk_template.specs.Templates.{form_of}
use Rattle.dk_replay.proofs.Walking.{one_of_all, state_more}
use Rattle.dk_replay.proofs.listed.ListedAnswers.answer.Goals as goal

pub loop-sample-init : goal.loop-sample-init
loop-sample-init c = record {
  state = sym (fit_of_none c.args.row (row_is c.args.self.now.grammar c.args.row c.requires.row) c.args.vars.now);
  proper = (proper_laws (form_of c.args.row)).empty_proper;
}

pub with_sample-requires-clause-sample : goal.with_sample-requires-clause-sample
with_sample-requires-clause-sample c =
    let infos = c.args.self.now.infos in
    let all = c.samples-samples.result.now in
    subst (λ (s : List View). IsSample infos (values_of s)) (sym (c.as_slice.ensures ∙ c.sample-item.is))
    (one_of_all (IsSample infos) all c.loop-sample.sample-index c.sample-item.result c.loop-sample-test.true c.samples-samples.ensures.each)

pub loop-sample-preserved : goal.loop-sample-preserved
loop-sample-preserved c =
    let row = c.args.row in
    let vars = c.args.vars.now in
    let before = c.loop-sample.state in
    record {
      state = state_more c.samples-samples.result.now c.loop-sample.sample-index c.sample-item.result c.loop-sample-test.true row (row_is c.args.self.now.grammar row c.requires.row) vars before c.in_ok-state.state
          c.loop-sample.invariant.state (c.in_ok-state.ensures.state ∙ ap (λ (s : List View). with_sample row vars (values_of s) before) (c.as_slice.ensures ∙ c.sample-item.is));
      proper = c.in_ok-state.ensures.proper;
    }
