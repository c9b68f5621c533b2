use Rattle.std.specs.Prelude.{◌≡◌, List, true, false}
use Rattle.std.specs.List.{list_all}
use Rattle.std.proofs.Common.{ap, arith, get_or, sym, ◌∙◌}
use Rattle.dk_base.specs.Values.{values_of}
use Rattle.dk_base.specs.declared.values.View.{View}
use Rattle.dk_samples.specs.Samples.{is_present, value_in}
use Rattle.dk_replay.proofs.Walking.{count_more}
use Rattle.dk_replay.proofs.listed.ListedAnswers.count.Goals as goal
use Rattle.dk_replay.proofs.listed.ListedAnswers.count.Goals.{then-are_in, else-are_in}

pub loop-sample-preserved : goal.loop-sample-preserved
loop-sample-preserved c =
    let all : List (List View) = c.samples-samples.result.now in
    let i = c.loop-sample.sample-index in
    let d : List View = c.sample-item.result in
    let vars = c.args.vars.now in
    let here : c.are_in.result ≡ list_all (λ v. is_present (value_in (values_of (get_or all i d)) v)) vars =
    c.are_in.ensures ∙ ap (λ (s : List View). list_all (λ v. is_present (value_in (values_of s) v)) vars) (c.as_slice.ensures ∙ c.sample-item.is) in
    let was = c.loop-sample.invariant in
    elim c.if-are_in.branch [
      | then-are_in w ↦
          let more = count_more all i d c.loop-sample-test.true vars true (sym w.if-are_in.true ∙ here) in
          omega (arith, more, was, w.count-is, w.saturating_add-count.ensures)
      | else-are_in w ↦
          let more = count_more all i d c.loop-sample-test.true vars false (sym w.if-are_in.false ∙ here) in
          omega (arith, more, was, w.count-is)
    ]
