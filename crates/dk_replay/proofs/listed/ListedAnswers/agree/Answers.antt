use Rattle.std.specs.Prelude.{◌≡◌, ◌&&◌, Bool, List, true, false}
use Rattle.std.specs.List.{list_all}
use Rattle.std.proofs.Common.{ap, get_or, sym, ◌∙◌}
use Rattle.dk_base.proofs.ValueTests.{value_test}
use Rattle.dk_base.specs.Values.{value_of, values_of}
use Rattle.dk_base.specs.Values.SameValues.{same_value}
use Rattle.dk_base.specs.declared.values.Value.{Value}
use Rattle.dk_base.specs.declared.values.View.{View}
use Rattle.dk_samples.specs.Samples.{value_in}
use Rattle.dk_replay.proofs.Walking.{each_more, one_apart}
use Rattle.dk_replay.specs.Samples.{are_of_one_kind}
use Rattle.dk_replay.proofs.listed.ListedAnswers.agree.Goals as goal

pub returns-then-not-same : goal.returns-then-not-same
returns-then-not-same c =
    let v = c.args.v in
    let w = c.args.w in
    let infos = c.args.self.now.infos in
    let all : List (List View) = c.samples-samples.result.now in
    let i = c.loop-sample.sample-index in
    let d : List View = c.sample-item.result in
    let a = value_of c.value_at.result in
    let b = value_of c.value_at-in-loop-sample.result in
    let p : List Value → Bool = λ s. same_value (value_in s v) (value_in s w) in
    let here : c.same.result ≡ p (values_of (get_or all i d)) =
    value_test c.same.result a b c.same.ensures
    ∙ (ap (λ x. same_value x b) c.value_at.ensures
    ∙ (ap (same_value (value_in (values_of c.as_slice-sample.result.now) v)) c.value_at-in-loop-sample.ensures ∙ ap (λ (s : List View). p (values_of s)) (c.as_slice-sample.ensures ∙ c.sample-item.is))) in
    let alike : are_of_one_kind infos v w ≡ true = sym (c.are_of_one_kind.ensures ∙ ap (λ xs. are_of_one_kind xs v w) c.vars.ensures) ∙ c.if-not-are_of_one_kind.false in
    let apart : list_all p c.args.self.now.samples ≡ false = ap (list_all p) (sym c.samples-samples.ensures.samples) ∙ one_apart p all i d c.loop-sample-test.true (sym here ∙ c.if-not-same.true) in
    sym (ap (λ t. t && list_all p c.args.self.now.samples) alike ∙ apart)

pub loop-sample-preserved : goal.loop-sample-preserved
loop-sample-preserved c =
    let v = c.args.v in
    let w = c.args.w in
    let all : List (List View) = c.samples-samples.result.now in
    let i = c.loop-sample.sample-index in
    let d : List View = c.sample-item.result in
    let a = value_of c.value_at.result in
    let b = value_of c.value_at-in-loop-sample.result in
    let p : List Value → Bool = λ s. same_value (value_in s v) (value_in s w) in
    let here : c.same.result ≡ p (values_of (get_or all i d)) =
    value_test c.same.result a b c.same.ensures
    ∙ (ap (λ x. same_value x b) c.value_at.ensures
    ∙ (ap (same_value (value_in (values_of c.as_slice-sample.result.now) v)) c.value_at-in-loop-sample.ensures ∙ ap (λ (s : List View). p (values_of s)) (c.as_slice-sample.ensures ∙ c.sample-item.is))) in
    each_more all i d c.loop-sample-test.true p c.loop-sample.invariant (sym here ∙ c.if-not-same.false)
