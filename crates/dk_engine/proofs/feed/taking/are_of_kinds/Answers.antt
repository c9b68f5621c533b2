use Rattle.std.specs.Prelude.{◌≡◌, refl}
use Rattle.std.proofs.Common.{◌∙◌, arith, get_or, subst, sym, inl, inr}
use Rattle.std.proofs.lemmas.Bool.{cases_lt, false≢true}
use Rattle.std.proofs.lemmas.List.{length-map}
use Rattle.dk_base.specs.Values.{IsOfKind, value_of, values_of}
use Rattle.dk_base.specs.declared.values.View.TheVariants as view
use Rattle.dk_engine.proofs.OfKinds.{as_many, of_each, told_by_values, told_by_views}
use Rattle.dk_engine.proofs.feed.taking.are_of_kinds.Goals as goal

pub returns-then-vars-sample : goal.returns-then-vars-sample
returns-then-vars-sample c = (
  λ f. absurd (false≢true f),
  λ are.
      let many = as_many c.args.vars.now (values_of c.args.sample.now) are in
      let shown = length-map c.args.sample.now value_of in
      let other = c.if-vars-sample.true in
      absurd (other (omega (arith, many, shown))),
)

pub returns-then-not-is_of_kind : goal.returns-then-not-is_of_kind
returns-then-not-is_of_kind c =
    let long = c.if-vars-sample.false in
    let l = c.loop-place-test.true in (
      λ f. absurd (false≢true f),
      λ are. absurd (false≢true (sym c.if-not-is_of_kind.true ∙ c.is_of_kind.ensures.1 (told_by_values c.args.vars.now c.args.sample.now c.loop-place.place c.index-vars-place.result view.Missing (omega (arith, long, l)) l are))),
    )

pub loop-place-preserved : goal.loop-place-preserved
loop-place-preserved c =
    let vars = c.args.vars.now in
    let sample = c.args.sample.now in
    let place = c.loop-place.place in
    let long = c.if-vars-sample.false in
    let m = c.loop-place-test.true in
    λ k d e l. elim (cases_lt k place) as (λ _. IsOfKind (get_or vars k d).kind (get_or (values_of sample) k e)) [
      | inl below ↦ c.loop-place.invariant k d e below
      | inr up ↦
          let same : place ≡ k = omega (arith, l, up) in
          subst (λ n. IsOfKind (get_or vars n d).kind (get_or (values_of sample) n e)) same
          (told_by_views vars sample place c.index-vars-place.result view.Missing (omega (arith, long, m)) m d e (c.is_of_kind.ensures.0 c.if-not-is_of_kind.false))
    ]

pub returns : goal.returns
returns c =
    let vars = c.args.vars.now in
    let sample = c.args.sample.now in
    let shown = length-map sample value_of in
    let long = c.if-vars-sample.false in
    let past = c.loop-place-test.false in
    (λ t. of_each vars (values_of sample) (omega (arith, shown, long)) (λ k d e l. c.loop-place.invariant k d e (omega (arith, long, past, l))), λ are. refl)
