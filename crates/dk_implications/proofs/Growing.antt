-- Which samples a half has.
use Rattle.std.specs.Prelude.{◌≡◌, ◌++◌, Bool, true, false, List, [], ◌∷◌, if◌then◌else◌, refl}
use Rattle.std.specs.Bool.{beq}
use Rattle.std.proofs.Common.{◌∙◌, ap, append-nil}
use Rattle.std.proofs.lemmas.Bool.{false≢true}
use Rattle.std.proofs.lemmas.List.Elements.{filter-append}
use Rattle.dk_base.specs.declared.values.Value.{Value}
use Rattle.dk_base.specs.declared.values.Value.TheVariants as value
use Rattle.dk_instances.proofs.Members.{contained, in_filter, is_in, of_filter}
use Rattle.dk_samples.specs.Samples.{value_in}
use Rattle.dk_implications.specs.Halves.{half_of, is_truth}
use Rattle.dk_implications.specs.Laws.{HalvesGrowOneByOne, HalvesHaveTheirSamples}

same_truths : (b c : Bool) → beq b c ≡ true → b ≡ c
same_truths true true e = refl
same_truths true false e = absurd (false≢true e)
same_truths false true e = absurd (false≢true e)
same_truths false false e = refl

same_itself : (b : Bool) → beq b b ≡ true
same_itself true = refl
same_itself false = refl

-- what passes the test is that truth value
truth_is : (truth : Bool) (v : Value) → is_truth truth v ≡ true → v ≡ value.Bool truth
truth_is truth (value.Bool b) e = ap (λ c. value.Bool c) (same_truths b truth e)
truth_is truth value.Missing e = absurd (false≢true e)
truth_is truth (value.Int z) e = absurd (false≢true e)
truth_is truth (value.Hash n) e = absurd (false≢true e)
truth_is truth (value.Str s) e = absurd (false≢true e)
truth_is truth (value.BoolSeq s) e = absurd (false≢true e)
truth_is truth (value.IntSeq s) e = absurd (false≢true e)
truth_is truth (value.HashSeq s) e = absurd (false≢true e)
truth_is truth (value.StrSeq s) e = absurd (false≢true e)

pub halves_have_their_samples : HalvesHaveTheirSamples
halves_have_their_samples samples b truth s =
    let p : List Value → Bool = λ t. is_truth truth (value_in t b) in (
      λ has.
          let is = of_filter p s samples (is_in s (half_of samples b truth) has.0 has.1 has.2) in
          (contained s samples is.0, truth_is truth (value_in s b) is.1),
      λ is.
          contained s (half_of samples b truth)
          (in_filter p s samples (is_in s samples is.0.0 is.0.1 is.0.2) (ap (is_truth truth) is.1 ∙ same_itself truth)),
    )

pub halves_grow_one_by_one : HalvesGrowOneByOne
halves_grow_one_by_one samples b truth s =
    let p : List Value → Bool = λ t. is_truth truth (value_in t b) in
    let half = half_of samples b truth in
    filter-append p samples (s ∷ [])
    ∙ elim (p s) as (λ c. half ++ (if c then s ∷ [] else []) ≡ (if c then half ++ s ∷ [] else half)) [ true ↦ refl | false ↦ append-nil half ]
