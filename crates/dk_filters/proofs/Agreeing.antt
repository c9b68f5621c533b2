-- Agreement by a test.
use Rattle.std.specs.Prelude.{◌≡◌, Bool, true, All, List, [], ◌∷◌, refl}
use Rattle.std.specs.Bool.{Decides}
use Rattle.std.specs.List.{list_all}
use Rattle.std.proofs.Common.{ap, ◌∙◌, sym}
use Rattle.std.proofs.lemmas.Bool.{and_from, and_parts, false≢true}
use Rattle.std.proofs.lemmas.List.Elements.{All-cons, All-head, All-nil, All-tail}
use Rattle.dk_base.specs.declared.kinds.Kind.{Kind}
use Rattle.dk_base.specs.declared.kinds.Kind.TheVariants as kind
use Rattle.dk_base.specs.declared.values.Value.{Value}
use Rattle.dk_base.proofs.ValueTests.{same_value-decides}
use Rattle.dk_base.specs.Values.SameValues.{same_value}
use Rattle.dk_samples.specs.Samples.{value_in}
use Rattle.dk_template.specs.Admitted.{same_kind}
use Rattle.dk_filters.specs.Facts.{info_at}
use Rattle.dk_filters.specs.Laws.{AgreesIsAgreement}

kind-same : (k l : Kind) → same_kind k l ≡ true → k ≡ l
kind-same kind.Bool kind.Bool h = refl
kind-same kind.Int kind.Int h = refl
kind-same kind.Hash kind.Hash h = refl
kind-same kind.Str kind.Str h = refl
kind-same kind.BoolSeq kind.BoolSeq h = refl
kind-same kind.IntSeq kind.IntSeq h = refl
kind-same kind.HashSeq kind.HashSeq h = refl
kind-same kind.StrSeq kind.StrSeq h = refl
kind-same _ _ h = absurd (false≢true h)

kind-itself : (k : Kind) → same_kind k k ≡ true
kind-itself kind.Bool = refl
kind-itself kind.Int = refl
kind-itself kind.Hash = refl
kind-itself kind.Str = refl
kind-itself kind.BoolSeq = refl
kind-itself kind.IntSeq = refl
kind-itself kind.HashSeq = refl
kind-itself kind.StrSeq = refl

module _ {A : Type 0} (test : A → Bool) (P : A → Type 0) (tells : (x : A) → Decides (test x) (P x)) where
  all-told : (xs : List A) → list_all test xs ≡ true → All P xs
  all-told [] h = All-nil P
  all-told (x ∷ xs) h = let hs = and_parts (test x) (list_all test xs) h in All-cons P x xs ((tells x).0 hs.0) (all-told xs hs.1)

  told-all : (xs : List A) → All P xs → list_all test xs ≡ true
  told-all [] all = refl
  told-all (x ∷ xs) all = and_from (test x) (list_all test xs) ((tells x).1 (All-head P x xs all)) (told-all xs (All-tail P x xs all))

pub agrees_is_agreement : AgreesIsAgreement
agrees_is_agreement infos samples v w = (
  λ h.
      let hs = and_parts (same_kind (info_at infos v).kind (info_at infos w).kind) (list_all (λ s. same_value (value_in s v) (value_in s w)) samples) h in
      (kind-same (info_at infos v).kind (info_at infos w).kind hs.0, all-told test Same tells samples hs.1),
  λ a. and_from (same_kind (info_at infos v).kind (info_at infos w).kind) (list_all test samples)
      (ap (same_kind (info_at infos v).kind) (sym a.0) ∙ kind-itself (info_at infos v).kind) (told-all test Same tells samples a.1),
)
  where
    test : List Value → Bool
    test s = same_value (value_in s v) (value_in s w)

    Same : List Value → Type 0
    Same s = value_in s v ≡ value_in s w

    tells : (s : List Value) → Decides (same_value (value_in s v) (value_in s w)) (value_in s v ≡ value_in s w)
    tells s = same_value-decides (value_in s v) (value_in s w)
