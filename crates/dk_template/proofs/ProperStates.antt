-- The proper states of each form keep the laws of a join.
use Rattle.std.specs.Prelude.{◌<◌, ◌^◌, ℕ, ℤ, true, false, List, [], ◌∷◌, length, All, IsTrue, Option, Some, None, IfSome, unsigned_abs, nat_le, if◌then◌else◌}
use Rattle.std.specs.List.{list_all}
use Rattle.std.specs.Ordering.{int_eq, nat_cmp}
use Rattle.std.specs.Cmp.Lexicographic.{slice_cmp}
use Rattle.std.specs.declared.cmp.Ordering.{Ordering}
use Rattle.std.specs.declared.cmp.Ordering.TheVariants.{Less, Equal, Greater}
use Rattle.std.proofs.Common.{arith}
use Rattle.std.proofs.lemmas.List.Elements.{All-cons, All-head, All-tail}
use Rattle.dk_base.specs.Values.Items.{is_text}
use Rattle.dk_forms.proofs.CodeLaws.{code_laws}
use Rattle.dk_forms.proofs.GreatestLaws.{greatest_laws}
use Rattle.dk_forms.proofs.IntsLaws.{ints_laws}
use Rattle.dk_forms.proofs.LeastLaws.{least_laws}
use Rattle.dk_forms.proofs.LineLaws.{line_laws}
use Rattle.dk_forms.proofs.ModulusLaws.{modulus_laws}
use Rattle.dk_forms.proofs.OffsetLaws.{offset_laws}
use Rattle.dk_forms.proofs.PlainLaws.{plain_laws}
use Rattle.dk_forms.proofs.PlaneLaws.{plane_laws}
use Rattle.dk_forms.proofs.TextsLaws.{texts_laws}
use Rattle.dk_forms.proofs.TruthLaws.{truth_laws}
use Rattle.dk_forms.specs.Known.{broken, fact}
use Rattle.dk_forms.specs.Known.Distinct.{by_order, put, put_all, distinct}
use Rattle.dk_forms.specs.Laws.{JoinLaws}
use Rattle.dk_forms.specs.Offset.{offset_join, offset_of, offset_state, is_difference}
use Rattle.dk_forms.specs.Texts.{texts_join, texts_of, texts_state}
use Rattle.dk_forms.specs.declared.states.State.{State}
use Rattle.dk_forms.specs.declared.states.State.TheVariants as state
use Rattle.dk_template.specs.Joins.{joined}
use Rattle.dk_template.specs.Proper.{AreStrings, IsDifference, IsProper}
use Rattle.dk_template.specs.declared.templates.StateForm.{StateForm}
use Rattle.dk_template.specs.declared.templates.StateForm.TheVariants.{Plain, Least, Greatest as GreatestForm, Ints, Truth, Code, Texts, Modulus, Line, Plane, Offset}

-- the laws of a join over fewer states, where these are closed too
restricted : {S : Type 0} {P Q : S → Type 0} {empty broken : S} {join : S → S → S} → JoinLaws P empty broken join → Q empty → Q broken
    → ((a b : S) → Q a → Q b → Q (join a b)) → JoinLaws (λ s. P s × Q s) empty broken join
restricted laws e b closed = record {
  empty_proper = (laws.empty_proper, e);
  broken_proper = (laws.broken_proper, b);
  closed = λ x y p q. (laws.closed x y p.0 q.0, closed x y p.1 q.1);
  assoc = λ x y z p q r. laws.assoc x y z p.0 q.0 r.0;
  comm = λ x y p q. laws.comm x y p.0 q.0;
  idem = λ x p. laws.idem x p.0;
  neutral = λ x p. laws.neutral x p.0;
  absorbs = λ x p. laws.absorbs x p.0;
}

-- ---- texts
module _ {K : Type 0} (R : K → K → Ordering) (P : K → Type 0) where
  put_keeps : (x : K) (ys : List K) → P x → All P ys → All P (put R x ys)
  unfolding put
  put_keeps x [] p all = All-cons P x [] p all
  put_keeps x (y ∷ ys) p all =
      elim (R x y) as (λ r. All P (by_order r (x ∷ y ∷ ys) (y ∷ ys) (y ∷ put R x ys))) [
        | Less ↦ All-cons P x (y ∷ ys) p all
        | Equal ↦ all
        | Greater ↦ All-cons P y (put R x ys) (All-head P y ys all) (put_keeps x ys p (All-tail P y ys all))
      ]

  put_all_keeps : (xs ys : List K) → All P xs → All P ys → All P (put_all R xs ys)
  put_all_keeps [] ys a b = b
  put_all_keeps (x ∷ xs) ys a b = put_keeps x (put_all R xs ys) (All-head P x xs a) (put_all_keeps xs ys (All-tail P x xs a) b)

abbrev IsString : List ℕ → Type 0
IsString t = IsTrue (is_text t)

strings_at_most : (texts : List (List ℕ)) → All IsString texts → AreStrings (texts_state (if nat_le (length texts) 3 then fact texts else broken))
strings_at_most texts all = elim (nat_le (length texts) 3) as (λ b. AreStrings (texts_state (if b then fact texts else broken))) [ true ↦ all | false ↦ tt ]

strings_joined : (a b : State) → AreStrings a → AreStrings b → AreStrings (texts_join a b)
strings_joined state.Empty state.Empty p q = tt
strings_joined state.Empty (state.Texts t) p q = q
strings_joined state.Empty _ p q = tt
strings_joined (state.Texts s) state.Empty p q = p
strings_joined (state.Texts s) (state.Texts t) p q = strings_at_most (put_all (slice_cmp nat_cmp) s t) (put_all_keeps (slice_cmp nat_cmp) IsString s t p q)
strings_joined (state.Texts s) _ p q = tt
strings_joined _ b p q = tt

-- the state of strings is one of strings
pub texts_of_strings : (texts : List (List ℕ)) → All IsString texts → AreStrings (texts_of texts)
texts_of_strings [] all = tt
texts_of_strings (t ∷ ts) all =
    strings_at_most (distinct (slice_cmp nat_cmp) (t ∷ ts)) (put_all_keeps (slice_cmp nat_cmp) IsString (t ∷ ts) [] all (λ i d h. absurd (omega (arith, h))))

-- ---- offsets
offset_joined : (a b : State) → IsDifference a → IsDifference b → IsDifference (offset_join a b)
offset_joined state.Empty state.Empty p q = tt
offset_joined state.Empty (state.Offset l) p q = q
offset_joined state.Empty _ p q = tt
offset_joined (state.Offset k) state.Empty p q = p
offset_joined (state.Offset k) (state.Offset l) p q = elim (int_eq k l) as (λ b. IsDifference (offset_state (if b then fact k else broken))) [ true ↦ p | false ↦ tt ]
offset_joined (state.Offset k) _ p q = tt
offset_joined _ b p q = tt

-- the state of differences is one
pub offset_of_differences : (ds : List (Option ℤ)) → All (λ d. IfSome d (λ k. unsigned_abs k < 2 ^ 64)) ds → IsDifference (offset_of ds)
offset_of_differences [] all = tt
offset_of_differences (None ∷ ds) all = tt
offset_of_differences (Some k ∷ ds) all =
    let p : unsigned_abs k < 2 ^ 64 = All-head (λ d. IfSome d (λ k. unsigned_abs k < 2 ^ 64)) (Some k) ds all in
    elim (list_all (is_difference k) ds) as (λ b. IsDifference (offset_state (if b then fact k else broken))) [ true ↦ p | false ↦ tt ]

-- ---- all forms
pub proper_laws : (form : StateForm) → JoinLaws (IsProper form) state.Empty state.Broken (joined form)
proper_laws Plain = plain_laws
proper_laws Least = least_laws
proper_laws GreatestForm = greatest_laws
proper_laws Ints = ints_laws
proper_laws Truth = truth_laws
proper_laws Code = code_laws
proper_laws Texts = restricted {Q = AreStrings} texts_laws tt tt strings_joined
proper_laws Modulus = modulus_laws
proper_laws Line = line_laws
proper_laws Plane = plane_laws
proper_laws Offset = restricted {Q = IsDifference} offset_laws tt tt offset_joined
