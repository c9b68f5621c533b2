-- Tuples of variables that a row admits are tuples of its kinds.
use Rattle.std.specs.Prelude.{◌≡◌, ◌==◌, ◌||◌, ℕ, zero, suc, true, not, All, List, [], ◌∷◌, Some, length, map, refl, slice_get, zip}
use Rattle.std.specs.List.{AllZip, list_all}
use Rattle.std.proofs.Common.{ap, ◌∙◌, arith, sym, subst, get_or, inl, inr}
use Rattle.std.proofs.lemmas.Bool.{and_parts, cases_lt, eqb-true, false≢true}
use Rattle.std.proofs.lemmas.List.{get_or_past, length-map}
use Rattle.std.proofs.lemmas.List.Elements.{All-filter, All-map, filter_passes}
use Rattle.dk_base.specs.Shapes.{is_base_form}
use Rattle.dk_base.specs.Values.{IsOfKind, kind_of}
use Rattle.dk_base.specs.Values.Spelling.{IsWritten}
use Rattle.dk_base.specs.Values.Tuples.{value_at}
use Rattle.dk_base.specs.declared.kinds.Kind.{Kind}
use Rattle.dk_base.specs.declared.kinds.Kind.TheVariants as kind
use Rattle.dk_base.specs.declared.kinds.VarId.{VarId}
use Rattle.dk_base.specs.declared.kinds.VarInfo.{VarInfo}
use Rattle.dk_base.specs.declared.values.Value.{Value}
use Rattle.dk_base.specs.declared.values.Value.TheVariants as value
use Rattle.dk_instances.specs.Fits.{fit, is_whole, tuple_in, tuples_of}
use Rattle.dk_instances.specs.Laws.{FitsAreProper, IsSample}
use Rattle.dk_meanings.proofs.RowLaws.{laws_of}
use Rattle.dk_samples.specs.Samples.{is_present, value_in}
use Rattle.dk_template.specs.Admitted.{admits, same_kind, suits}
use Rattle.dk_template.specs.Rows.{IsTuple}
use Rattle.dk_template.specs.Templates.{is_base, kind_of as kind_of_role, role_kinds, roles_of, template_of}
use Rattle.dk_template.specs.declared.grammar.RowId.{RowId}
use Rattle.dk_template.specs.declared.templates.Role.{Role}

-- ---- one value
pub kind_alike : (k l : Kind) → same_kind k l ≡ true → k ≡ l
kind_alike kind.Bool kind.Bool e = refl
kind_alike kind.Int kind.Int e = refl
kind_alike kind.Hash kind.Hash e = refl
kind_alike kind.Str kind.Str e = refl
kind_alike kind.BoolSeq kind.BoolSeq e = refl
kind_alike kind.IntSeq kind.IntSeq e = refl
kind_alike kind.HashSeq kind.HashSeq e = refl
kind_alike kind.StrSeq kind.StrSeq e = refl
kind_alike _ _ e = absurd (false≢true e)

-- a value of a kind that isn't missing has the kind
pub kind_is : (x : Value) (k : Kind) → is_present x ≡ true → IsOfKind k x → kind_of x ≡ Some k
kind_is value.Missing k p h = absurd (false≢true p)
kind_is (value.Bool b) k p h = ap (λ l. Some l) h
kind_is (value.Int z) k p h = ap (λ l. Some l) h
kind_is (value.Hash n) k p h = ap (λ l. Some l) h
kind_is (value.Str s) k p h = ap (λ l. Some l) h
kind_is (value.BoolSeq bs) k p h = ap (λ l. Some l) h
kind_is (value.IntSeq zs) k p h = ap (λ l. Some l) h
kind_is (value.HashSeq ns) k p h = ap (λ l. Some l) h
kind_is (value.StrSeq ss) k p h = ap (λ l. Some l) h

-- the value of a variable that suits a role
abbrev OfKinds : List VarInfo → List Value → Type 0
OfKinds infos sample = AllZip (λ (info : VarInfo) x. IsOfKind info.kind x) infos sample

role_kind : (role : Role) (infos : List VarInfo) (sample : List Value) (n : ℕ) → OfKinds infos sample → suits role (slice_get infos n) ≡ true → is_present (value_at sample n) ≡ true → kind_of (value_at sample n) ≡ Some (kind_of_role role)
role_kind role [] sample n h s p = absurd (false≢true s)
role_kind role (info ∷ infos) [] n h s p = absurd h
role_kind role (info ∷ infos) (x ∷ sample) zero h s p =
    kind_is x info.kind p h.0 ∙ ap (λ k. Some k) (kind_alike info.kind (kind_of_role role) (and_parts (same_kind info.kind (kind_of_role role)) (not (is_base role) || is_base_form info.form) s).0)
role_kind role (info ∷ infos) (x ∷ sample) (suc n) h s p = role_kind role infos sample n h.1 s p

-- ---- a tuple
module _ (infos : List VarInfo) (sample : List Value) (is : IsSample infos sample) where
  kinds : (roles : List Role) (vars : List VarId) → length vars ≡ length roles → list_all (λ (p : Role × VarId). suits p.0 (slice_get infos p.1.0)) (zip roles vars) ≡ true → is_whole (tuple_in vars sample) ≡ true
      → (role : ℕ) → kind_of (value_at (tuple_in vars sample) role) ≡ slice_get (map kind_of_role roles) role
  kinds [] [] e s w n = refl
  kinds [] (v ∷ vars) e s w n = absurd (omega (arith, e))
  kinds (r ∷ roles) [] e s w n = absurd (omega (arith, e))
  kinds (r ∷ roles) (v ∷ vars) e s w zero =
      let s0 = and_parts (suits r (slice_get infos v.0)) (list_all (λ (p : Role × VarId). suits p.0 (slice_get infos p.1.0)) (zip roles vars)) s in
      let w0 = and_parts (is_present (value_in sample v)) (is_whole (tuple_in vars sample)) w in
      role_kind r infos sample v.0 is.kinds s0.0 w0.0
  kinds (r ∷ roles) (v ∷ vars) e s w (suc n) =
      let s0 = and_parts (suits r (slice_get infos v.0)) (list_all (λ (p : Role × VarId). suits p.0 (slice_get infos p.1.0)) (zip roles vars)) s in
      let w0 = and_parts (is_present (value_in sample v)) (is_whole (tuple_in vars sample)) w in
      kinds roles vars (omega (arith, e)) s0.1 w0.1 n

  written : (v : VarId) → IsWritten (value_in sample v)
  written v = elim (cases_lt v.0 (length sample)) [
    | inl l ↦ is.written v.0 value.Missing l
    | inr n ↦ subst IsWritten (sym (get_or_past sample v.0 value.Missing n)) tt
  ]

  pub is_tuple : (row : RowId) (vars : List VarId) → admits row infos vars ≡ true → is_whole (tuple_in vars sample) ≡ true → IsTuple (role_kinds row) (tuple_in vars sample)
  is_tuple row vars a w =
      let roles = roles_of (template_of row).takes in
      let parts = and_parts (length vars == length roles) (list_all (λ (p : Role × VarId). suits p.0 (slice_get infos p.1.0)) (zip roles vars)) a in
      let long = eqb-true (length vars) (length roles) parts.0 in
      record {
        arity = length-map vars (value_in sample) ∙ (long ∙ sym (length-map roles kind_of_role));
        each = kinds roles vars long parts.1 w;
        written = All-map IsWritten (value_in sample) vars (λ k d l. written (get_or vars k d));
      }

-- ---- the tuples in samples
pub are_tuples : (row : RowId) (infos : List VarInfo) (vars : List VarId) → admits row infos vars ≡ true → (samples : List (List Value)) → All (IsSample infos) samples → All (IsTuple (role_kinds row)) (tuples_of vars samples)
are_tuples row infos vars a samples all =
    let P : List Value → Type 0 = λ t. is_whole t ≡ true → IsTuple (role_kinds row) t in
    let each : All P (map (tuple_in vars) samples) = All-map P (tuple_in vars) samples (λ k d l w. is_tuple infos (get_or samples k d) (all k d l) row vars a w) in
    let kept : All P (tuples_of vars samples) = All-filter is_whole P (map (tuple_in vars) samples) each in
    λ k d l. kept k d l (filter_passes is_whole (map (tuple_in vars) samples) k d l)

pub fit_is_proper : FitsAreProper
unfolding fit
fit_is_proper row is infos vars a samples all = (laws_of row is).proper (tuples_of vars samples) (are_tuples row infos vars a samples all)
