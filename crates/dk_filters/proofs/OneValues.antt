-- The row that says which values a scalar has admits it.
use Rattle.std.specs.Prelude.{◌≡◌, ◌<◌, ◌&&◌, true, List, [], ◌∷◌, length, slice_get, Some, refl}
use Rattle.std.proofs.Common.{ap, arith, subst, ◌∙◌}
use Rattle.dk_base.specs.declared.kinds.Kind.{Kind}
use Rattle.dk_base.specs.declared.kinds.Kind.TheVariants as kind
use Rattle.dk_base.specs.declared.kinds.VarId.{VarId}
use Rattle.dk_base.specs.declared.kinds.VarInfo.{VarInfo}
use Rattle.dk_template.specs.Admitted.{admits, same_kind, suits}
use Rattle.dk_template.specs.Templates.{IsRowOf, rows}
use Rattle.dk_template.specs.declared.grammar.Grammar.{Grammar}
use Rattle.dk_template.specs.declared.grammar.RowId.{RowId}
use Rattle.dk_template.specs.declared.templates.Role.TheVariants.{Any}
use Rattle.dk_filters.proofs.Lists.{get-at}
use Rattle.dk_filters.proofs.Sharper.{row-of}
use Rattle.dk_filters.specs.Facts.{info_at, one_of_row_for, row_of_number}

same-kind-self : (k : Kind) → same_kind k k ≡ true
same-kind-self kind.Bool = refl
same-kind-self kind.Int = refl
same-kind-self kind.Hash = refl
same-kind-self kind.Str = refl
same-kind-self kind.BoolSeq = refl
same-kind-self kind.IntSeq = refl
same-kind-self kind.HashSeq = refl
same-kind-self kind.StrSeq = refl

module _ (infos : List VarInfo) (v : VarId) (within : v.0 < length infos) where
  pub suits-any : (k : Kind) → (info_at infos v).kind ≡ k → suits (Any k) (slice_get infos v.0) ≡ true
  suits-any k is =
      ap (suits (Any k)) (get-at infos v.0 (info_at [] v) within)
      ∙ ap (λ l. same_kind l k && true) is
      ∙ ap (λ t. t && true) (same-kind-self k)

  by-kind : (k : Kind) → (info_at infos v).kind ≡ k → (r : RowId) → one_of_row_for k ≡ Some r → admits r infos (v ∷ []) ≡ true
  unfolding rows
  by-kind kind.Int is r e = let same : row_of_number 1 ≡ r = cc e in subst (λ s. admits s infos (v ∷ []) ≡ true) same (ap (λ t. t && true) (suits-any kind.Int is))
  by-kind kind.Bool is r e = let same : row_of_number 6 ≡ r = cc e in subst (λ s. admits s infos (v ∷ []) ≡ true) same (ap (λ t. t && true) (suits-any kind.Bool is))
  by-kind kind.Hash is r e = let same : row_of_number 7 ≡ r = cc e in subst (λ s. admits s infos (v ∷ []) ≡ true) same (ap (λ t. t && true) (suits-any kind.Hash is))
  by-kind kind.Str is r e = let same : row_of_number 9 ≡ r = cc e in subst (λ s. admits s infos (v ∷ []) ≡ true) same (ap (λ t. t && true) (suits-any kind.Str is))
  by-kind kind.BoolSeq is r e = absurd (cc)
  by-kind kind.IntSeq is r e = absurd (cc)
  by-kind kind.HashSeq is r e = absurd (cc)
  by-kind kind.StrSeq is r e = absurd (cc)

  pub one_of_admits : (r : RowId) → one_of_row_for (info_at infos v).kind ≡ Some r → admits r infos (v ∷ []) ≡ true
  one_of_admits r e = by-kind (info_at infos v).kind refl r e

pub one_of_row_of : (g : Grammar) (k : Kind) (r : RowId) → one_of_row_for k ≡ Some r → IsRowOf g r
one_of_row_of g kind.Int r e = let same : row_of_number 1 ≡ r = cc e in subst (IsRowOf g) same (row-of g 1 (omega arith) (omega arith))
one_of_row_of g kind.Bool r e = let same : row_of_number 6 ≡ r = cc e in subst (IsRowOf g) same (row-of g 6 (omega arith) (omega arith))
one_of_row_of g kind.Hash r e = let same : row_of_number 7 ≡ r = cc e in subst (IsRowOf g) same (row-of g 7 (omega arith) (omega arith))
one_of_row_of g kind.Str r e = let same : row_of_number 9 ≡ r = cc e in subst (IsRowOf g) same (row-of g 9 (omega arith) (omega arith))
one_of_row_of g kind.BoolSeq r e = absurd (cc)
one_of_row_of g kind.IntSeq r e = absurd (cc)
one_of_row_of g kind.HashSeq r e = absurd (cc)
one_of_row_of g kind.StrSeq r e = absurd (cc)
