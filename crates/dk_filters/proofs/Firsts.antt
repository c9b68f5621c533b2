-- Facts that look at first variables.
use Rattle.std.specs.Prelude.{◌≡◌, ◌&&◌, ◌==◌, nat_lt, not, Bool, All, List, [], ◌∷◌, length, refl}
use Rattle.std.specs.List.{list_any}
use Rattle.std.proofs.Common.{ap, ◌∙◌}
use Rattle.std.proofs.lemmas.List.Elements.{All-head, All-tail}
use Rattle.dk_base.specs.declared.kinds.VarId.{VarId}
use Rattle.dk_template.specs.declared.grammar.RowId.{RowId}
use Rattle.dk_filters.proofs.Lists.{any-same}
use Rattle.dk_filters.specs.Facts.{equalities, is_constant_instance_by, is_further_member_by, is_one_of, tells_member_by}

-- Where two tell the same of the variables, the facts are the same.
module _ (f g : VarId → VarId) (P : VarId → Type 0) (same : (v : VarId) → P v → f v ≡ g v) where
  tells-same : (r : RowId) (vars : List VarId) → All P vars → tells_member_by f r vars ≡ tells_member_by g r vars
  tells-same r [] all = refl
  tells-same r (v ∷ []) all = refl
  tells-same r (v ∷ w ∷ []) all = ap (λ (u : VarId). is_one_of equalities r && u.0 == v.0) (same w (All-head P w [] (All-tail P v (w ∷ []) all)))
  tells-same r (v ∷ w ∷ x ∷ vars) all = refl

  pub member-same : (r : RowId) (vars : List VarId) → All P vars → is_further_member_by f r vars ≡ is_further_member_by g r vars
  member-same r vars all =
      ap (λ t. not t && list_any (λ v. not ((f v).0 == v.0)) vars) (tells-same r vars all)
      ∙ ap (λ t. not (tells_member_by g r vars) && t) (any-same P (λ v. not ((f v).0 == v.0)) (λ v. not ((g v).0 == v.0)) (λ v p. ap (λ (u : VarId). not (u.0 == v.0)) (same v p)) vars all)

  pub constant-same : (one two : VarId → Bool) → ((v : VarId) → P v → one v ≡ two v) → (r : RowId) (vars : List VarId) → All P vars → is_constant_instance_by f one r vars ≡ is_constant_instance_by g two r vars
  constant-same one two ones r vars all =
      ap (λ t. nat_lt 1 (length vars) && (not t && list_any one vars)) (tells-same r vars all)
      ∙ ap (λ t. nat_lt 1 (length vars) && (not (tells_member_by g r vars) && t)) (any-same P one two ones vars all)
