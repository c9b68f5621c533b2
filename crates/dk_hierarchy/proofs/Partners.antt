-- What a row takes of variables it takes of their partners.
use Rattle.std.specs.Prelude.{◌≡◌, ◌<◌, ◌==◌, ◌&&◌, ◌||◌, ℕ, zero, suc, true, not, IsSomeAnd, List, [], ◌∷◌, length, refl, slice_get, zip, Option, Some, None, option_and_then, option_map}
use Rattle.std.specs.List.{list_all}
use Rattle.std.proofs.Common.{◌∙◌, ap, subst, sym}
use Rattle.std.proofs.lemmas.Bool.{and_from, and_parts}
use Rattle.std.proofs.lemmas.List.Elements.{All-cons, All-nil}
use Rattle.std.proofs.lemmas.Option.{slice_get_within}
use Rattle.dk_base.specs.Shapes.{is_base_form}
use Rattle.dk_base.specs.declared.kinds.VarId.{VarId}
use Rattle.dk_base.specs.declared.kinds.VarInfo.{VarInfo}
use Rattle.dk_classes.specs.Classes.{kind_at, var_kinds}
use Rattle.dk_derive.specs.Laws.{IsAlike}
use Rattle.dk_graph.proofs.Places.{some-injective}
use Rattle.dk_template.specs.Admitted.{admits, same_kind, suits}
use Rattle.dk_template.specs.Premises.{AreThere}
use Rattle.dk_template.specs.Templates.{is_base, kind_of, roles_of, template_of}
use Rattle.dk_template.specs.declared.grammar.RowId.{RowId}
use Rattle.dk_template.specs.declared.templates.Role.{Role}
use Rattle.dk_hierarchy.proofs.Mapped.{found}
use Rattle.dk_hierarchy.specs.Edges.{ArePartners, partner_at, partners_at}

-- ---- tuples of partners
-- of variables that all have partners, the first's and the others'
abbrev pub AreFirstAndRest : List (Option VarId) → VarId → List VarId → List VarId → Type 0
AreFirstAndRest partners v vars there = (w : VarId) × (rest : List VarId) × (partner_at partners v ≡ Some w) × (partners_at partners vars ≡ Some rest) × (there ≡ w ∷ rest)

pub first_and_rest : (partners : List (Option VarId)) (v : VarId) (vars there : List VarId) → partners_at partners (v ∷ vars) ≡ Some there → AreFirstAndRest partners v vars there
first_and_rest partners v vars there is = go (partner_at partners v) refl (partners_at partners vars) refl is
  where
    go : (o : Option VarId) → partner_at partners v ≡ o → (r : Option (List VarId)) → partners_at partners vars ≡ r
        → option_and_then (λ w. option_map (λ rest. w ∷ rest) r) o ≡ Some there → AreFirstAndRest partners v vars there
    go None first r others e = absurd (cc)
    go (Some w) first None others e = absurd (cc)
    go (Some w) first (Some rest) others e = (w, rest, first, others, sym (some-injective e))

module _ (infos there : List VarInfo) (partners : List (Option VarId)) (are : ArePartners infos there partners) where
  -- a variable and its partner, as they are declared
  abbrev pub AreBoth : VarId → VarId → Type 0
  AreBoth v w = (a : VarInfo) × (b : VarInfo) × (slice_get infos v.0 ≡ Some a) × (slice_get there w.0 ≡ Some b) × IsAlike a b

  pub both : (v w : VarId) → partner_at partners v ≡ Some w → AreBoth v w
  both v w is =
      let here = found (λ a. IsSomeAnd (slice_get there w.0) (IsAlike a)) (slice_get infos v.0) (are.alike v w is) in
      let child = found (IsAlike here.0) (slice_get there w.0) here.2 in
      (here.0, child.0, here.1, child.1, child.2)

  pub partner_there : (v w : VarId) → partner_at partners v ≡ Some w → w.0 < length there
  partner_there v w is = let b = both v w is in slice_get_within there w.0 b.1 b.3

  pub partners_there : (vars ws : List VarId) → partners_at partners vars ≡ Some ws → AreThere there ws
  partners_there [] ws is = subst (AreThere there) (some-injective is) (All-nil (λ (w : VarId). w.0 < length there))
  partners_there (v ∷ vars) ws is =
      let parts = first_and_rest partners v vars ws is in
      subst (AreThere there) (sym parts.4) (All-cons (λ (w : VarId). w.0 < length there) parts.0 parts.1 (partner_there v parts.0 parts.2) (partners_there vars parts.1 parts.3))

  pub partners_long : (vars ws : List VarId) → partners_at partners vars ≡ Some ws → length ws ≡ length vars
  partners_long [] ws is = ap length (sym (some-injective is))
  partners_long (v ∷ vars) ws is =
      let parts = first_and_rest partners v vars ws is in
      ap length parts.4 ∙ ap suc (partners_long vars parts.1 parts.3)

  -- ---- kinds
  pub partner_kind : (v w : VarId) → partner_at partners v ≡ Some w → kind_at (var_kinds infos) v.0 ≡ kind_at (var_kinds there) w.0
  partner_kind v w is =
      let b = both v w is in
      kind_got infos v.0 b.0 b.2 ∙ (b.4.0 ∙ sym (kind_got there w.0 b.1 b.3))
    where
      kind_got : (is : List VarInfo) (n : ℕ) (a : VarInfo) → slice_get is n ≡ Some a → kind_at (var_kinds is) n ≡ a.kind
      kind_got [] n a at = absurd (cc)
      kind_got (i ∷ is) zero a at = ap (λ (x : VarInfo). x.kind) (some-injective at)
      kind_got (i ∷ is) (suc n) a at = kind_got is n a at

  -- ---- roles
  suited : (role : Role) (v w : VarId) → partner_at partners v ≡ Some w → suits role (slice_get infos v.0) ≡ true → suits role (slice_get there w.0) ≡ true
  suited role v w is h =
      let b = both v w is in
      ap (suits role) b.3
      ∙ (ap (λ k. same_kind k (kind_of role) && (not (is_base role) || is_base_form b.1.form)) (sym b.4.0)
      ∙ (ap (λ f. same_kind b.0.kind (kind_of role) && (not (is_base role) || f)) (sym b.4.1)
      ∙ (ap (suits role) (sym b.2) ∙ h)))

  all_suited : (roles : List Role) (vars ws : List VarId) → partners_at partners vars ≡ Some ws
      → list_all (λ (p : Role × VarId). suits p.0 (slice_get infos p.1.0)) (zip roles vars) ≡ true → list_all (λ (p : Role × VarId). suits p.0 (slice_get there p.1.0)) (zip roles ws) ≡ true
  all_suited [] vars ws is h = refl
  all_suited (role ∷ roles) [] ws is h = ap (λ us. list_all (λ (p : Role × VarId). suits p.0 (slice_get there p.1.0)) (zip (role ∷ roles) us)) (sym (some-injective is))
  all_suited (role ∷ roles) (v ∷ vars) ws is h =
      let parts = first_and_rest partners v vars ws is in
      let hs = and_parts (suits role (slice_get infos v.0)) (list_all (λ (p : Role × VarId). suits p.0 (slice_get infos p.1.0)) (zip roles vars)) h in
      ap (λ us. list_all (λ (p : Role × VarId). suits p.0 (slice_get there p.1.0)) (zip (role ∷ roles) us)) parts.4
      ∙ and_from (suits role (slice_get there parts.0.0)) (list_all (λ (p : Role × VarId). suits p.0 (slice_get there p.1.0)) (zip roles parts.1))
      (suited role v parts.0 parts.2 hs.0) (all_suited roles vars parts.1 parts.3 hs.1)

  pub partners_admitted : (row : RowId) (vars ws : List VarId) → partners_at partners vars ≡ Some ws → admits row infos vars ≡ true → admits row there ws ≡ true
  partners_admitted row vars ws is h =
      let roles = roles_of (template_of row).takes in
      let hs = and_parts (length vars == length roles) (list_all (λ (p : Role × VarId). suits p.0 (slice_get infos p.1.0)) (zip roles vars)) h in
      and_from (length ws == length roles) (list_all (λ (p : Role × VarId). suits p.0 (slice_get there p.1.0)) (zip roles ws))
      (ap (λ n. n == length roles) (partners_long vars ws is) ∙ hs.0) (all_suited roles vars ws is hs.1)
