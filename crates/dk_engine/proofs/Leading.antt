-- Leaders stand for their variables: they lead, they agree, and a row that admits the variables admits them.
use Rattle.std.specs.Prelude.{◌≡◌, ◌<◌, ◌^◌, ◌||◌, ◌==◌, Bool, true, false, not, Contains, List, [], ◌∷◌, Some, length, refl, slice_get, zip}
use Rattle.std.specs.List.{list_all}
use Rattle.std.proofs.Common.{ap, ◌∙◌, arith, sym, subst, get_or, inl, inr}
use Rattle.std.proofs.lemmas.Bool.{and_from, and_parts, cases_lt, eqb-true, false≢true}
use Rattle.std.proofs.lemmas.List.{length-map}
use Rattle.std.proofs.lemmas.List.Elements.{All-cons, All-head, All-map, All-nil, All-tail}
use Rattle.std.proofs.lemmas.Option.{slice_get_cases, slice_get-get_or}
use Rattle.dk_base.specs.Shapes.{is_base_form}
use Rattle.dk_base.specs.declared.kinds.VarId.{VarId}
use Rattle.dk_base.specs.declared.kinds.VarInfo.{VarInfo}
use Rattle.dk_base.specs.declared.values.Value.{Value}
use Rattle.dk_classes.proofs.Agreement.{classes_of_leaders}
use Rattle.dk_classes.proofs.OfKind.{kind_read}
use Rattle.dk_classes.proofs.OwnLeaders.{own_from_leads}
use Rattle.dk_classes.specs.Classes.{AreLeaders, var_kinds}
use Rattle.dk_classes.specs.Leaders.{own_leaders}
use Rattle.dk_instances.specs.Laws.{AreAlike}
use Rattle.dk_template.specs.Admitted.{admits, same_kind, suits}
use Rattle.dk_template.specs.Premises.{AreThere}
use Rattle.dk_template.specs.Templates.{is_base, kind_of, roles_of, template_of}
use Rattle.dk_template.specs.declared.grammar.RowId.{RowId}
use Rattle.dk_template.specs.declared.templates.Role.{Role}
use Rattle.dk_engine.specs.Exact.{AreOfPoint, Lead}
use Rattle.dk_engine.specs.Reading.Parts.{leader_of, leaders_of}
use Rattle.dk_engine.specs.Saved.Conditions.{AreLeadersOf}

-- ---- a role that a variable suits
-- the variable is there
pub there_if_suits : (role : Role) (infos : List VarInfo) (v : VarId) → suits role (slice_get infos v.0) ≡ true → v.0 < length infos
there_if_suits role infos v h = elim (slice_get_cases infos v.0).1 as (λ _. v.0 < length infos) [
  | inl c ↦ c.1
  | inr c ↦ absurd (false≢true (ap (suits role) (sym c.1) ∙ h))
]

-- a variable of its kind that is a base one too, if it is
suits_like : (role : Role) (a b : VarInfo) → b.kind ≡ a.kind → (is_base_form a.form ≡ true → is_base_form b.form ≡ true) → suits role (Some a) ≡ true → suits role (Some b) ≡ true
suits_like role a b kind base h =
    let hs = and_parts (same_kind a.kind (kind_of role)) (not (is_base role) || is_base_form a.form) h in
    and_from (same_kind b.kind (kind_of role)) (not (is_base role) || is_base_form b.form) (subst (λ k. same_kind k (kind_of role) ≡ true) (sym kind) hs.0)
    (either (is_base role) (is_base_form a.form) (is_base_form b.form) base hs.1)
  where
    either : (r x y : Bool) → (x ≡ true → y ≡ true) → (not r || x) ≡ true → (not r || y) ≡ true
    either true x y f e = f e
    either false x y f e = refl

-- ---- admitted variables are there
module _ (infos : List VarInfo) where
  abbrev is_suited : Role × VarId → Bool
  is_suited p = suits p.0 (slice_get infos p.1.0)

  there_by_roles : (roles : List Role) (vars : List VarId) → length vars ≡ length roles → list_all is_suited (zip roles vars) ≡ true → AreThere infos vars
  there_by_roles roles [] long h = All-nil _
  there_by_roles [] (v ∷ vars) long h = absurd (omega (arith, long))
  there_by_roles (role ∷ roles) (v ∷ vars) long h =
      let hs = and_parts (is_suited (role, v)) (list_all is_suited (zip roles vars)) h in
      All-cons (λ (w : VarId). w.0 < length infos) v vars (there_if_suits role infos v hs.0) (there_by_roles roles vars (omega (arith, long)) hs.1)

  pub admitted_there : (row : RowId) (vars : List VarId) → admits row infos vars ≡ true → AreThere infos vars
  admitted_there row vars h =
      let roles = roles_of (template_of row).takes in
      let hs = and_parts (length vars == length roles) (list_all is_suited (zip roles vars)) h in
      there_by_roles roles vars (eqb-true (length vars) (length roles) hs.0) hs.1

-- ---- leaders of the variables' kinds
module _ (infos : List VarInfo) (point : AreOfPoint infos) (leaders : List VarId) (are : AreLeadersOf infos leaders) where
  module _ (v : VarId) (l : v.0 < length infos) where
    within : v.0 < length leaders
    within = let long = are.long in omega arith

    leader_within : (leader_of leaders v).0 < length leaders
    leader_within = let before = are.classes.before v.0 within in let w = within in omega arith

    -- the leader is there
    pub leader_there : (leader_of leaders v).0 < length infos
    leader_there = let w = leader_within in let long = are.long in omega arith

    -- it leads
    pub leads : Contains (own_leaders leaders) (leader_of leaders v)
    leads = own_from_leads leaders (leader_of leaders v) leader_within (are.classes.own v.0 within)

  -- it suits each role that the variable suits
  leader_suits : (role : Role) (v : VarId) → suits role (slice_get infos v.0) ≡ true → suits role (slice_get infos (leader_of leaders v).0) ≡ true
  leader_suits role v h =
      let l = there_if_suits role infos v h in
      let w = leader_of leaders v in
      elim (slice_get_cases infos v.0).1 as (λ _. suits role (slice_get infos w.0) ≡ true) [
        | inl c ↦
            let a : VarInfo = c.0 in
            let own : get_or infos v.0 a ≡ a = c.3 in
            let kinds = sym (kind_read infos w.0 a (leader_there v l)) ∙ (are.kinds v.0 (within v l) ∙ (kind_read infos v.0 a l ∙ ap (λ (i : VarInfo). i.kind) own)) in
            ap (suits role) (slice_get-get_or infos w.0 a (leader_there v l))
            ∙ suits_like role a (get_or infos w.0 a) kinds (base v l a own) (ap (suits role) (sym c.2) ∙ h)
        | inr c ↦ absurd (false≢true (ap (suits role) (sym c.1) ∙ h))
      ]
    where
      base : (v : VarId) (l : v.0 < length infos) (a : VarInfo) → get_or infos v.0 a ≡ a → is_base_form a.form ≡ true → is_base_form (get_or infos (leader_of leaders v).0 a).form ≡ true
      base v l a own is = elim (cases_lt (leader_of leaders v).0 v.0) [
        | inl earlier ↦ point.base_first (leader_of leaders v).0 v.0 a earlier l (subst (λ (i : VarInfo). is_base_form i.form ≡ true) (sym own) is)
        | inr later ↦
            let before = are.classes.before v.0 (within v l) in
            let same : (leader_of leaders v).0 ≡ v.0 = omega arith in
            subst (λ (i : VarInfo). is_base_form i.form ≡ true) (sym (ap (λ n. get_or infos n a) same ∙ own)) is
      ]

  -- ---- tuples
  pub lead_all : (vars : List VarId) → AreThere infos vars → Lead leaders (leaders_of leaders vars)
  lead_all vars there = All-map (Contains (own_leaders leaders)) (leader_of leaders) vars (λ k d m. leads (get_or vars k d) (there k d m))

  suit_all : (roles : List Role) (vars : List VarId) → list_all (is_suited infos) (zip roles vars) ≡ true → list_all (is_suited infos) (zip roles (leaders_of leaders vars)) ≡ true
  suit_all [] vars h = refl
  suit_all (role ∷ roles) [] h = refl
  suit_all (role ∷ roles) (v ∷ vars) h =
      let hs = and_parts (is_suited infos (role, v)) (list_all (is_suited infos) (zip roles vars)) h in
      and_from (is_suited infos (role, leader_of leaders v)) (list_all (is_suited infos) (zip roles (leaders_of leaders vars))) (leader_suits role v hs.0) (suit_all roles vars hs.1)

  -- a row that admits variables admits their leaders
  pub admit_all : (row : RowId) (vars : List VarId) → admits row infos vars ≡ true → admits row infos (leaders_of leaders vars) ≡ true
  admit_all row vars h =
      let roles = roles_of (template_of row).takes in
      let hs = and_parts (length vars == length roles) (list_all (is_suited infos) (zip roles vars)) h in
      and_from (length (leaders_of leaders vars) == length roles) (list_all (is_suited infos) (zip roles (leaders_of leaders vars)))
      (ap (λ n. n == length roles) (length-map vars (leader_of leaders)) ∙ hs.0) (suit_all roles vars hs.1)

-- ---- leaders of samples
module _ (infos : List VarInfo) (samples : List (List Value)) (leaders : List VarId) (are : AreLeaders (var_kinds infos) samples leaders) where
  -- as many leaders as variables
  pub long_leaders : length leaders ≡ length infos
  long_leaders = are.long ∙ length-map infos (λ (i : VarInfo). i.kind)

  pub are_leaders_of : length infos < 2 ^ 32 → AreLeadersOf infos leaders
  are_leaders_of few = record {
    long = long_leaders;
    classes = classes_of_leaders (var_kinds infos) samples leaders are (let long = long_leaders in omega arith);
    kinds = λ v l. (are.each v l).holds.kind;
  }

  -- they agree with their variables
  pub agree_all : (vars : List VarId) → AreThere infos vars → AreAlike samples vars (leaders_of leaders vars)
  agree_all [] there = tt
  agree_all (v ∷ vars) there =
      let long = long_leaders in
      let here = All-head (λ (w : VarId). w.0 < length infos) v vars there in
      (λ k d m. sym ((are.each v.0 (omega arith)).holds.agree k d m), agree_all vars (All-tail (λ (w : VarId). w.0 < length infos) v vars there))
