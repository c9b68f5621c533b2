-- Premises can be asked wherever their conclusion admits the variables.
use Rattle.std.specs.Prelude.{◌≡◌, ◌<◌, ◌≤◌, ◌&&◌, ◌||◌, ◌==◌, ℕ, zero, suc, Bool, true, false, not, List, [], ◌∷◌, All, IsTrue, length, map, nat_le, nat_lt, zip, slice_get, slice_index_or, Option, Some, None, refl}
use Rattle.std.specs.List.{list_all, AllByRecursion}
use Rattle.std.proofs.Common.{arith, ap, sym, subst, ◌∙◌}
use Rattle.std.proofs.lemmas.Bool.{and_from, and_parts, eqb-true, false≢true, leb-true, ltb-true}
use Rattle.std.proofs.lemmas.List.Elements.{All-from_recursion}
use Rattle.dk_base.specs.Shapes.{is_base_form}
use Rattle.dk_base.specs.declared.kinds.Kind.{Kind}
use Rattle.dk_base.specs.declared.kinds.Kind.TheVariants as kind
use Rattle.dk_base.specs.declared.kinds.VarId.{VarId}
use Rattle.dk_base.specs.declared.kinds.VarInfo.{VarInfo}
use Rattle.dk_suppress.specs.Laws.{PremisesAreUsable}
use Rattle.dk_suppress.specs.Rules.{Rule, rules}
use Rattle.dk_template.specs.Admitted.{admits, same_kind, suit, suits}
use Rattle.dk_template.specs.Premises.{IsUsable, at_role, is_formed, roles_read, row_of, vars_of}
use Rattle.dk_template.specs.Templates.{IsRowOf, is_base, kind_of, roles_of, rows, template_of}
use Rattle.dk_template.specs.declared.answers.Premise.{Premise}
use Rattle.dk_template.specs.declared.answers.Premise.TheVariants.{Holds, LeastAtLeast, GreatestAtMost, Only}
use Rattle.dk_template.specs.declared.grammar.Grammar.{Grammar}
use Rattle.dk_template.specs.declared.grammar.Grammar.TheVariants as grammar
use Rattle.dk_template.specs.declared.grammar.RowId.{RowId}
use Rattle.dk_template.specs.declared.templates.Role.{Role}
use Rattle.dk_template.specs.declared.templates.Role.TheVariants.{Any}

-- ---- roles
kind_alike : (k l : Kind) → same_kind k l ≡ true → k ≡ l
kind_alike kind.Bool kind.Bool e = refl
kind_alike kind.Int kind.Int e = refl
kind_alike kind.Hash kind.Hash e = refl
kind_alike kind.Str kind.Str e = refl
kind_alike kind.BoolSeq kind.BoolSeq e = refl
kind_alike kind.IntSeq kind.IntSeq e = refl
kind_alike kind.HashSeq kind.HashSeq e = refl
kind_alike kind.StrSeq kind.StrSeq e = refl
kind_alike _ _ e = absurd (false≢true e)

-- what the first role takes the second takes too
abbrev takes_no_more : Role → Role → Bool
takes_no_more a b = same_kind (kind_of a) (kind_of b) && (not (is_base b) || is_base a)

base_too : (a b f : Bool) → (not b || a) ≡ true → (not a || f) ≡ true → (not b || f) ≡ true
base_too a false f h k = refl
base_too true true f h k = k
base_too false true f h k = absurd (false≢true h)

suits_too : (a b : Role) (o : Option VarInfo) → takes_no_more a b ≡ true → suits a o ≡ true → suits b o ≡ true
suits_too a b None h k = absurd (false≢true k)
suits_too a b (Some info) h k =
    let hs = and_parts (same_kind (kind_of a) (kind_of b)) (not (is_base b) || is_base a) h in
    let ks = and_parts (same_kind info.kind (kind_of a)) (not (is_base a) || is_base_form info.form) k in
    and_from (same_kind info.kind (kind_of b)) (not (is_base b) || is_base_form info.form)
    (subst (λ l. same_kind info.kind l ≡ true) (kind_alike (kind_of a) (kind_of b) hs.0) ks.0)
    (base_too (is_base a) (is_base b) (is_base_form info.form) hs.1 ks.1)

-- ---- lists
list_all_zip_at : {A B : Type 0} (test : A × B → Bool) (xs : List A) (ys : List B) → list_all test (zip xs ys) ≡ true → (i : ℕ) → i < length xs → i < length ys → (d : A) (e : B)
    → test (slice_index_or xs i d, slice_index_or ys i e) ≡ true
list_all_zip_at test [] ys h i m n d e = absurd (omega (arith, m))
list_all_zip_at test (x ∷ xs) [] h i m n d e = absurd (omega (arith, n))
list_all_zip_at test (x ∷ xs) (y ∷ ys) h zero m n d e = (and_parts (test (x, y)) (list_all test (zip xs ys)) h).0
list_all_zip_at test (x ∷ xs) (y ∷ ys) h (suc i) m n d e = list_all_zip_at test xs ys (and_parts (test (x, y)) (list_all test (zip xs ys)) h).1 i (omega (arith, m)) (omega (arith, n)) d e

All-list_all : {A : Type 0} (P : A → Type 0) (test : A → Bool) → ((x : A) → test x ≡ true → P x) → (xs : List A) → list_all test xs ≡ true → AllByRecursion P xs
All-list_all P test each [] h = tt
All-list_all P test each (x ∷ xs) h = let hs = and_parts (test x) (list_all test xs) h in (each x hs.0, All-list_all P test each xs hs.1)

-- ---- one premise
-- a role of the conclusion
abbrev role_of : RowId → ℕ → Role
role_of conclusion role = slice_index_or (roles_of (template_of conclusion).takes) role (Any kind.Int)

abbrev is_there : RowId → ℕ → Bool
is_there conclusion role = nat_lt role (length (roles_of (template_of conclusion).takes))

abbrev is_taken : RowId → Role × ℕ → Bool
is_taken conclusion r = takes_no_more (role_of conclusion r.1) r.0

-- The premise's row is one of both grammars and of the premise's form. It has as many roles as the premise reads, and each of them takes
-- what the role that is read takes.
abbrev can_be_asked : Rule → Premise → Bool
can_be_asked rule p =
    is_formed p && (nat_le 1 (row_of p).0 && (nat_le (row_of p).0 66 && (length (roles_read p) == length (roles_of (template_of (row_of p)).takes)
    && (list_all (is_there rule.0) (roles_read p) && list_all (is_taken rule.0) (zip (roles_of (template_of (row_of p)).takes) (roles_read p))))))

row_of_both : (g : Grammar) (r : RowId) → 1 ≤ r.0 → r.0 ≤ 66 → IsRowOf g r
row_of_both grammar.One r a b = (a, b)
row_of_both grammar.Two r a b = (a, omega (arith, b))

module _ (conclusion : RowId) (infos : List VarInfo) (vars : List VarId) (admitted : admits conclusion infos vars ≡ true) where
  abbrev of_conclusion : List Role
  of_conclusion = roles_of (template_of conclusion).takes

  parts : (length vars ≡ length of_conclusion) × (list_all (λ (p : Role × VarId). suits p.0 (slice_get infos p.1.0)) (zip of_conclusion vars) ≡ true)
  parts =
      let ps = and_parts (length vars == length of_conclusion) (list_all (λ (p : Role × VarId). suits p.0 (slice_get infos p.1.0)) (zip of_conclusion vars)) admitted in
      (eqb-true (length vars) (length of_conclusion) ps.0, ps.1)

  suits_at : (role : ℕ) → is_there conclusion role ≡ true → suits (role_of conclusion role) (slice_get infos (at_role role vars).0) ≡ true
  suits_at role h =
      let within : role < length of_conclusion = ltb-true role (length of_conclusion) h in
      let long : length vars ≡ length of_conclusion = parts.0 in
      list_all_zip_at (λ (p : Role × VarId). suits p.0 (slice_get infos p.1.0)) of_conclusion vars parts.1 role within (omega (arith, within, long)) (Any kind.Int) (record { 0 = 0 })

  suit_roles : (wanted : List Role) (reads : List ℕ) → list_all (is_there conclusion) reads ≡ true → list_all (is_taken conclusion) (zip wanted reads) ≡ true
      → list_all (λ (p : Role × VarId). suits p.0 (slice_get infos p.1.0)) (zip wanted (map (λ role. at_role role vars) reads)) ≡ true
  suit_roles [] reads h k = refl
  suit_roles (w ∷ ws) [] h k = refl
  suit_roles (w ∷ ws) (r ∷ rs) h k =
      let hs = and_parts (is_there conclusion r) (list_all (is_there conclusion) rs) h in
      let ks = and_parts (is_taken conclusion (w, r)) (list_all (is_taken conclusion) (zip ws rs)) k in
      and_from (suits w (slice_get infos (at_role r vars).0)) (list_all (λ (p : Role × VarId). suits p.0 (slice_get infos p.1.0)) (zip ws (map (λ role. at_role role vars) rs)))
      (suits_too (role_of conclusion r) w (slice_get infos (at_role r vars).0) ks.0 (suits_at r hs.0))
      (suit_roles ws rs hs.1 ks.1)

  map_long : (reads : List ℕ) → length (map (λ role. at_role role vars) reads) ≡ length reads
  map_long [] = refl
  map_long (r ∷ rs) = ap suc (map_long rs)

  -- a row's roles are suited by the variables at the roles that are read
  suit_all : (wanted : List Role) (reads : List ℕ) → (length reads == length wanted) ≡ true → list_all (is_there conclusion) reads ≡ true → list_all (is_taken conclusion) (zip wanted reads) ≡ true
      → suit wanted infos (map (λ role. at_role role vars) reads) ≡ true
  suit_all wanted reads n h k =
      and_from (length (map (λ role. at_role role vars) reads) == length wanted) (list_all (λ (p : Role × VarId). suits p.0 (slice_get infos p.1.0)) (zip wanted (map (λ role. at_role role vars) reads)))
      (ap (λ m. m == length wanted) (map_long reads) ∙ n) (suit_roles wanted reads h k)

  -- the variables that a premise asks about are those at the roles that it reads
  asked : (p : Premise) → vars_of p vars ≡ map (λ role. at_role role vars) (roles_read p)
  asked (Holds row roles) = refl
  asked (LeastAtLeast row role k) = refl
  asked (GreatestAtMost row role k) = refl
  asked (Only role k) = refl

  pub usable : (g : Grammar) (premises : List Premise) (p : Premise) → can_be_asked (conclusion, premises) p ≡ true → IsUsable g infos p vars
  usable g premises p h =
      let wanted = roles_of (template_of (row_of p)).takes in
      let reads = roles_read p in
      let h1 = and_parts (is_formed p) _ h in
      let h2 = and_parts (nat_le 1 (row_of p).0) _ h1.1 in
      let h3 = and_parts (nat_le (row_of p).0 66) _ h2.1 in
      let h4 = and_parts (length reads == length wanted) _ h3.1 in
      let h5 = and_parts (list_all (is_there conclusion) reads) (list_all (is_taken conclusion) (zip wanted reads)) h4.1 in
      let long : length vars ≡ length of_conclusion = parts.0 in
      record {
        formed = h1.0;
        row = row_of_both g (row_of p) (leb-true 1 (row_of p).0 h2.0) (leb-true (row_of p).0 66 h3.0);
        roles = All-from_recursion (λ role. role < length vars) reads
            (All-list_all (λ role. role < length vars) (is_there conclusion) (λ role e. subst (λ n. role < n) (sym long) (ltb-true role (length of_conclusion) e)) reads h5.0);
        admitted = subst (λ vs. admits (row_of p) infos vs ≡ true) (sym (asked p)) (suit_all wanted reads h4.0 h5.0 h5.1);
      }

-- ---- the table
all_can_be_asked : list_all (λ (r : Rule). list_all (can_be_asked r) r.1) rules ≡ true
unfolding rules rows
all_can_be_asked = refl

pub premises_usable : PremisesAreUsable
premises_usable g infos vars =
    let Usable : Rule → Type 0 = λ r. IsTrue (admits r.0 infos vars) → All (λ p. IsUsable g infos p vars) r.1 in
    All-from_recursion Usable rules (All-list_all Usable (λ r. list_all (can_be_asked r) r.1) (λ r h admitted.
    All-from_recursion (λ p. IsUsable g infos p vars) r.1 (All-list_all (λ p. IsUsable g infos p vars) (can_be_asked r) (λ p e. usable r.0 infos vars admitted g r.1 p e) r.1 h)) rules all_can_be_asked)
